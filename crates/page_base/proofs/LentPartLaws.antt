-- A page lent as `&mut xs[64 * g..64 * g + 64]`, as the borrow checker says it, is the page's part, and what comes back is the list
-- with that part. Assumes nothing.
use mathlib.Core.Path.{◌≡◌, sym, subst}
use mathlib.Core.List.{List}
use Prim.Native.Nat.{ℕ, ◌+◌, ◌*◌, ◌-◌}
use native.Mathlib.Omega.{arith}
use lib.ListN.{take, drop}
use borrow.Rule.Slice.PartMut.{put_mid}
use Rattle.page_base.specs.Page.{part_of, with_part}

size : (a : ℕ) → (a + 64) - a ≡ 64
size a = omega arith

pub lent : (g : ℕ) (xs : List ℕ) → take ((64 * g + 64) - 64 * g) (drop (64 * g) xs) ≡ part_of g xs
unfolding part_of
lent g xs = rw (size (64 * g))

pub back : (g : ℕ) (xs ys : List ℕ) → put_mid (64 * g) ((64 * g + 64) - 64 * g) xs ys ≡ with_part g xs ys
unfolding with_part
back g xs ys = rw (size (64 * g))

-- the same of two lists at once
pub lent_both : (g : ℕ) (xs ys : List ℕ) (P : List ℕ → List ℕ → Type 0)
    → P (take ((64 * g + 64) - 64 * g) (drop (64 * g) xs)) (take ((64 * g + 64) - 64 * g) (drop (64 * g) ys)) → P (part_of g xs) (part_of g ys)
lent_both g xs ys P h = subst (λ (k : List ℕ). P k (part_of g ys)) (lent g xs) (subst (P (take ((64 * g + 64) - 64 * g) (drop (64 * g) xs))) (lent g ys) h)

pub back-both : (g : ℕ) (xs ys xs' ys' : List ℕ) (P : List ℕ → List ℕ → Type 0)
    → P (with_part g xs xs') (with_part g ys ys') → P (put_mid (64 * g) ((64 * g + 64) - 64 * g) xs xs') (put_mid (64 * g) ((64 * g + 64) - 64 * g) ys ys')
back-both g xs ys xs' ys' P h =
    subst (λ (k : List ℕ). P k (put_mid (64 * g) ((64 * g + 64) - 64 * g) ys ys')) (sym (back g xs xs')) (subst (P (with_part g xs xs')) (sym (back g ys ys')) h)
