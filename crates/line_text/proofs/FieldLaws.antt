-- A field: what its first bytes decide, and what is left to read after some digits. Assumes nothing.
use mathlib.Core.Path.{◌≡◌, refl}
use mathlib.Core.Bool.{Bool, true, false, cond, ◌&&◌}
use Rattle.std.specs.Prelude.{Option, None, Some}
use mathlib.Core.List.{List, [], ◌∷◌}
use Prim.Native.Nat.{ℕ, ◌+◌, ◌*◌, ◌-◌, ◌≤◌, ◌<◌}
use native.Mathlib.Nat.{le_refl}
use native.Mathlib.Numerals.{add-one}
use native.Mathlib.Omega.{arith}
use lib.Dec.{leb}
use lib.ListN.{length, get_or, drop}
use lib.Seq.{drop-cons, drop-length}
use borrow.Author.Tests.{le-leb, lt-leb, eq-eqb, ne_eqb}
use Rattle.line_text.specs.Fields.{all_digits, number_from, field_of}

-- the answer of the bytes after digits that wrote n
unfoldable pub rest_of : ℕ → List ℕ → Option ℕ
rest_of n bs = cond (all_digits bs && leb (number_from n bs) 4294967295) (Some (number_from n bs)) None

-- more digits write no smaller number
pub grows : (n : ℕ) (bs : List ℕ) → n ≤ number_from n bs
unfolding number_from
grows n [] = le_refl n
grows n (b ∷ bs) = omega (arith, grows (n * 10 + (b - 48)) bs)

pub empty : (bs : List ℕ) → length bs ≡ 0 → None ≡ field_of bs
unfolding field_of
empty [] e = refl
empty (b ∷ bs) e = absurd (omega arith)

pub zero-alone : (bs : List ℕ) → get_or bs 0 0 ≡ 48 → length bs ≡ 1 → Some 0 ≡ field_of bs
unfolding field_of all_digits number_from
zero-alone [] e l = absurd (omega arith)
zero-alone (b ∷ []) e l = rw e refl
zero-alone (b ∷ c ∷ bs) e l = absurd (omega arith)

pub zero-leads : (bs : List ℕ) → get_or bs 0 0 ≡ 48 → (length bs ≡ 1 → ⊥) → None ≡ field_of bs
unfolding field_of
zero-leads [] e l = refl
zero-leads (b ∷ []) e l = absurd (l refl)
zero-leads (b ∷ c ∷ bs) e l = simp (eq-eqb b 48 e)

pub starts : (bs : List ℕ) → (length bs ≡ 0 → ⊥) → (get_or bs 0 0 ≡ 48 → ⊥) → rest_of 0 bs ≡ field_of bs
unfolding field_of rest_of
starts [] l e = absurd (l refl)
starts (b ∷ []) l e = refl
starts (b ∷ c ∷ bs) l e = simp (ne_eqb b 48 e)

-- with one byte before the rest
pub low_byte : (n b : ℕ) (bs : List ℕ) → b < 48 → rest_of n (b ∷ bs) ≡ None
unfolding rest_of all_digits
low_byte n b bs l = rw (lt-leb 48 b l) refl

high_byte : (n b : ℕ) (bs : List ℕ) → 48 ≤ b → 57 < b → rest_of n (b ∷ bs) ≡ None
unfolding rest_of all_digits
high_byte n b bs l g = rw (le-leb 48 b l, lt-leb b 57 g) refl

next-byte : (n b : ℕ) (bs : List ℕ) → 48 ≤ b → b ≤ 57 → rest_of n (b ∷ bs) ≡ rest_of (n * 10 + (b - 48)) bs
unfolding rest_of all_digits number_from
next-byte n b bs l g = rw (le-leb 48 b l, le-leb b 57 g) refl

and-false : (t : Bool) → t && false ≡ false
and-false true = refl
and-false false = refl

pub too_large : (n : ℕ) (bs : List ℕ) → 4294967295 < number_from n bs → rest_of n bs ≡ None
unfolding rest_of
too_large n bs g = rw (lt-leb (number_from n bs) 4294967295 g, and-false (all_digits bs)) refl

above : (n : ℕ) (bs : List ℕ) → 4294967295 < n → rest_of n bs ≡ None
above n bs l = too_large n bs (omega (arith, grows n bs))

module _ (bs : List ℕ) (n i : ℕ) (h : i < length bs) where
  pub low : get_or bs i 0 < 48 → rest_of n (drop i bs) ≡ None
  low l = rw (drop-cons bs i 0 h) (low_byte _ _ _ l)

  pub high : 48 ≤ get_or bs i 0 → 57 < get_or bs i 0 → rest_of n (drop i bs) ≡ None
  high l g = rw (drop-cons bs i 0 h) (high_byte _ _ _ l g)

  pub next : 48 ≤ get_or bs i 0 → get_or bs i 0 ≤ 57 → rest_of n (drop i bs) ≡ rest_of (n * 10 + (get_or bs i 0 - 48)) (drop (i + 1) bs)
  next l g = rw (drop-cons bs i 0 h, add-one i) (next-byte _ _ _ l g)

  pub over : 48 ≤ get_or bs i 0 → get_or bs i 0 ≤ 57 → 4294967295 < n * 10 + (get_or bs i 0 - 48) → rest_of n (drop i bs) ≡ None
  over l g o = rw (next l g) (above _ _ o)

pub ends : (bs : List ℕ) (n i : ℕ) → n ≤ 4294967295 → i ≡ length bs → rest_of n (drop i bs) ≡ Some n
unfolding rest_of all_digits number_from
ends bs n i l e = rw (e, drop-length bs, le-leb n 4294967295 l) refl

-- what the tactics know of a field read
pub ruleset reading = (empty, zero-alone, zero-leads, starts, low, high, next, over, ends)
