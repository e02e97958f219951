-- The model's walk over the blocks of a run of whole pages, taken apart: in one block; or the first block, the last, and those between,
-- in the order in which the code takes them. Assumes nothing.
use Rattle.std.proofs.Common.{◌≡◌, ℕ, zero, suc, ◌+◌, ◌-◌, ◌*◌, ◌/◌, ◌%◌, ◌<◌, ◌≤◌, Bool, true, false, cond, ◌&&◌, eqb, ltb, leb, sym, refl, ap, ◌∙◌, arith, le-ltb, lt-ltb, eq-eqb, ne_eqb, le-leb}
use native.Mathlib.Decide.{ℕ_discrete, dec_lt, dec_le}
use borrow.Author.Tests.{lt-leb}
use Rattle.words.proofs.CaseLaws.{bool}
use Rattle.words.specs.Word.{bit_at, is_set, span}
use Rattle.words.proofs.SpanLaws.{span-in, span_below, span-above}
use Rattle.model.specs.Window.{Window, pages_of, blocks_of}
use Rattle.model.specs.Steps.{pages_in, retire_in_block, retire_block_of, covers_block, retire_blocks_of, retire_pages_of}
use Rattle.block_retire.specs.Retire.{retire_each}
use Rattle.block_retire.proofs.EachLaws.{each_none, each_same, each-split}
use Rattle.block_retire.proofs.InBlockLaws.{each-comm}

-- ---- a span of bits, and the pages and blocks that it names

module _ (f t i : ℕ) (le : f ≤ t) where
  pub span_set : f ≤ i → i < t → is_set (span f t) i ≡ true
  span_set a b = eq-eqb (bit_at (span f t) i) 1 (span-in f t i a b)

  pub span-unset-below : i < f → is_set (span f t) i ≡ false
  span-unset-below a = ne_eqb (bit_at (span f t) i) 1 (λ e. omega (arith, e, span_below f t i le a))

  pub span-unset-above : t ≤ i → is_set (span f t) i ≡ false
  span-unset-above a = ne_eqb (bit_at (span f t) i) 1 (λ e. omega (arith, e, span-above f t i a))

-- the bits from f up to t name just the pages from `from` up to `to` in block b
pub span-pages : (f t from to b i : ℕ) → f ≤ t → i < 64 → (f ≤ i → from ≤ 64 * b + i) → (i < f → 64 * b + i < from) → (i < t → 64 * b + i < to) → (t ≤ i → to ≤ 64 * b + i)
    → is_set (span f t) i ≡ pages_in from to b i
span-pages f t from to b i le l low low' high high' =
    elim (dec_le f i) [
      | yes p ↦ elim (dec_lt i t) [
        | yes q ↦ rw (span_set f t i le p q, le-leb from (64 * b + i) (low p), lt-ltb (64 * b + i) to (high q))
        | no q ↦ rw (span-unset-above f t i le (omega arith), le-leb from (64 * b + i) (low p), le-ltb (64 * b + i) to (high' (omega arith)))
      ]
      | no p ↦ rw (span-unset-below f t i le (omega arith), lt-leb from (64 * b + i) (low' (omega arith)))
    ]

-- the blocks of a span of bits, all of them retired
abbrev pub every : ℕ → Bool
every i = true

pub each-span : (f t : ℕ) (w : Window) → f ≤ t → t ≤ 64 → retire_each 64 0 (is_set (span f t)) w ≡ retire_each (t - f) f every w
each-span f t w le top =
    let P = is_set (span f t) in
    let n = t - f in
    let rest = 64 - t in
    each-split f (n + rest) 0 64 f P w (omega arith) (omega arith)
    ∙ ap (retire_each (n + rest) f P) (each_none f 0 P w (λ i x y. span-unset-below f t i le (omega arith)))
    ∙ each-split n rest f (n + rest) t P w refl (omega arith)
    ∙ each_none rest t P (retire_each n f P w) (λ i x y. span-unset-above f t i le x)
    ∙ each_same n f P every w (λ i x y. span_set f t i le x (omega arith))

-- ---- the walk

module _ (from to : ℕ) (several : Bool) where
  -- block b has pages of the run
  abbrev meets : ℕ → Bool
  meets b = ltb from (64 * b + 64) && ltb (64 * b) to

  run-split : (m n b t e : ℕ) (w : Window) → t ≡ m + n → e ≡ m + b → retire_blocks_of t b w from to several ≡ retire_blocks_of n e (retire_blocks_of m b w from to several) from to several
  unfolding retire_blocks_of
  run-split zero n b t e w p q =
      let x : t ≡ n = omega arith in
      let y : b ≡ e = omega arith in
      λ i. retire_blocks_of (x i) (y i) w from to several
  run-split (suc m) n b t e w p q =
      let x : t ≡ suc (m + n) = omega arith in
      ap (λ (s : ℕ). retire_blocks_of s b w from to several) x
      ∙ run-split m n (suc b) (m + n) e (cond (meets b) (cond (several && covers_block from to b) (retire_block_of w b) (retire_in_block w from to b)) w) refl (omega arith)

  run_none : (n b : ℕ) (w : Window) → ((i : ℕ) → b ≤ i → i < n + b → meets i ≡ false) → retire_blocks_of n b w from to several ≡ w
  unfolding retire_blocks_of
  run_none zero b w h = refl
  run_none (suc n) b w h = rw (h b (omega arith) (omega arith)) (run_none n (suc b) w (λ i x y. h i (omega arith) (omega arith)))

  run-part : (b : ℕ) (w : Window) → meets b ≡ true → several && covers_block from to b ≡ false → retire_blocks_of 1 b w from to several ≡ retire_in_block w from to b
  unfolding retire_blocks_of
  run-part b w m c = rw (m, c)

  run-covered : several ≡ true → (n b : ℕ) (w : Window) → ((i : ℕ) → b ≤ i → i < n + b → (meets i ≡ true) × (covers_block from to i ≡ true)) → retire_blocks_of n b w from to several ≡ retire_each n b every w
  unfolding retire_blocks_of retire_each
  run-covered s zero b w h = refl
  run-covered s (suc n) b w h =
      let t = h b (omega arith) (omega arith) in
      rw (t.0, s, t.1) (rw s at (run-covered s n (suc b) (retire_block_of w b) (λ i x y. h i (omega arith) (omega arith))))

-- where a block meets the run, and where it does not
meets-yes : (from to b : ℕ) → from < 64 * b + 64 → 64 * b < to → meets from to true b ≡ true
meets-yes from to b l m = rw (lt-ltb from (64 * b + 64) l, lt-ltb (64 * b) to m)

meets-below : (from to b : ℕ) → 64 * b + 64 ≤ from → meets from to true b ≡ false
meets-below from to b l = rw (le-ltb from (64 * b + 64) l)

meets-above : (from to b : ℕ) → to ≤ 64 * b → meets from to true b ≡ false
meets-above from to b l = bool (ltb from (64 * b + 64)) (λ e. rw (e, le-ltb (64 * b) to l)) (λ e. rw e)

module _ (w : Window) (from to : ℕ) (less : from < to) (inside : to ≤ pages_of w) where
  abbrev first : ℕ
  first = from / 64

  abbrev last : ℕ
  last = (to - 1) / 64

  abbrev n : ℕ
  n = blocks_of w

  -- pages of one block
  pub pages-one : from / 64 ≡ (to - 1) / 64 → retire_pages_of w from to ≡ retire_in_block w from to (from / 64)
  unfolding retire_pages_of
  pages-one e =
      rw (lt-ltb from to less, eq-eqb (from / 64) ((to - 1) / 64) e)
      (run-split from to false first (n - first) 0 n first w (omega arith) (omega arith)
      ∙ ap (λ (v : Window). retire_blocks_of (n - first) first v from to false) (run_none from to false first 0 w (λ i x y. meets-below from to i (omega arith)))
      ∙ run-split from to false 1 (n - first - 1) first (n - first) (first + 1) w (omega arith) (omega arith)
      ∙ run_none from to false (n - first - 1) (first + 1) (retire_blocks_of 1 first w from to false) (λ i x y. meets-above from to i (omega arith))
      ∙ run-part from to false first w (meets-yes from to first (omega arith) (omega arith)) refl)

  -- the first block, if it is not covered entirely, and the last
  abbrev pub first_part_of : Window → Window
  first_part_of v = cond (eqb (from % 64) 0) v (retire_in_block v from to (from / 64))

  abbrev pub last_part : Window → Window
  last_part v = cond (eqb (to % 64) 0) v (retire_in_block v from to (to / 64))

  -- the blocks covered entirely
  abbrev pub between : Window → Window
  between v = retire_each (to / 64 - (from + 63) / 64) ((from + 63) / 64) every v

  module _ (several : from / 64 ≡ (to - 1) / 64 → ⊥) where
    abbrev covered : ℕ
    covered = (from + 63) / 64

    abbrev ends : ℕ
    ends = to / 64

    far : from / 64 < (to - 1) / 64
    far = omega arith

    first-is : retire_blocks_of (covered - first) first w from to true ≡ first_part_of w
    first-is =
        elim (ℕ_discrete (from % 64) 0) [
          | yes e ↦
              let z : covered - first ≡ 0 = omega arith in
              rw (z, eq-eqb (from % 64) 0 e) (run_none from to true 0 first w (λ i x y. absurd (omega arith)))
          | no e ↦
              let z : covered - first ≡ 1 = omega arith in
              rw (z, ne_eqb (from % 64) 0 e) (run-part from to true first w (meets-yes from to first (omega arith) (omega (arith, far))) (rw (lt-leb from (64 * first) (omega arith))))
        ]

    last-is : (v : Window) → retire_blocks_of (last + 1 - ends) ends v from to true ≡ last_part v
    last-is v =
        elim (ℕ_discrete (to % 64) 0) [
          | yes e ↦
              let z : last + 1 - ends ≡ 0 = omega arith in
              rw (z, eq-eqb (to % 64) 0 e) (run_none from to true 0 ends v (λ i x y. absurd (omega arith)))
          | no e ↦
              let z : last + 1 - ends ≡ 1 = omega arith in
              rw (z, ne_eqb (to % 64) 0 e)
              (run-part from to true ends v (meets-yes from to ends (omega (arith, far)) (omega arith))
              (bool (leb from (64 * ends)) (λ q. rw (q, lt-leb (64 * ends + 64) to (omega arith))) (λ q. rw q)))
        ]

    between_is : (v : Window) → retire_blocks_of (ends - covered) covered v from to true ≡ between v
    between_is v =
        run-covered from to true refl (ends - covered) covered v
        (λ i x y. (meets-yes from to i (omega arith) (omega arith), rw (le-leb from (64 * i) (omega arith), le-leb (64 * i + 64) to (omega arith))))

    -- the last block, which is none of those between, before or after them
    last-comm : (v : Window) → last_part (between v) ≡ between (last_part v)
    last-comm v =
        bool (eqb (to % 64) 0)
        (λ e. rw e)
        (λ e. rw e (sym (each-comm (ends - covered) covered every v from to ends (λ i x y z. omega (arith, far)))))

    pub pages-several : retire_pages_of w from to ≡ between (last_part (first_part_of w))
    unfolding retire_pages_of
    pages-several =
        rw (lt-ltb from to less, ne_eqb (from / 64) ((to - 1) / 64) several)
        (run-split from to true first (n - first) 0 n first w (omega arith) (omega arith)
        ∙ ap (λ (v : Window). retire_blocks_of (n - first) first v from to true) (run_none from to true first 0 w (λ i x y. meets-below from to i (omega arith)))
        ∙ run-split from to true (covered - first) (n - covered) first (n - first) covered w (omega (arith, far)) (omega arith)
        ∙ ap (λ (v : Window). retire_blocks_of (n - covered) covered v from to true) first-is
        ∙ run-split from to true (ends - covered) (n - ends) covered (n - covered) ends (first_part_of w) (omega (arith, far)) (omega (arith, far))
        ∙ ap (λ (v : Window). retire_blocks_of (n - ends) ends v from to true) (between_is (first_part_of w))
        ∙ run-split from to true (last + 1 - ends) (n - (last + 1)) ends (n - ends) (last + 1) (between (first_part_of w)) (omega arith) (omega arith)
        ∙ run_none from to true (n - (last + 1)) (last + 1) (retire_blocks_of (last + 1 - ends) ends (between (first_part_of w)) from to true) (λ i x y. meets-above from to i (omega arith))
        ∙ last-is (between (first_part_of w))
        ∙ last-comm (first_part_of w))

-- no pages
pub pages-none : (w : Window) (from to : ℕ) → to ≤ from → retire_pages_of w from to ≡ w
unfolding retire_pages_of
pages-none w from to l = rw (le-ltb from to l)
