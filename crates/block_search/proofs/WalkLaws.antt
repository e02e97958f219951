-- A walk over the selected pages, each with a word whose bits name the places that are looked for: what was passed, and what the
-- walk finds. Assumes nothing.
use mathlib.Core.Path.{◌≡◌, sym, ap, ◌∙◌}
use mathlib.Core.Bool.{Bool, true, false, true≢false}
use Prim.Native.Nat.{ℕ, ◌+◌, ◌-◌, ◌*◌, ◌/◌, ◌%◌, ◌^◌, ◌≤◌, ◌<◌}
use native.Mathlib.Omega.{arith}
use native.Mathlib.Decide.{dec_lt, ℕ_discrete}
use lib.Bits.{bit_and, and_le_l}
use borrow.Author.Tests.{le-leb, lt-ltb, leb-true, ltb-true, eqb-true, eq-eqb}
use Rattle.words.proofs.CaseLaws.{bool, both}
use Rattle.words.specs.First.{first_from_of}
use Rattle.words.proofs.FirstLaws.{IsFirst, first-is, first-eq}
use Rattle.words.specs.Word.{bit_at, lowest}
use Rattle.words.proofs.BitLaws.{bit-lt, bit-and, bit-none}
use Rattle.words.proofs.LowestLaws.{lowest-is, lowest-some}
use Rattle.block_search.specs.Search.{bits_within_of}
use Rattle.block_search.proofs.SearchLaws.{bits-within-set}

-- ---- what was passed

-- of the pages from `first` on and below `from`, no selected one has a bit in its word
pub record Passed (selected : ℕ → Bool) (word : ℕ → ℕ) (first from : ℕ) : Type 0 where
  pub begun : first ≤ from
  pub nothing : (g : ℕ) → first ≤ g → g < from → selected g ≡ true → word g ≡ 0

module _ (selected : ℕ → Bool) (word : ℕ → ℕ) (first : ℕ) where
  -- a selected page with no bit in its word is passed
  pub passed-page : (g : ℕ) → Passed selected word first g → word g ≡ 0 → Passed selected word first (g + 1)
  passed-page g t e = record {
    begun = omega (arith, t.begun);
    nothing = λ r a b s. elim (ℕ_discrete r g) [ yes q ↦ ap word q ∙ e | no q ↦ t.nothing r a (omega arith) s ];
  }

  -- the next selected page
  module _ (from stop g : ℕ) (t : Passed selected word first from) (low : from ≤ stop) (e : g ≡ first_from_of selected (stop - from) from) where
    found-is : IsFirst selected from (stop - from + from) (first_from_of selected (stop - from) from)
    found-is = first-is selected (stop - from) from

    pub next-ge : from ≤ g
    next-ge = omega (arith, found-is.from)

    pub next-selected : g < stop → selected g ≡ true
    next-selected l = ap selected e ∙ found-is.held (omega arith)

    -- nothing up to it
    pub passed_to : Passed selected word first g
    passed_to = record {
      begun = omega (arith, t.begun, next-ge);
      nothing = λ r a b s. elim (dec_lt r from) [
        | yes l ↦ t.nothing r a l s
        | no l ↦ absurd (true≢false (sym s ∙ found-is.none r (omega arith) (omega arith)))
      ];
    }

-- ---- the bits of a word that are in the range

module _ (start end : ℕ) where
  in-range : (q : ℕ) → start ≤ q → q < end → bit_at (bits_within_of start end (q / 64)) (q % 64) ≡ 1
  in-range q a b =
      eqb-true _ _ (bits-within-set start end (q / 64) (q % 64) (omega arith)
      ∙ rw (le-leb start (64 * (q / 64) + q % 64) (omega arith), lt-ltb (64 * (q / 64) + q % 64) end (omega arith)))

  pub clear-in-range : (w q : ℕ) → start ≤ q → q < end → bit_at (bit_and w (bits_within_of start end (q / 64))) (q % 64) ≡ 0 → bit_at w (q % 64) ≡ 0
  clear-in-range w q a b z = omega (arith, z, bit-and w (bits_within_of start end (q / 64)) (q % 64), in-range q a b, bit-lt w (q % 64))

  -- the lowest of them
  module _ (g w : ℕ) (fits : w < 2 ^ 64) (some : bit_and w (bits_within_of start end g) ≡ 0 → ⊥) where
    abbrev j : ℕ
    j = lowest (bit_and w (bits_within_of start end g)) 0

    pub lowest-lt : lowest (bit_and w (bits_within_of start end g)) 0 < 64
    lowest-lt = lowest-some (bit_and w (bits_within_of start end g)) (omega (arith, and_le_l w (bits_within_of start end g))) some

    bits : (bit_at w j ≡ 1) × (bit_at (bits_within_of start end g) j ≡ 1)
    bits =
        let held = (lowest-is (bit_and w (bits_within_of start end g)) 0 (omega arith)).held lowest-lt in
        let a = bit-and w (bits_within_of start end g) j in
        let b = bit-lt w j in
        let c = bit-lt (bits_within_of start end g) j in
        (omega (arith, a, b, c, held), omega (arith, a, b, c, held))

    pub lowest-held : bit_at w (lowest (bit_and w (bits_within_of start end g)) 0) ≡ 1
    lowest-held = bits.0

    pub lowest-range : (start ≤ 64 * g + lowest (bit_and w (bits_within_of start end g)) 0) × (64 * g + lowest (bit_and w (bits_within_of start end g)) 0 < end)
    lowest-range =
        let e = sym (bits-within-set start end g j lowest-lt) ∙ eq-eqb (bit_at (bits_within_of start end g) j) 1 bits.1 in
        let w = both _ _ e in
        (leb-true _ _ w.0, ltb-true _ _ w.1)

-- ---- what the walk finds: P holds at no place of a page that is not selected, and at no place whose bit is clear

module _ (selected : ℕ → Bool) (word : ℕ → ℕ) (P : ℕ → Bool) (start end : ℕ)
    (unselected : (q : ℕ) → start ≤ q → q < end → selected (q / 64) ≡ false → P q ≡ false)
    (unset : (q : ℕ) → start ≤ q → q < end → bit_at (word (q / 64)) (q % 64) ≡ 0 → P q ≡ false) where
  none_passed : (from : ℕ) → Passed selected word (start / 64) from → (q : ℕ) → start ≤ q → q < end → q < 64 * from → P q ≡ false
  none_passed from t q a b c =
      bool (selected (q / 64))
      (λ s. unset q a b (ap (λ (w : ℕ). bit_at w (q % 64)) (t.nothing (q / 64) (omega arith) (omega arith) s) ∙ bit-none (q % 64)))
      (unselected q a b)

  -- every page was passed
  pub walk_end : start < end → (from : ℕ) → (end - 1) / 64 < from → Passed selected word (start / 64) from → end ≡ first_from_of P (end - start) start
  walk_end l from past t = first-eq P (end - start) start end (record {
    from = omega arith;
    top = omega arith;
    held = λ m. absurd (omega arith);
    none = λ j a b. none_passed from t j a b (omega arith);
  })

  -- P holds at the lowest bit of page g
  module _ (g : ℕ) (t : Passed selected word (start / 64) g) (inside : lowest (word g) 0 < 64)
      (range : (start ≤ 64 * g + lowest (word g) 0) × (64 * g + lowest (word g) 0 < end)) (here : P (64 * g + lowest (word g) 0) ≡ true) where
    none_before : (q : ℕ) → start ≤ q → q < 64 * g + lowest (word g) 0 → P q ≡ false
    none_before q a b =
        elim (dec_lt q (64 * g)) [
          | yes c ↦ none_passed g t q a (omega (arith, range.1)) c
          | no c ↦
              let d : q / 64 ≡ g = omega (arith, inside) in
              unset q a (omega (arith, range.1))
              (ap (λ (x : ℕ). bit_at (word x) (q % 64)) d ∙ (lowest-is (word g) 0 (omega arith)).none (q % 64) (omega arith) (omega arith))
        ]

    pub walk-found : 64 * g + lowest (word g) 0 ≡ first_from_of P (end - start) start
    walk-found = first-eq P (end - start) start (64 * g + lowest (word g) 0) (record {
      from = range.0;
      top = omega (arith, range.0, range.1);
      held = λ m. here;
      none = none_before;
    })
