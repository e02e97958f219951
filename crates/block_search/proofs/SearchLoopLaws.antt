-- The search over plain variables: what is known of the blocks still to be looked at, and each step of the loop. Assumes nothing.
use mathlib.Core.Path.{◌≡◌, sym, ap, ◌∙◌}
use mathlib.Core.Bool.{Bool, true, false, ◌&&◌, and-true, and-false}
use mathlib.Core.List.{List}
use Prim.Native.Nat.{ℕ, ◌+◌, ◌-◌, ◌*◌, ◌/◌, ◌%◌, ◌^◌, ◌≤◌, ◌<◌}
use native.Mathlib.Omega.{arith}
use native.Mathlib.Decide.{ℕ_discrete, dec_le}
use lib.Dec.{eqb, leb, ltb}
use lib.Bits.{bit_and, and_le_l, and_le_r}
use borrow.Author.Tests.{le-leb, lt-ltb, eq-eqb, leb-true, ltb-true}
use Rattle.words.proofs.CaseLaws.{both}
use Rattle.words.specs.First.{first_from_of}
use Rattle.words.proofs.FirstLaws.{first-eq}
use Rattle.words.specs.Word.{bit_at, is_set, span, lowest, clear_bit, count}
use Rattle.words.proofs.BitLaws.{bit-lt, bit-none, bit-and}
use Rattle.words.proofs.ChangeLaws.{with-other}
use Rattle.words.proofs.SpanLaws.{span-in, span_below, span-above, span-lt}
use Rattle.words.proofs.LowestLaws.{lowest-is, lowest-some}
use Rattle.words.proofs.TakeLaws.{taken-held, rest-fits, rest-among, rest-fewer}
use Rattle.words.proofs.TestLaws.{and_set}
use Rattle.model.specs.Table.{within}
use Rattle.block_search.specs.declared.Select.{Select}
use Rattle.block_search.specs.Search.{bits_within_of, is_selected, selected_pages_of}
use Rattle.block_search.proofs.SearchLaws.{bits-within-set, selected-lt, selected-in}

module _ (blocks : List ℕ) (summary retired_blocks start end : ℕ) (select : Select) where
  abbrev pub Looked : ℕ → Bool
  Looked = is_selected blocks summary retired_blocks select

  -- the selected pages of block b that are in the range
  abbrev pub pages_in : ℕ → ℕ
  pages_in b = bit_and (selected_pages_of blocks retired_blocks b select) (bits_within_of start end b)

  -- `left` names the blocks still to be looked at: some of the summary's, and no page of another block is selected
  pub record Left (left : ℕ) : Type 0 where
    pub small : left < 2 ^ 64
    pub low : (b : ℕ) → bit_at left b ≡ 1 → start / 64 ≤ b
    pub high : (b : ℕ) → bit_at left b ≡ 1 → b ≤ (end - 1) / 64
    pub named : (b : ℕ) → bit_at left b ≡ 1 → bit_at summary b ≡ 1
    pub none : (g : ℕ) → start ≤ g → g < end → bit_at left (g / 64) ≡ 0 → Looked g ≡ false

  in-range : (g : ℕ) → start ≤ g → g < end → within start end (64 * (g / 64) + g % 64) ≡ true
  in-range g l m = rw (le-leb start (64 * (g / 64) + g % 64) (omega arith), lt-ltb (64 * (g / 64) + g % 64) end (omega arith))

  -- for a page in the range the word of its block tells
  page-bit : (g : ℕ) → start ≤ g → g < end → is_set (pages_in (g / 64)) (g % 64) ≡ is_set (selected_pages_of blocks retired_blocks (g / 64) select) (g % 64)
  page-bit g l m =
      and_set (selected_pages_of blocks retired_blocks (g / 64) select) (bits_within_of start end (g / 64)) (g % 64)
      ∙ ap (λ (t : Bool). is_set (selected_pages_of blocks retired_blocks (g / 64) select) (g % 64) && t)
      (bits-within-set start end (g / 64) (g % 64) (omega arith) ∙ in-range g l m)
      ∙ and-true _

  unselected : (g : ℕ) → start ≤ g → g < end → bit_at (pages_in (g / 64)) (g % 64) ≡ 0 → Looked g ≡ false
  unselected g l m e =
      let no : is_set (pages_in (g / 64)) (g % 64) ≡ false = ap (λ (d : ℕ). eqb d 1) e in
      selected-in blocks summary retired_blocks select g
      ∙ ap (λ (t : Bool). is_set summary (g / 64) && t) (sym (page-bit g l m) ∙ no)
      ∙ and-false (is_set summary (g / 64))

  -- a block that the summary does not name
  unnamed : (g : ℕ) → bit_at summary (g / 64) ≡ 0 → Looked g ≡ false
  unnamed g e =
      let no : is_set summary (g / 64) ≡ false = ap (λ (d : ℕ). eqb d 1) e in
      selected-in blocks summary retired_blocks select g ∙ ap (λ (t : Bool). t && is_set (selected_pages_of blocks retired_blocks (g / 64) select) (g % 64)) no

  pages-lt : (b : ℕ) → pages_in b < 2 ^ 64
  pages-lt b =
      let l = and_le_l (selected_pages_of blocks retired_blocks b select) (bits_within_of start end b) in
      omega (arith, l, selected-lt blocks summary retired_blocks select b)

  -- what the code holds for them
  pub code_is : (d x y b : ℕ) → x ≡ selected_pages_of blocks retired_blocks d select → y ≡ bits_within_of start end d → d ≡ b
      → bit_and x y ≡ pages_in b
  code_is d x y b ex ey e = (λ i. bit_and (ex i) (ey i)) ∙ ap pages_in e

  -- ---- no page of the range is selected
  pub nowhere : start ≤ end → ((g : ℕ) → start ≤ g → g < end → Looked g ≡ false) → end ≡ first_from_of Looked (end - start) start
  nowhere l empty = first-eq Looked (end - start) start end (record { from = l; top = omega arith; held = λ m. absurd (omega arith); none = empty })

  pub ends : start ≤ end → (left : ℕ) → Left left → left ≡ 0 → end ≡ first_from_of Looked (end - start) start
  ends l left known e = nowhere l (λ g a m. known.none g a m (ap (λ (w : ℕ). bit_at w (g / 64)) e ∙ bit-none (g / 64)))

  -- ---- the loop begins
  pub begins : start < end → end ≤ 1024 → Left (bit_and summary (span (start / 64) ((end - 1) / 64 + 1)))
  begins some few =
      let first = start / 64 in
      let last = (end - 1) / 64 in
      let range = span first (last + 1) in
      record {
        small = omega (arith, and_le_r summary range, span-lt 64 first (last + 1) (omega arith));
        low = λ b e. elim (dec_le first b) [
          | yes p ↦ p
          | no p ↦ absurd (omega (arith, e, bit-and summary range b, span_below first (last + 1) b (omega arith) (omega arith)))
        ];
        high = λ b e. elim (dec_le b last) [
          | yes p ↦ p
          | no p ↦ absurd (omega (arith, e, bit-and summary range b, span-above first (last + 1) b (omega arith)))
        ];
        named = λ b e. omega (arith, e, bit-and summary range b, bit-lt summary b, bit-lt range b);
        none = λ g l m e.
            unnamed g (omega (arith, e, bit-and summary range (g / 64), span-in first (last + 1) (g / 64) (omega arith) (omega arith)));
      }

  -- ---- a turn
  module _ (left : ℕ) (known : Left left) (some : left ≡ 0 → ⊥) where
    abbrev b : ℕ
    b = lowest left 0

    pub block-below : b < 64
    block-below = lowest-some left known.small some

    block_held : bit_at left b ≡ 1
    block_held = taken-held left known.small some

    pub block_in : (d : ℕ) → d ≡ lowest left 0 → (start / 64 ≤ d) × (d ≤ (end - 1) / 64)
    block_in d e = rw e (known.low b block_held, known.high b block_held)

    before : (d : ℕ) → d < b → bit_at left d ≡ 0
    before d l = (lowest-is left 0 (omega arith)).none d (omega arith) l

    kept : (d : ℕ) → bit_at (clear_bit left b) d ≡ 1 → bit_at left d ≡ 1
    kept = rest-among left known.small some

    -- its block holds no such page
    pub goes_on : pages_in b ≡ 0 → Left (clear_bit left b)
    goes_on e = record {
      small = rest-fits left known.small some;
      low = λ d q. known.low d (kept d q);
      high = λ d q. known.high d (kept d q);
      named = λ d q. known.named d (kept d q);
      none = λ g l m q. elim (ℕ_discrete (g / 64) b) [
        | yes p ↦ unselected g l m (ap (λ (d : ℕ). bit_at (pages_in d) (g % 64)) p ∙ ap (λ (w : ℕ). bit_at w (g % 64)) e ∙ bit-none (g % 64))
        | no p ↦ known.none g l m (sym (with-other left b 0 (g / 64) (omega arith) p) ∙ q)
      ];
    }

    pub fewer : count (clear_bit left b) < count left
    fewer = rest-fewer left known.small some

    -- its block holds such a page
    module _ (n : pages_in b ≡ 0 → ⊥) where
      abbrev r : ℕ
      r = lowest (pages_in b) 0

      low : lowest (pages_in b) 0 < 64
      low = lowest-some (pages_in b) (pages-lt b) n

      bits : (is_set (selected_pages_of blocks retired_blocks b select) r ≡ true) × (is_set (bits_within_of start end b) r ≡ true)
      bits =
          let x = selected_pages_of blocks retired_blocks b select in
          let y = bits_within_of start end b in
          both (is_set x r) (is_set y r) (sym (and_set x y r) ∙ eq-eqb (bit_at (pages_in b) r) 1 ((lowest-is (pages_in b) 0 (omega arith)).held low))

      pub found_in : (start ≤ 64 * b + lowest (pages_in b) 0) × (64 * b + lowest (pages_in b) 0 < end)
      found_in =
          let u = both (leb start (64 * b + r)) (ltb (64 * b + r) end) (sym (bits-within-set start end b r low) ∙ bits.1) in
          (leb-true start (64 * b + r) u.0, ltb-true (64 * b + r) end u.1)

      pub finds : 64 * b + lowest (pages_in b) 0 ≡ first_from_of Looked (end - start) start
      finds =
          let i = lowest-is (pages_in b) 0 (omega arith) in
          let p : (64 * b + r) / 64 ≡ b = omega (arith, low) in
          let q : (64 * b + r) % 64 ≡ r = omega (arith, low) in
          first-eq Looked (end - start) start (64 * b + r) (record {
            from = found_in.0;
            top = omega (arith, found_in);
            held = λ l.
                selected-in blocks summary retired_blocks select (64 * b + r)
                ∙ (λ k. is_set summary (p k) && is_set (selected_pages_of blocks retired_blocks (p k) select) (q k))
                ∙ rw (eq-eqb (bit_at summary b) 1 (known.named b block_held)) bits.0;
            none = λ j l m. elim (dec_le b (j / 64)) [
              | yes h ↦
                  let e : j / 64 ≡ b = omega (arith, low) in
                  unselected j l (omega (arith, found_in)) (ap (λ (d : ℕ). bit_at (pages_in d) (j % 64)) e ∙ i.none (j % 64) (omega arith) (omega arith))
              | no h ↦ known.none j l (omega (arith, found_in)) (before (j / 64) (omega arith))
            ];
          })
