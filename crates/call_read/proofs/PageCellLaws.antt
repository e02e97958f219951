-- The first cell of a block's live pages, over plain variables: what is known of the pages still to be looked at, and each step of the
-- loop. Assumes nothing.
use Rattle.std.proofs.Common.{◌≡◌, ℕ, ◌+◌, ◌-◌, ◌*◌, ◌/◌, ◌%◌, ◌^◌, ◌<◌, ◌≤◌, Bool, true, false, ◌&&◌, eqb, ltb, leb, List, sym, ap, ◌∙◌, arith, ltb-true, lt-ltb, eq-eqb, ne_eqb, eqb-true, le-leb, leb-true}
use mathlib.Core.Bool.{and-false}
use native.Mathlib.Decide.{dec_lt, ℕ_discrete}
use lib.Bits.{bit_and, and_le_l}
use Rattle.words.proofs.CaseLaws.{both}
use Rattle.words.proofs.FirstLaws.{first-eq, first-same}
use Rattle.words.specs.Word.{bit_at, is_set, lowest, clear_bit, count}
use Rattle.words.proofs.BitLaws.{bit-lt, bit-none, bit_past, bit-and}
use Rattle.words.proofs.ChangeLaws.{with-other}
use Rattle.words.proofs.LowestLaws.{lowest-is, lowest-some}
use Rattle.words.proofs.TakeLaws.{taken-held, rest-fits, rest-among, rest-fewer}
use Rattle.page_base.specs.declared.PageWords.{PageWords}
use Rattle.page_base.specs.Page.{words_at}
use Rattle.block_search.specs.Search.{bits_within_of}
use Rattle.block_search.proofs.SearchLaws.{bits-within-set}
use Rattle.block_search.proofs.WalkLaws.{clear-in-range, lowest-lt, lowest-held, lowest-range}
use Rattle.call_read.specs.Promises.{is_live_cell, cell_in_page_of, cell_in_block_of}

-- ---- one page

-- a cell of page g is held if the page is live and the cell's bit is set
held_at : (pages : List ℕ) (live g c : ℕ) → c < 64 → is_live_cell pages live (64 * g + c) ≡ (is_set live (g % 64) && is_set (words_at pages g).filled c)
held_at pages live g c l =
    let d : (64 * g + c) / 64 ≡ g = omega arith in
    let r : (64 * g + c) % 64 ≡ c = omega arith in
    rw (d, r)

module _ (pages : List ℕ) (live g from : ℕ) (low : from < 64) where
  pub page-dead : is_set live (g % 64) ≡ false → 64 ≡ cell_in_page_of pages live g from
  unfolding cell_in_page_of
  page-dead z =
      first-eq (λ (c : ℕ). is_live_cell pages live (64 * g + c)) (64 - from) from 64 (record {
        from = omega arith;
        top = omega arith;
        held = λ l. absurd (omega arith);
        none = λ j a b. held_at pages live g j b ∙ rw z;
      })

  pub page-live : is_set live (g % 64) ≡ true → lowest (words_at pages g).filled from ≡ cell_in_page_of pages live g from
  unfolding cell_in_page_of lowest
  page-live s =
      first-same (is_set (words_at pages g).filled) (λ (c : ℕ). is_live_cell pages live (64 * g + c)) (64 - from) from
      (λ j a b. sym (held_at pages live g j (omega arith) ∙ rw s))

  -- the page has none from there on
  pub page-empty : is_set live (g % 64) ≡ true → 64 ≤ lowest (words_at pages g).filled from → 64 ≡ cell_in_page_of pages live g from
  page-empty s l =
      let e : 64 ≡ lowest (words_at pages g).filled from = omega (arith, (lowest-is (words_at pages g).filled from (omega arith)).top) in
      e ∙ page-live s

-- ---- one block

-- the cells of page g that are in use, of those from start up to end
abbrev pub filled_in : List ℕ → ℕ → ℕ → ℕ → ℕ
filled_in pages start end g = bit_and (words_at pages g).filled (bits_within_of start end g)

-- what the code holds for them
pub word-is : (pages : List ℕ) (start end g b : ℕ) (w : PageWords) → w ≡ words_at pages g → b ≡ bits_within_of start end g
    → bit_and w.filled b ≡ filled_in pages start end g
word-is pages start end g b w ew eb = λ i. bit_and (ew i).filled (eb i)

-- `left` names the pages of block b still to be looked at: some of the live ones, in the range, and no cell of another page is held
pub record LeftPages (pages : List ℕ) (live b start end left : ℕ) : Type 0 where
  pub small : left < 2 ^ 64
  pub among : (i : ℕ) → bit_at left i ≡ 1 → bit_at live i ≡ 1
  pub low : (i : ℕ) → bit_at left i ≡ 1 → start / 64 ≤ 64 * b + i
  pub high : (i : ℕ) → bit_at left i ≡ 1 → 64 * b + i ≤ (end - 1) / 64
  pub none : (q : ℕ) → start ≤ q → q < end → q / 4096 ≡ b → bit_at left (q / 64 % 64) ≡ 0 → is_live_cell pages live q ≡ false

module _ (pages : List ℕ) (live b start end : ℕ) (some : start < end) where
  abbrev P : ℕ → Bool
  P q = eqb (q / 4096) b && is_live_cell pages live q

  -- not of the block, or not held
  not_found : (q : ℕ) → (q / 4096 ≡ b → is_live_cell pages live q ≡ false) → (eqb (q / 4096) b && is_live_cell pages live q) ≡ false
  not_found q n = elim (ℕ_discrete (q / 4096) b) [ yes e ↦ rw (n e) (and-false (eqb (q / 4096) b)) | no e ↦ rw (ne_eqb (q / 4096) b e) ]

  -- ---- the loop begins
  abbrev range : ℕ
  range = bits_within_of (start / 64) ((end - 1) / 64 + 1) b

  pub begins : live < 2 ^ 64 → LeftPages pages live b start end (bit_and live (bits_within_of (start / 64) ((end - 1) / 64 + 1) b))
  begins fits =
      let both-set : (i : ℕ) → bit_at (bit_and live range) i ≡ 1 → (bit_at live i ≡ 1) × (bit_at range i ≡ 1) = λ i e.
      let a = bit-and live range i in
      let x = bit-lt live i in
      let y = bit-lt range i in
      (omega (arith, a, x, y, e), omega (arith, a, x, y, e)) in
      let below : (i : ℕ) → bit_at (bit_and live range) i ≡ 1 → i < 64 = λ i e.
      elim (dec_lt i 64) [ yes l ↦ l | no l ↦ absurd (omega (arith, (both-set i e).0, bit_past 64 live i fits (omega arith))) ] in
      let inside : (i : ℕ) → bit_at (bit_and live range) i ≡ 1 → (leb (start / 64) (64 * b + i) ≡ true) × (ltb (64 * b + i) ((end - 1) / 64 + 1) ≡ true) = λ i e.
      both (leb (start / 64) (64 * b + i)) (ltb (64 * b + i) ((end - 1) / 64 + 1))
      (sym (bits-within-set (start / 64) ((end - 1) / 64 + 1) b i (below i e)) ∙ eq-eqb (bit_at range i) 1 (both-set i e).1) in
      record {
        small = omega (arith, and_le_l live range);
        among = λ i e. (both-set i e).0;
        low = λ i e. leb-true (start / 64) (64 * b + i) (inside i e).0;
        high = λ i e. omega (arith, ltb-true (64 * b + i) ((end - 1) / 64 + 1) (inside i e).1);
        none = λ q a l d z.
            let i = q / 64 % 64 in
            let in-range : bit_at range i ≡ 1 =
            eqb-true _ _ (bits-within-set (start / 64) ((end - 1) / 64 + 1) b i (omega arith)
            ∙ rw (le-leb (start / 64) (64 * b + i) (omega (arith, d)), lt-ltb (64 * b + i) ((end - 1) / 64 + 1) (omega (arith, d)))) in
            rw (ne_eqb (bit_at live i) 1 (λ e. omega (arith, e, z, bit-and live range i, in-range)));
      }

  -- ---- no page is left
  pub ends : (left : ℕ) → LeftPages pages live b start end left → left ≡ 0 → end ≡ cell_in_block_of pages live b start end
  unfolding cell_in_block_of
  ends left known e = first-eq P (end - start) start end (record {
    from = omega arith;
    top = omega arith;
    held = λ l. absurd (omega arith);
    none = λ q a l. not_found q (λ d. known.none q a l d (ap (λ (w : ℕ). bit_at w (q / 64 % 64)) e ∙ bit-none (q / 64 % 64)));
  })

  -- ---- a turn
  module _ (left : ℕ) (known : LeftPages pages live b start end left) (more : left ≡ 0 → ⊥) where
    abbrev p : ℕ
    p = lowest left 0

    abbrev g : ℕ
    g = 64 * b + p

    pub page-below : lowest left 0 < 64
    page-below = lowest-some left known.small more

    page-left : bit_at left (lowest left 0) ≡ 1
    page-left = taken-held left known.small more

    pub page-in : (start / 64 ≤ 64 * b + lowest left 0) × (64 * b + lowest left 0 ≤ (end - 1) / 64)
    page-in = (known.low p page-left, known.high p page-left)

    kept : (i : ℕ) → bit_at (clear_bit left (lowest left 0)) i ≡ 1 → bit_at left i ≡ 1
    kept = rest-among left known.small more

    -- a cell of the range in the page whose bit is clear
    unset : (q : ℕ) → start ≤ q → q < end → q / 64 ≡ 64 * b + lowest left 0 → bit_at (filled_in pages start end (64 * b + lowest left 0)) (q % 64) ≡ 0 → is_live_cell pages live q ≡ false
    unset q a l d z =
        let u = clear-in-range start end (words_at pages (q / 64)).filled q a l (ap (λ (x : ℕ). bit_at (filled_in pages start end x) (q % 64)) d ∙ z) in
        rw (ne_eqb (bit_at (words_at pages (q / 64)).filled (q % 64)) 1 (λ e. omega (arith, e, u))) (and-false (is_set live (q / 64 % 64)))

    -- the page has none in the range
    pub goes_on : filled_in pages start end (64 * b + lowest left 0) ≡ 0 → LeftPages pages live b start end (clear_bit left (lowest left 0))
    goes_on e = record {
      small = rest-fits left known.small more;
      among = λ i k. known.among i (kept i k);
      low = λ i k. known.low i (kept i k);
      high = λ i k. known.high i (kept i k);
      none = λ q a l d z. elim (ℕ_discrete (q / 64 % 64) p) [
        | yes k ↦ unset q a l (omega (arith, d, k)) (ap (λ (w : ℕ). bit_at w (q % 64)) e ∙ bit-none (q % 64))
        | no k ↦ known.none q a l d (sym (with-other left p 0 (q / 64 % 64) (omega arith) k) ∙ z)
      ];
    }

    pub fewer : count (clear_bit left (lowest left 0)) < count left
    fewer = rest-fewer left known.small more

    -- it has one
    module _ (fits : (words_at pages (64 * b + lowest left 0)).filled < 2 ^ 64) (used : filled_in pages start end (64 * b + lowest left 0) ≡ 0 → ⊥) where
      abbrev j : ℕ
      j = lowest (filled_in pages start end g) 0

      cell-lt : lowest (filled_in pages start end (64 * b + lowest left 0)) 0 < 64
      cell-lt = lowest-lt start end g (words_at pages g).filled fits used

      pub cell-in : 64 * (64 * b + lowest left 0) + lowest (filled_in pages start end (64 * b + lowest left 0)) 0 < end
      cell-in = (lowest-range start end g (words_at pages g).filled fits used).1

      pub finds : 64 * (64 * b + lowest left 0) + lowest (filled_in pages start end (64 * b + lowest left 0)) 0 ≡ cell_in_block_of pages live b start end
      unfolding cell_in_block_of
      finds =
          let r = lowest-range start end g (words_at pages g).filled fits used in
          let o : (64 * b + p) % 64 ≡ p = omega (arith, page-below) in
          let d : (64 * g + j) / 4096 ≡ b = omega (arith, page-below, cell-lt) in
          first-eq P (end - start) start (64 * g + j) (record {
            from = r.0;
            top = omega (arith, r.1);
            held = λ l.
                rw (eq-eqb ((64 * g + j) / 4096) b d)
                (held_at pages live g j cell-lt
                ∙ rw (o, eq-eqb (bit_at live p) 1 (known.among p page-left), eq-eqb (bit_at (words_at pages g).filled j) 1 (lowest-held start end g (words_at pages g).filled fits used)));
            none = λ q a l. not_found q (λ k.
                elim (ℕ_discrete (q / 64) g) [
                  | yes s ↦ unset q a (omega (arith, r.1)) s ((lowest-is (filled_in pages start end g) 0 (omega arith)).none (q % 64) (omega arith) (omega (arith, s)))
                  | no s ↦ known.none q a (omega (arith, r.1)) k ((lowest-is left 0 (omega arith)).none (q / 64 % 64) (omega arith) (omega (arith, k, cell-lt, page-below)))
                ]);
          })

-- what the tactics know of one page
pub ruleset paging = (page-dead, page-live, page-empty)
