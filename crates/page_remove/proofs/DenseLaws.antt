-- A dense page drained by position, over plain variables: the lowest set bit cleared, the words while bits are cleared, and one
-- position, which is a turn of the search by cells. Positions in a row are in RunLaws. Assumes nothing.
use mathlib.Core.Path.{◌≡◌, refl, sym, ap, ◌∙◌, subst}
use mathlib.Core.Bool.{true}
use mathlib.Core.List.{List}
use Prim.Native.Nat.{ℕ, zero, suc, ◌+◌, ◌-◌, ◌/◌, ◌^◌, ◌≤◌, ◌<◌, min, max}
use native.Mathlib.Omega.{arith}
use native.Mathlib.Decide.{ℕ_discrete, dec_lt}
use lib.Bits.{bit_and, bit_or, and_le_l, and_le_r, or_lt}
use lib.ListN.{length, get_or, set, length-set}
use Rattle.words.specs.Word.{bit_at, clear_bit, lowest}
use Rattle.words.proofs.BitLaws.{bit-lt, bit-zero, bit-suc, bit-none, bit-and, bit-or, bit_not, ext-bits}
use Rattle.words.proofs.ChangeLaws.{with-same, with-other, with-lt}
use Rattle.words.proofs.LowestLaws.{lowest-is, lowest-some}
use borrow.Author.Tests.{eq-eqb}
use Rattle.page_base.specs.declared.PageWords.{PageWords}
use Rattle.page_base.proofs.FindLaws.{dense-slot}
use Rattle.page_remove.specs.declared.drain.Drained.{Drained}
use Rattle.page_remove.specs.Promises.{Drains, DrainsDense, dense_words}
use Rattle.page_remove.proofs.DrainLoopLaws.{Draining, draining-begins, draining-turn, draining-ends, draining-empty}

-- ---- the lowest set bit cleared: w & (w - 1)

-- the number before w has bit k clear where bit k is the lowest set bit of w, and the bits above it as in w
before_at : (k w : ℕ) → ((j : ℕ) → j < k → bit_at w j ≡ 0) → bit_at w k ≡ 1 → bit_at (w - 1) k ≡ 0
before_at zero w low here = rw bit-zero (omega (arith, here, bit-zero w))
before_at (suc k) w low here =
    elim (ℕ_discrete w 0) [
      | yes z ↦ absurd (omega (arith, here, ap (λ (x : ℕ). bit_at x (suc k)) z, bit-none (suc k)))
      | no z ↦
          let even = sym (bit-zero w) ∙ low 0 (omega arith) in
          let half : (w - 1) / 2 ≡ w / 2 - 1 = omega (arith, even) in
          rw (bit-suc, half) (before_at k (w / 2) (λ j l. sym (bit-suc w j) ∙ low (suc j) (omega arith)) (sym (bit-suc w k) ∙ here))
    ]

before_above : (k w j : ℕ) → ((i : ℕ) → i < k → bit_at w i ≡ 0) → bit_at w k ≡ 1 → k < j → bit_at (w - 1) j ≡ bit_at w j
before_above k w zero low here l = absurd (omega arith)
before_above zero w (suc j) low here l =
    let half : (w - 1) / 2 ≡ w / 2 = omega (arith, here, bit-zero w) in
    bit-suc (w - 1) j ∙ ap (λ (x : ℕ). bit_at x j) half ∙ sym (bit-suc w j)
before_above (suc k) w (suc j) low here l =
    elim (ℕ_discrete w 0) [
      | yes z ↦ absurd (omega (arith, here, ap (λ (x : ℕ). bit_at x (suc k)) z, bit-none (suc k)))
      | no z ↦
          let even = sym (bit-zero w) ∙ low 0 (omega arith) in
          let half : (w - 1) / 2 ≡ w / 2 - 1 = omega (arith, even) in
          bit-suc (w - 1) j ∙ ap (λ (x : ℕ). bit_at x j) half
          ∙ before_above k (w / 2) j (λ i m. sym (bit-suc w i) ∙ low (suc i) (omega arith)) (sym (bit-suc w k) ∙ here) (omega arith)
          ∙ sym (bit-suc w j)
    ]

pub lowest-cleared : (w : ℕ) → w < 2 ^ 64 → 0 < w → bit_and w (w - 1) ≡ clear_bit w (lowest w 0)
lowest-cleared w fits some =
    ext-bits 64 (bit_and w (w - 1)) (clear_bit w (lowest w 0)) (omega (arith, and_le_l w (w - 1))) (with-lt 64 w (lowest w 0) 0 fits below (omega arith)) each
  where
    below : lowest w 0 < 64
    below = lowest-some w fits (λ e. omega arith)

    low : (j : ℕ) → j < lowest w 0 → bit_at w j ≡ 0
    low j l = (lowest-is w 0 (omega arith)).none j (omega arith) l

    here : bit_at w (lowest w 0) ≡ 1
    here = (lowest-is w 0 (omega arith)).held below

    each : (j : ℕ) → j < 64 → bit_at (bit_and w (w - 1)) j ≡ bit_at (clear_bit w (lowest w 0)) j
    each j l =
        elim (ℕ_discrete j (lowest w 0)) [
          | yes e ↦
              let z : bit_at (w - 1) j ≡ 0 = ap (bit_at (w - 1)) e ∙ before_at (lowest w 0) w low here in
              let c : bit_at (clear_bit w (lowest w 0)) j ≡ 0 = ap (bit_at (clear_bit w (lowest w 0))) e ∙ with-same w (lowest w 0) 0 (omega arith) in
              omega (arith, bit-and w (w - 1) j, z, c)
          | no e ↦
              bit-and w (w - 1) j
              ∙ elim (dec_lt j (lowest w 0)) [
                | yes m ↦ omega (arith, low j m, with-other w (lowest w 0) 0 j (omega arith) e)
                | no m ↦
                    let s = before_above (lowest w 0) w j low here (omega arith) in
                    omega (arith, s, with-other w (lowest w 0) 0 j (omega arith) e)
              ]
        ]

-- ---- the words, while bits of those selected are cleared

-- the occupied positions that are not named, and those still selected
abbrev pub left_of : ℕ → ℕ → ℕ → ℕ
left_of occupied slots selected = bit_or (bit_and occupied ((2 ^ 64 - 1) - slots)) selected

module _ (occupied slots : ℕ) (fits : occupied < 2 ^ 64) (named : slots < 2 ^ 64) where
  -- only positions that are occupied and named are selected
  abbrev pub Selects : ℕ → Type 0
  Selects selected = (j : ℕ) → bit_at selected j ≤ min (bit_at occupied j) (bit_at slots j)

  left_lt : (sel : ℕ) → sel < 2 ^ 64 → left_of occupied slots sel < 2 ^ 64
  left_lt sel s = or_lt 64 (bit_and occupied ((2 ^ 64 - 1) - slots)) sel (omega (arith, and_le_l occupied ((2 ^ 64 - 1) - slots))) s

  left-bit : (sel j : ℕ) → j < 64 → max (min (bit_at occupied j) (1 - bit_at slots j)) (bit_at sel j) ≡ bit_at (left_of occupied slots sel) j
  left-bit sel j l = sym (rw (bit-or, bit-and, bit_not 64 j slots named l) refl)

  pub left-all : left_of occupied slots (bit_and occupied slots) ≡ occupied
  left-all =
      ext-bits 64 (left_of occupied slots (bit_and occupied slots)) occupied (left_lt (bit_and occupied slots) (omega (arith, and_le_l occupied slots))) fits
      (λ j l. omega (arith, left-bit (bit_and occupied slots) j l, bit-and occupied slots j, bit-lt occupied j, bit-lt slots j))

  module _ (sel : ℕ) (small : sel < 2 ^ 64) (part : Selects sel) where
    pub left-selected : bit_and (left_of occupied slots sel) slots ≡ sel
    left-selected =
        ext-bits 64 (bit_and (left_of occupied slots sel) slots) sel (omega (arith, and_le_r (left_of occupied slots sel) slots)) small
        (λ j l. omega (arith, bit-and (left_of occupied slots sel) slots j, left-bit sel j l, part j, bit-lt occupied j, bit-lt slots j))

    module _ (q : ℕ) (below : q < 64) (here : bit_at sel q ≡ 1) where
      pub left-clear : clear_bit (left_of occupied slots sel) q ≡ left_of occupied slots (clear_bit sel q)
      left-clear =
          ext-bits 64 (clear_bit (left_of occupied slots sel) q) (left_of occupied slots (clear_bit sel q))
          (with-lt 64 (left_of occupied slots sel) q 0 (left_lt sel small) below (omega arith)) (left_lt (clear_bit sel q) (with-lt 64 sel q 0 small below (omega arith))) each
        where
          each : (j : ℕ) → j < 64 → bit_at (clear_bit (left_of occupied slots sel) q) j ≡ bit_at (left_of occupied slots (clear_bit sel q)) j
          each j l =
              elim (ℕ_discrete j q) [
                | yes e ↦
                    let a : bit_at (clear_bit (left_of occupied slots sel) q) j ≡ 0 = ap (bit_at (clear_bit (left_of occupied slots sel) q)) e ∙ with-same (left_of occupied slots sel) q 0 (omega arith) in
                    let b : bit_at (clear_bit sel q) j ≡ 0 = ap (bit_at (clear_bit sel q)) e ∙ with-same sel q 0 (omega arith) in
                    let h : bit_at sel j ≡ 1 = ap (bit_at sel) e ∙ here in
                    omega (arith, a, b, h, part j, left-bit (clear_bit sel q) j l, bit-lt occupied j, bit-lt slots j)
                | no e ↦ omega (arith, with-other (left_of occupied slots sel) q 0 j (omega arith) e, with-other sel q 0 j (omega arith) e, left-bit sel j l, left-bit (clear_bit sel q) j l)
              ]

      pub part-clear : Selects (clear_bit sel q)
      part-clear j =
          elim (ℕ_discrete j q) [
            | yes e ↦ omega (arith, ap (bit_at (clear_bit sel q)) e ∙ with-same sel q 0 (omega arith))
            | no e ↦ omega (arith, with-other sel q 0 j (omega arith) e, part j)
          ]

-- ---- the loop

-- k values were written, and those at the positions still selected are left: what the search by cells has after as many turns
pub record DrainingDense (occupied : ℕ) (vs : List ℕ) (slots at limit : ℕ) (l₀ l : List ℕ) (selected k : ℕ) : Type 0 where
  pub small : selected < 2 ^ 64
  pub part : (j : ℕ) → bit_at selected j ≤ min (bit_at occupied j) (bit_at slots j)
  pub few : k ≤ limit
  pub long : length l ≡ length l₀
  pub drains : (n : ℕ) (ss : List ℕ) → Draining n (dense_words occupied) ss vs slots at limit l₀ l (dense_words (left_of occupied slots selected)) k true

module _ (occupied : ℕ) (vs : List ℕ) (slots at limit : ℕ) (l₀ : List ℕ) (fits : occupied < 2 ^ 64) (named : slots < 2 ^ 64) where
  pub dense-begins : DrainingDense occupied vs slots at limit l₀ l₀ (bit_and occupied slots) 0
  dense-begins = record {
    small = omega (arith, and_le_l occupied slots);
    part = λ j. omega (arith, bit-and occupied slots j);
    few = omega arith;
    long = refl;
    drains = λ n ss.
        subst (λ (x : ℕ). Draining n (dense_words occupied) ss vs slots at limit l₀ l₀ (dense_words x) 0 true) (sym (left-all occupied slots fits named))
        (draining-begins n (dense_words occupied) ss vs slots at limit l₀);
  }

  module _ (l : List ℕ) (sel k : ℕ) (t : DrainingDense occupied vs slots at limit l₀ l sel k) where
    -- one value more: the one in the cell of the lowest position selected
    pub dense-turn : at + limit ≤ length l₀ → k < limit → (sel ≡ 0 → ⊥)
        → DrainingDense occupied vs slots at limit l₀ (set l (at + k) (get_or vs (lowest sel 0) 0)) (clear_bit sel (lowest sel 0)) (k + 1)
    dense-turn room more some = record {
      small = with-lt 64 sel (lowest sel 0) 0 t.small below (omega arith);
      part = part-clear occupied slots fits named sel t.small t.part (lowest sel 0) below here;
      few = omega arith;
      long = length-set l (at + k) (get_or vs (lowest sel 0) 0) ∙ t.long;
      drains = λ n ss.
          subst (λ (x : ℕ). Draining n (dense_words occupied) ss vs slots at limit l₀ (set l (at + k) (get_or vs (lowest sel 0) 0)) (dense_words x) (k + 1) true)
          (left-clear occupied slots fits named sel t.small t.part (lowest sel 0) below here)
          (draining-turn n (dense_words occupied) ss vs slots at limit l₀ l (dense_words (left_of occupied slots sel)) k true (t.drains n ss) named room more
          (λ z. some (sym same ∙ z)) (lowest sel 0) (lowest sel 0) (ap (λ (x : ℕ). lowest x 0) (sym same))
          (record { bounded = below; cell = λ us ok. dense-slot n (dense_words (left_of occupied slots sel)) ss us ok (lowest sel 0) below refl (eq-eqb _ _ held) }));
    }
      where
        below : lowest sel 0 < 64
        below = lowest-some sel t.small some

        here : bit_at sel (lowest sel 0) ≡ 1
        here = (lowest-is sel 0 (omega arith)).held below

        same : bit_and (left_of occupied slots sel) slots ≡ sel
        same = left-selected occupied slots fits named sel t.small t.part

        held : bit_at (left_of occupied slots sel) (lowest sel 0) ≡ 1
        held = omega (arith, here, bit-or (bit_and occupied ((2 ^ 64 - 1) - slots)) sel (lowest sel 0), bit-lt (left_of occupied slots sel) (lowest sel 0))

    -- none is selected any more
    pub dense-empty : sel ≡ 0
        → DrainsDense occupied vs slots at limit l₀ (record { words = dense_words (left_of occupied slots sel); count = k; sound = true }) l
    dense-empty e n ss =
        draining-empty n (dense_words occupied) ss vs slots at limit l₀ l (dense_words (left_of occupied slots sel)) k true (t.drains n ss)
        (left-selected occupied slots fits named sel t.small t.part ∙ e)

    -- or as many as asked for were written
    pub dense-ends : limit ≤ k
        → DrainsDense occupied vs slots at limit l₀ (record { words = dense_words (left_of occupied slots sel); count = k; sound = true }) l
    dense-ends e n ss =
        draining-ends n (dense_words occupied) ss vs slots at limit l₀ l (dense_words (left_of occupied slots sel)) k true (t.drains n ss) e

-- a page of kind 2 with filled = occupied has the words of a dense page
pub dense-drains : (n : ℕ) (w : PageWords) (ss vs : List ℕ) (slots at limit : ℕ) (l : List ℕ) (r : Drained) (l' : List ℕ)
    → w.kind ≡ 2 → w.filled ≡ w.occupied → DrainsDense w.occupied vs slots at limit l r l' → Drains n w ss vs slots at limit l r l'
dense-drains n w ss vs slots at limit l r l' k f d = subst (λ (x : PageWords). Drains n x ss vs slots at limit l r l') same (d n ss)
  where
    same : dense_words w.occupied ≡ w
    same = λ i. record { kind = sym k i; occupied = w.occupied; filled = sym f i }
