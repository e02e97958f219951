-- The loop that counts the values of the pages of a mask, over plain variables. Assumes nothing.
use Rattle.std.proofs.Common.{◌≡◌, ℕ, ◌+◌, ◌*◌, ◌^◌, ◌<◌, ◌≤◌, Bool, true, false, cond, eqb, List, sym, ap, ◌∙◌, arith, eq-eqb, ne_eqb}
use native.Mathlib.Decide.{ℕ_discrete}
use Rattle.words.proofs.CaseLaws.{bool}
use Rattle.words.specs.Word.{bit_at, is_set, clear_bit, count, lowest}
use Rattle.words.proofs.BitLaws.{bit-none}
use Rattle.words.proofs.ChangeLaws.{with-same, with-other, with-lt}
use Rattle.words.proofs.CountLaws.{count-le, count-clear}
use Rattle.words.proofs.LowestLaws.{lowest-is, lowest-some}
use Rattle.window.specs.Memory.{words_per_page, RowIn}
use Rattle.page_base.specs.declared.PageWords.{PageWords}
use Rattle.page_base.specs.Page.{words_at}
use Rattle.laws_soundness.proofs.SumLaws.{sum-but, sum-le}
use Rattle.block_retire.specs.Retire.{values_at_of, values_of}
use Rattle.block_retire.specs.Promises.{PagesNamed}

-- ---- the lowest bit of a mask taken out

module _ (left : ℕ) (fits : left < 2 ^ 64) (more : left ≡ 0 → ⊥) where
  pub low-lt : lowest left 0 < 64
  low-lt = lowest-some left fits more

  pub low_bit : bit_at left (lowest left 0) ≡ 1
  low_bit = (lowest-is left 0 (omega arith)).held low-lt

  pub low-set : is_set left (lowest left 0) ≡ true
  low-set = eq-eqb (bit_at left (lowest left 0)) 1 low_bit

  pub low-none : (i : ℕ) → i < lowest left 0 → is_set left i ≡ false
  low-none i l = ne_eqb (bit_at left i) 1 (λ e. omega (arith, e, (lowest-is left 0 (omega arith)).none i (omega arith) l))

  pub low-cleared : is_set (clear_bit left (lowest left 0)) (lowest left 0) ≡ false
  low-cleared = ne_eqb (bit_at (clear_bit left (lowest left 0)) (lowest left 0)) 1 (λ e. omega (arith, e, with-same left (lowest left 0) 0 (omega arith)))

  pub low-other : (i : ℕ) → (i ≡ lowest left 0 → ⊥) → is_set (clear_bit left (lowest left 0)) i ≡ is_set left i
  low-other i d = ap (λ (x : ℕ). eqb x 1) (with-other left (lowest left 0) 0 i (omega arith) d)

  pub low-less : count (clear_bit left (lowest left 0)) + 1 ≡ count left
  low-less = count-clear 64 left (lowest left 0) low-lt low_bit

  pub low_fits : clear_bit left (lowest left 0) < 2 ^ 64
  low_fits = with-lt 64 left (lowest left 0) 0 fits low-lt (omega arith)

  -- a bit that is left is one of the mask's
  pub low-sub : (i : ℕ) → is_set (clear_bit left (lowest left 0)) i ≡ true → is_set left i ≡ true
  low-sub i e = elim (ℕ_discrete i (lowest left 0)) [
    | yes z ↦ rw z low-set
    | no z ↦ sym (low-other i z) ∙ e
  ]

-- ---- the values of the pages of a mask

module _ (pages : List ℕ) (b : ℕ) where
  pub values-le : (mask : ℕ) → values_of pages b mask ≤ 4096
  unfolding values_of
  values-le mask =
      omega (arith, sum-le 64 64 (values_at_of pages b mask) (λ i l. bool (is_set mask i) (λ e. rw e (count-le 64 (words_at pages (64 * b + i)).occupied)) (λ e. rw e (omega arith))))

  values-none : values_of pages b 0 ≡ 0
  unfolding values_of
  values-none = omega (arith, sum-le 0 64 (values_at_of pages b 0) (λ i l. rw (bit-none i) (omega arith)))

  values-turn : (left : ℕ) → left < 2 ^ 64 → (left ≡ 0 → ⊥)
      → values_of pages b left ≡ values_of pages b (clear_bit left (lowest left 0)) + count (words_at pages (64 * b + lowest left 0)).occupied
  unfolding values_of
  values-turn left fits more =
      let q = lowest left 0 in
      let t = sum-but 64 (values_at_of pages b left) (values_at_of pages b (clear_bit left q)) q (low-lt left fits more)
      (λ i l d. ap (λ (s : Bool). cond s (count (words_at pages (64 * b + i)).occupied) 0) (sym (low-other left fits more i d))) in
      let own : values_at_of pages b left q ≡ count (words_at pages (64 * b + q)).occupied = rw (low-set left fits more) in
      let gone : values_at_of pages b (clear_bit left q) q ≡ 0 = rw (low-cleared left fits more) in
      omega (arith, t, own, gone)

  -- what the loop's locals are
  pub record Counting (mask left values : ℕ) : Type 0 where
    pub fits : left < 2 ^ 64
    pub named : PagesNamed pages b left
    pub sum : values + values_of pages b left ≡ values_of pages b mask

  module _ (mask left values : ℕ) (t : Counting mask left values) where
    module _ (more : left ≡ 0 → ⊥) where
      -- the page of the lowest bit, as the code finds it
      module _ (q : ℕ) (low : q ≡ lowest left 0) where
        pub bit-lt : q < 64
        bit-lt = omega (arith, low, low-lt left t.fits more)

        pub page-in : RowIn words_per_page (64 * b + q) pages
        page-in = rw low (t.named (lowest left 0) (low-lt left t.fits more) (low-set left t.fits more))

        pub counting-turn : (w : PageWords) (n left' : ℕ) → w ≡ words_at pages (64 * b + q) → n ≡ count w.occupied → left' ≡ clear_bit left q → Counting mask left' (values + n)
        counting-turn w n left' e k r =
            let z : n ≡ count (words_at pages (64 * b + lowest left 0)).occupied = k ∙ ap (λ (x : PageWords). count x.occupied) e ∙ ap (λ (x : ℕ). count (words_at pages (64 * b + x)).occupied) low in
            rw (r, low, z) (record {
              fits = low_fits left t.fits more;
              named = λ i l m. t.named i l (low-sub left t.fits more i m);
              sum = omega (arith, t.sum, values-turn left t.fits more);
            })

        pub counting-less : (left' : ℕ) → left' ≡ clear_bit left q → count left' < count left
        counting-less left' r = rw (r, low) (omega (arith, low-less left t.fits more))

    pub counting-few : values ≤ 4096
    counting-few = omega (arith, t.sum, values-le mask)

    pub counting-ends : left ≡ 0 → values ≡ values_of pages b mask
    counting-ends e = omega (arith, t.sum, ap (values_of pages b) e, values-none)
