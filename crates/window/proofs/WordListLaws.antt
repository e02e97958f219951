-- A row of words, of any width, written into a list of rows. Assumes nothing.
use mathlib.Core.Path.{◌≡◌, refl, ap, ◌∙◌}
use mathlib.Core.List.{List, [], ◌∷◌}
use Prim.Native.Nat.{ℕ, zero, suc, ◌+◌, ◌*◌, ◌≤◌, ◌<◌}
use native.Mathlib.Nat.{add-zero, mul-suc, mul-le-mul_left}
use native.Mathlib.Decide.{dec_lt}
use native.Mathlib.Omega.{arith}
use lib.ListN.{length, get_or, set, drop, length-set}
use lib.Seq.{get_or-set_same, get_or-set_other, drop-set-lt, sets, length-sets}
use Rattle.window.specs.Memory.{RowIn, word_at, with_words}

-- ---- words written from i on

past : (row l : List ℕ) (i n : ℕ) → i + length row ≤ n → drop n (sets l i row) ≡ drop n l
past [] l i n h = refl
past (a ∷ row) l i n h = past row (set l i a) (suc i) n (omega arith) ∙ drop-set-lt n l i a (omega arith)

other : (row l : List ℕ) (i j : ℕ) → ((c : ℕ) → c < length row → j ≡ i + c → ⊥) → get_or (sets l i row) j 0 ≡ get_or l j 0
other [] l i j n = refl
other (a ∷ row) l i j n =
    other row (set l i a) (suc i) j (λ c h e. n (suc c) (omega arith) (omega arith)) ∙ get_or-set_other l i j a 0 (λ e. n 0 (omega arith) (omega arith))

own : (row l : List ℕ) (i c : ℕ) → i + length row ≤ length l → c < length row → get_or (sets l i row) (i + c) 0 ≡ get_or row c 0
own [] l i c h below = absurd (omega arith)
own (a ∷ row) l i zero h below =
    other row (set l i a) (suc i) (i + 0) (λ c m e. omega arith) ∙ ap (λ (j : ℕ). get_or (set l i a) j 0) (add-zero i) ∙ get_or-set_same l i a 0 (omega arith)
own (a ∷ row) l i (suc c) h below =
    let e : i + suc c ≡ suc i + c = omega arith in
    rw e (own row (set l i a) (suc i) c (omega (arith, length-set l i a)) (omega arith))

-- ---- a row

-- it ends where the rows after it begin
row-end : (width k n : ℕ) → k < n → width * k + width ≤ width * n
row-end width k n h = omega (arith, mul-suc width k, mul-le-mul_left width h)

-- a place is in one row only
same_row : (width j k i c : ℕ) → i < width → c < width → width * j + i ≡ width * k + c → j ≡ k
same_row width j k i c h m e = elim (dec_lt j k) [
  | yes below ↦ absurd (omega (arith, row-end width j k below))
  | no low ↦ elim (dec_lt k j) [ yes above ↦ absurd (omega (arith, row-end width k j above)) | no high ↦ omega arith ]
]

module _ (width : ℕ) (l : List ℕ) (k : ℕ) (row : List ℕ) where
  pub words-length : length (with_words width l k row) ≡ length l
  unfolding with_words
  words-length = length-sets l (width * k) row

  module _ (full : length row ≡ width) where
    -- what lies past n rows stays
    pub words-past : (n : ℕ) → k < n → drop (width * n) (with_words width l k row) ≡ drop (width * n) l
    unfolding with_words
    words-past n h = past row l (width * k) (width * n) (omega (arith, row-end width k n h))

    -- the words of another row
    pub words-other : (j i : ℕ) → (j ≡ k → ⊥) → i < width → word_at width (with_words width l k row) j i ≡ word_at width l j i
    unfolding with_words
    words-other j i n h = other row l (width * k) (width * j + i) (λ c m e. n (same_row width j k i c h (omega arith) e))

    pub words-own : RowIn width k l → (i : ℕ) → i < width → word_at width (with_words width l k row) k i ≡ get_or row i 0
    unfolding with_words
    words-own long i h = own row l (width * k) i (omega arith) (omega arith)
