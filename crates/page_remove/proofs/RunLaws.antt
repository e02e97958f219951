-- Positions in a row drained together, over plain variables: their values copied, their bits cleared, and what as many turns for
-- single positions leave. Assumes nothing.
use mathlib.Core.Path.{◌≡◌, refl, sym, ap, ap₂, ◌∙◌, subst}
use mathlib.Core.List.{List}
use Prim.Native.Nat.{ℕ, zero, suc, ◌+◌, ◌-◌, ◌^◌, ◌≤◌, ◌<◌, min}
use native.Mathlib.Omega.{arith}
use native.Mathlib.Decide.{ℕ_discrete, dec_lt, dec_le}
use lib.Bits.{bit_and, and_le_l}
use lib.ListN.{length, get_or, drop, set, length-drop}
use lib.Seq.{paste, paste-zero, paste-suc, get_or-drop}
use Rattle.words.specs.Word.{bit_at, clear_bit, span, lowest}
use Rattle.words.proofs.BitLaws.{bit-lt, bit-and, bit_not, bit-none, ext-bits}
use Rattle.words.proofs.ChangeLaws.{with-same, with-other, with-lt}
use Rattle.words.proofs.SpanLaws.{span-in, span_below, span-above, span-lt}
use Rattle.words.proofs.LowestLaws.{Lowest, lowest-is, lowest-eq, lowest-some}
use Rattle.page_remove.specs.Promises.{run_length_of}
use Rattle.page_remove.proofs.DenseLaws.{DrainingDense, dense-turn}

-- ---- the values copied

-- one value more
pub copy-turn : (d vs l : List ℕ) (at from i : ℕ) → at + i < length d → from + i < length vs
    → l ≡ paste d at (drop from vs) i → set l (at + i) (get_or vs (from + i) 0) ≡ paste d at (drop from vs) (i + 1)
copy-turn d vs l at from i room inside e =
    let more : i + 1 ≡ suc i = omega arith in
    ap₂ (λ (x : List ℕ) (y : ℕ). set x (at + i) y) e (sym (get_or-drop from vs i 0))
    ∙ paste-suc d at (drop from vs) i 0 room (omega (arith, length-drop from vs)) ∙ ap (paste d at (drop from vs)) (sym more)

-- ---- the bits cleared

-- those selected, without n positions in a row from f on
abbrev pub without : ℕ → ℕ → ℕ → ℕ
without sel f n = bit_and sel ((2 ^ 64 - 1) - span f (f + n))

module _ (sel f : ℕ) (small : sel < 2 ^ 64) where
  without-lt : (n : ℕ) → without sel f n < 2 ^ 64
  without-lt n = omega (arith, and_le_l sel ((2 ^ 64 - 1) - span f (f + n)))

  module _ (n : ℕ) (top : f + n ≤ 64) where
    without-bit : (j : ℕ) → j < 64 → bit_at (without sel f n) j ≡ min (bit_at sel j) (1 - bit_at (span f (f + n)) j)
    without-bit j l = rw (bit-and, bit_not 64 j (span f (f + n)) (span-lt 64 f (f + n) top) l) refl

    pub without_in : (j : ℕ) → f ≤ j → j < f + n → bit_at (without sel f n) j ≡ 0
    without_in j a b = omega (arith, without-bit j (omega arith), span-in f (f + n) j a b)

    pub without-out : (j : ℕ) → j < 64 → (f ≤ j → j < f + n → ⊥) → bit_at (without sel f n) j ≡ bit_at sel j
    without-out j l out =
        elim (dec_lt j f) [
          | yes a ↦ omega (arith, without-bit j l, span_below f (f + n) j (omega arith) a, bit-lt sel j)
          | no a ↦ elim (dec_lt j (f + n)) [
            | yes b ↦ absurd (out (omega arith) b)
            | no b ↦ omega (arith, without-bit j l, span-above f (f + n) j (omega arith), bit-lt sel j)
          ]
        ]

  pub without-none : f ≤ 64 → without sel f 0 ≡ sel
  without-none top = ext-bits 64 (without sel f 0) sel (without-lt 0) small (λ j l. without-out 0 (omega arith) j l (λ a b. omega arith))

  pub without_more : (n : ℕ) → f + n < 64 → clear_bit (without sel f n) (f + n) ≡ without sel f (suc n)
  without_more n top =
      ext-bits 64 (clear_bit (without sel f n) (f + n)) (without sel f (suc n))
      (with-lt 64 (without sel f n) (f + n) 0 (without-lt n) top (omega arith)) (without-lt (suc n)) each
    where
      each : (j : ℕ) → j < 64 → bit_at (clear_bit (without sel f n) (f + n)) j ≡ bit_at (without sel f (suc n)) j
      each j l =
          elim (ℕ_discrete j (f + n)) [
            | yes e ↦ ap (bit_at (clear_bit (without sel f n) (f + n))) e ∙ with-same (without sel f n) (f + n) 0 (omega arith)
                ∙ sym (without_in (suc n) (omega arith) j (omega arith) (omega arith))
            | no e ↦
                with-other (without sel f n) (f + n) 0 j (omega arith) e
                ∙ elim (dec_le f j) [
                  | yes a ↦ elim (dec_lt j (f + n)) [
                    | yes b ↦ without_in n (omega arith) j a b ∙ sym (without_in (suc n) (omega arith) j a (omega arith))
                    | no b ↦ without-out n (omega arith) j l (λ x y. b y) ∙ sym (without-out (suc n) (omega arith) j l (λ x y. omega arith))
                  ]
                  | no a ↦ without-out n (omega arith) j l (λ x y. a x) ∙ sym (without-out (suc n) (omega arith) j l (λ x y. a x))
                ]
          ]

-- ---- the turns

-- n positions in a row are selected from the lowest on
abbrev pub Run : ℕ → ℕ → Type 0
Run sel n = (lowest sel 0 + n ≤ 64) × ((j : ℕ) → lowest sel 0 ≤ j → j < lowest sel 0 + n → bit_at sel j ≡ 1)

-- what run_length gives where something is selected: such a run, not empty
pub run-selected : (sel most : ℕ) → sel < 2 ^ 64 → (sel ≡ 0 → ⊥) → 0 < most
    → (0 < run_length_of sel (lowest sel 0) most) × (run_length_of sel (lowest sel 0) most ≤ most) × Run sel (run_length_of sel (lowest sel 0) most)
run-selected sel most small some more = (omega (arith, begins), omega arith, (omega (arith, end.top, below), λ j a b. selected j a (omega arith)))
  where
    f : ℕ
    f = lowest sel 0

    below : f < 64
    below = lowest-some sel small some

    here : bit_at sel f ≡ 1
    here = (lowest-is sel 0 (omega arith)).held below

    e : ℕ
    e = lowest ((2 ^ 64 - 1) - sel) f

    end : Lowest ((2 ^ 64 - 1) - sel) f e
    end = lowest-is ((2 ^ 64 - 1) - sel) f (omega (arith, below))

    begins : f < e
    begins =
        elim (dec_lt f e) [
          | yes l ↦ l
          | no l ↦
              let same : e ≡ f = omega (arith, end.from) in
              absurd (omega (arith, here, ap (bit_at ((2 ^ 64 - 1) - sel)) same, end.held (omega (arith, below)), bit_not 64 f sel small below))
        ]

    selected : (j : ℕ) → f ≤ j → j < e → bit_at sel j ≡ 1
    selected j a b = omega (arith, end.none j a b, bit_not 64 j sel small (omega (arith, end.top)), bit-lt sel j)

module _ (occupied : ℕ) (vs : List ℕ) (slots at limit : ℕ) (l₀ l : List ℕ) (fits : occupied < 2 ^ 64) (named : slots < 2 ^ 64)
    (sel k : ℕ) (t : DrainingDense occupied vs slots at limit l₀ l sel k) (cells : length vs ≡ 64) (room : at + limit ≤ length l₀) where
  -- c values were written, which left the list x, and s is still selected
  abbrev DrainedTo : List ℕ → ℕ → ℕ → Type 0
  DrainedTo x s c = DrainingDense occupied vs slots at limit l₀ x s c

  the_same : (x x' : List ℕ) (s s' c c' : ℕ) → x ≡ x' → s ≡ s' → c ≡ c' → DrainedTo x s c → DrainedTo x' s' c'
  the_same x x' s s' c c' p q r d =
      subst (λ (y : List ℕ). DrainedTo y s' c') p (subst (λ (y : ℕ). DrainedTo x y c') q (subst (λ (y : ℕ). DrainedTo x s y) r d))

  -- one position more of a run
  dense-next : (n : ℕ) → k + suc n ≤ limit → Run sel (suc n)
      → DrainedTo (paste l (at + k) (drop (lowest sel 0) vs) n) (without sel (lowest sel 0) n) (k + n)
      → DrainedTo (paste l (at + k) (drop (lowest sel 0) vs) (suc n)) (without sel (lowest sel 0) (suc n)) (k + suc n)
  dense-next n few run before =
      the_same (set x (at + (k + n)) (get_or vs (lowest s 0) 0)) (paste l (at + k) (drop f vs) (suc n)) (clear_bit s (lowest s 0)) (without sel f (suc n)) (k + n + 1) (k + suc n)
      written (ap (clear_bit s) low ∙ without_more sel f t.small n top) (omega arith)
      (dense-turn occupied vs slots at limit l₀ fits named x s (k + n) before room (omega arith) (λ z. omega (arith, here, ap (λ (y : ℕ). bit_at y (f + n)) z, bit-none (f + n))))
    where
      f : ℕ
      f = lowest sel 0

      s : ℕ
      s = without sel f n

      x : List ℕ
      x = paste l (at + k) (drop f vs) n

      top : f + n < 64
      top = omega (arith, run.0)

      here : bit_at s (f + n) ≡ 1
      here = without-out sel f t.small n (omega (arith, top)) (f + n) top (λ a b. omega arith) ∙ run.1 (f + n) (omega arith) (omega arith)

      none : (j : ℕ) → j < f + n → bit_at s j ≡ 0
      none j a =
          elim (dec_le f j) [
            | yes b ↦ without_in sel f t.small n (omega (arith, top)) j b a
            | no b ↦ without-out sel f t.small n (omega (arith, top)) j (omega (arith, top)) (λ x y. b x) ∙ (lowest-is sel 0 (omega arith)).none j (omega arith) (omega arith)
          ]

      low : lowest s 0 ≡ f + n
      low = sym (lowest-eq s 0 (f + n) (omega arith) (record { from = omega arith; top = omega (arith, top); held = λ m. here; none = λ j a b. none j b }))

      written : set x (at + (k + n)) (get_or vs (lowest s 0) 0) ≡ paste l (at + k) (drop f vs) (suc n)
      written =
          let place : at + (k + n) ≡ (at + k) + n = omega arith in
          let more : n + 1 ≡ suc n = omega arith in
          ap₂ (λ (a : ℕ) (b : ℕ). set x a (get_or vs b 0)) place low
          ∙ copy-turn l vs x (at + k) f n (omega (arith, t.long)) (omega (arith, top)) refl ∙ ap (paste l (at + k) (drop f vs)) more

  -- a run of n positions: what n turns for the lowest position leave
  pub dense-turns : (n : ℕ) → k + n ≤ limit → Run sel n
      → DrainedTo (paste l (at + k) (drop (lowest sel 0) vs) n) (without sel (lowest sel 0) n) (k + n)
  dense-turns zero few run =
      the_same l (paste l (at + k) (drop (lowest sel 0) vs) 0) sel (without sel (lowest sel 0) 0) k (k + 0)
      (paste-zero l (at + k) (drop (lowest sel 0) vs)) (sym (without-none sel (lowest sel 0) t.small (omega (arith, run.0)))) (omega arith) t
  dense-turns (suc n) few run = dense-next n few run (dense-turns n (omega arith) (omega (arith, run.0), λ j a b. run.1 j a (omega arith)))
