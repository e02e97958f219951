-- The first number at which a test holds: it is there, and it is the only one. Assumes nothing.
use mathlib.Core.Path.{◌≡◌, refl, sym, ◌∙◌}
use mathlib.Core.Bool.{Bool, true, false, true≢false}
use Prim.Native.Nat.{ℕ, zero, suc, ◌+◌, ◌-◌, ◌≤◌, ◌<◌}
use native.Mathlib.Nat.{le_refl, le_antisymm}
use native.Mathlib.Omega.{arith}
use native.Mathlib.Decide.{ℕ_discrete, dec_le}
use lib.Dec.{ltb}
use borrow.Author.Tests.{ltb-true, ltb-false}
use Rattle.words.proofs.CaseLaws.{bool}
use Rattle.words.specs.First.{first_from_of, first_round}

-- r is the first number from k on, and below e, at which P holds; it is e if there is none
pub record IsFirst (P : ℕ → Bool) (k e r : ℕ) : Type 0 where
  pub from : k ≤ r
  pub top : r ≤ e
  pub held : r < e → P r ≡ true
  pub none : (j : ℕ) → k ≤ j → j < r → P j ≡ false

module _ (P : ℕ → Bool) where
  pub first-is : (n k : ℕ) → IsFirst P k (n + k) (first_from_of P n k)
  unfolding first_from_of
  first-is zero k = record { from = le_refl k; top = omega arith; held = λ l. absurd (omega arith); none = λ j a b. absurd (omega arith) }
  first-is (suc n) k = go (P k) refl (first-is n (suc k))
    where
      go : (t : Bool) → P k ≡ t → IsFirst P (suc k) (n + suc k) (first_from_of P n (suc k))
          → IsFirst P k (suc n + k) (elim t as (λ _. ℕ) [ true ↦ k | false ↦ first_from_of P n (suc k) ])
      go true q i = record { from = le_refl k; top = omega arith; held = λ l. q; none = λ j a b. absurd (omega arith) }
      go false q i = record {
        from = omega (arith, i.from);
        top = omega (arith, i.top);
        held = λ l. i.held (omega arith);
        none = λ j a b. elim (ℕ_discrete j k) [ yes p ↦ rw p q | no p ↦ i.none j (omega arith) b ];
      }

  not_after : (k e r s : ℕ) → IsFirst P k e r → IsFirst P k e s → s < r → ⊥
  not_after k e r s a b l = true≢false (sym (b.held (omega (arith, a.top))) ∙ a.none s b.from l)

  pub first-only : (k e r s : ℕ) → IsFirst P k e r → IsFirst P k e s → r ≡ s
  first-only k e r s a b =
      elim (dec_le r s) [
        | yes p ↦ elim (dec_le s r) [ yes q ↦ le_antisymm p q | no q ↦ absurd (not_after k e s r b a (omega arith)) ]
        | no p ↦ absurd (not_after k e r s a b (omega arith))
      ]

  -- how a search is shown to give the definition's answer
  pub first-eq : (n k r : ℕ) → IsFirst P k (n + k) r → r ≡ first_from_of P n k
  first-eq n k r a = first-only k (n + k) r (first_from_of P n k) a (first-is n k)

-- two tests that agree from k on, and below n + k, find the same number
pub first-same : (P Q : ℕ → Bool) (n k : ℕ) → ((j : ℕ) → k ≤ j → j < n + k → P j ≡ Q j) → first_from_of P n k ≡ first_from_of Q n k
first-same P Q n k h =
    let a = first-is P n k in
    first-eq Q n k (first_from_of P n k) (record {
      from = a.from;
      top = a.top;
      held = λ l. sym (h (first_from_of P n k) a.from l) ∙ a.held l;
      none = λ j l m. sym (h j l (omega (arith, a.top))) ∙ a.none j l m;
    })

-- ---- from k upwards and then round

module _ (P : ℕ → Bool) (n k : ℕ) where
  abbrev up : ℕ
  up = first_from_of P (n - k) k

  abbrev low : ℕ
  low = first_from_of P k 0

  pub round_up : ltb up n ≡ true → first_round P n k ≡ up
  unfolding first_round
  round_up i = rw i

  pub round-low : ltb up n ≡ false → ltb low k ≡ true → first_round P n k ≡ low
  unfolding first_round
  round-low i j = rw (i, j)

  pub round-end : ltb up n ≡ false → ltb low k ≡ false → first_round P n k ≡ n
  unfolding first_round
  round-end i j = rw (i, j)

  pub round-le : k ≤ n → first_round P n k ≤ n
  round-le l =
      bool (ltb up n)
      (λ i. rw (round_up i) (omega (arith, ltb-true up n i)))
      (λ i. bool (ltb low k) (λ j. rw (round-low i j) (omega (arith, ltb-true low k j))) (λ j. rw (round-end i j) (le_refl n)))

  pub round-held : k ≤ n → first_round P n k < n → P (first_round P n k) ≡ true
  round-held l =
      bool (ltb up n)
      (λ i. rw (round_up i) (λ h. (first-is P (n - k) k).held (omega arith)))
      (λ i. bool (ltb low k)
      (λ j. rw (round-low i j) (λ h. (first-is P k 0).held (omega (arith, ltb-true low k j))))
      (λ j. rw (round-end i j) (λ h. absurd (omega arith))))

  -- it is n only where the test holds nowhere below n
  pub round-none : k ≤ n → first_round P n k ≡ n → (j : ℕ) → j < n → P j ≡ false
  round-none l e j m =
      let a = first-is P (n - k) k in
      let b = first-is P k 0 in
      bool (ltb up n)
      (λ i. absurd (omega (arith, round_up i, ltb-true up n i)))
      (λ i. bool (ltb low k)
      (λ x. absurd (omega (arith, round-low i x, ltb-true low k x)))
      (λ x. elim (dec_le k j) [
        | yes y ↦ a.none j y (omega (arith, ltb-false up n i))
        | no y ↦ b.none j (omega arith) (omega (arith, ltb-false low k x))
      ]))

-- two tests that agree below n find the same number
pub round_same : (P Q : ℕ → Bool) (n k : ℕ) → k ≤ n → ((j : ℕ) → j < n → P j ≡ Q j) → first_round P n k ≡ first_round Q n k
unfolding first_round
round_same P Q n k l h =
    rw (first-same P Q (n - k) k (λ j a b. h j (omega arith)), first-same P Q k 0 (λ j a b. h j (omega arith)))
