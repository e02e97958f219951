-- Whether one cell in use is sound: the four ends of its test, over plain variables. Assumes nothing.
use mathlib.Core.Path.{◌≡◌, sym, ap, ◌∙◌}
use mathlib.Core.Bool.{false}
use Prim.Native.Nat.{ℕ, ◌/◌, ◌%◌, ◌^◌, ◌≤◌, ◌<◌}
use native.Mathlib.Omega.{arith}
use lib.Dec.{ltb, eqb}
use Rattle.page_check.specs.Promises.{Decides, SoundCell}
use Rattle.page_check.proofs.DecideLaws.{decides-no, decides-same, decides_eq, decides-lt}

module _ (n cap g kind c s : ℕ) where
  pub cell-wide : 2 ^ 31 ≤ s → Decides (SoundCell n cap g kind c s) false
  cell-wide h = decides-no (λ ok. omega (arith, ok.wire))

  pub cell-elsewhere : (q : ℕ) → q ≡ s % cap → (q / 64 ≡ g → ⊥) → Decides (SoundCell n cap g kind c s) false
  cell-elsewhere q e h = decides-no (λ ok. h (ap (λ (x : ℕ). x / 64) e ∙ ok.here))

  module _ (wire : s < 2 ^ 31) (q : ℕ) (e : q ≡ s % cap) (here : q / 64 ≡ g) where
    of-page : s % cap / 64 ≡ g
    of-page = ap (λ (x : ℕ). x / 64) (sym e) ∙ here

    pub cell-sparse : kind ≡ 1 → Decides (SoundCell n cap g kind c s) (ltb c n)
    cell-sparse k = decides-same (ltb c n) (decides-lt c n)
        (λ l. record { wire = wire; here = of-page; sparse = λ _. l; dense = λ d. absurd (omega (arith, k, d)) })
        (λ ok. ok.sparse k)

    pub cell-dense : (kind ≡ 1 → ⊥) → 1 ≤ kind → kind ≤ 2 → Decides (SoundCell n cap g kind c s) (eqb (s % 64) c)
    cell-dense k low high = decides-same (eqb (s % 64) c) (decides_eq (s % 64) c)
        (λ d. record { wire = wire; here = of-page; sparse = λ a. absurd (k a); dense = λ _. d })
        (λ ok. ok.dense (omega arith))
