-- Tests of single words, over plain variables. Assumes nothing.
use mathlib.Core.Path.{◌≡◌, refl}
use mathlib.Core.Bool.{Bool, true, false, not, beq}
use Prim.Native.Nat.{ℕ, zero, suc, ◌^◌, ◌<◌}
use native.Mathlib.Omega.{arith}
use lib.Dec.{leb, eqb}
use lib.Pow.{pow_pos}
use borrow.Author.Tests.{leb-true, leb-false}
use Rattle.words.specs.Word.{is_set, span}
use Rattle.words.proofs.BitLaws.{bit-lt}
use Rattle.model.specs.Demand3.{one}
use Rattle.page_check.specs.Promises.{Decides}
use Rattle.page_check.proofs.DecideLaws.{decides-yes, decides-no}
use Rattle.call_check.specs.Promises.{BitMatches}

-- a bit, which is 0 or 1, is as a test says
bit-as : (d : ℕ) (y : Bool) → d < 2 → Decides (d ≡ one y) (beq (eqb d 1) y)
bit-as zero true l = decides-no (λ q. omega arith)
bit-as zero false l = decides-yes refl
bit-as (suc zero) true l = decides-yes refl
bit-as (suc zero) false l = decides-no (λ q. omega arith)
bit-as (suc (suc d)) y l = absurd (omega arith)

pub bit_decides : (word k x : ℕ) (b : Bool) → b ≡ is_set word k → Decides (BitMatches word k x) (beq b (not (eqb x 0)))
bit_decides word k x b e = rw e (bit-as _ (not (eqb x 0)) (bit-lt word k))

-- the lowest n bits are those of the numbers below 2 ^ n
pub below_power : (word n s : ℕ) → s ≡ span 0 n → Decides (word < 2 ^ n) (leb word s)
unfolding span
below_power word n s e = record {
  holds = λ t. omega (arith, e, pow_pos n, leb-true word s t);
  fails = λ t l. omega (arith, e, pow_pos n, leb-false word s t);
}
