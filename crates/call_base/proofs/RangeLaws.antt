-- The count of a range, and a number, that are not refused. Assumes nothing.
use Rattle.std.proofs.Common.{◌≡◌, ℕ, ◌≤◌, arith, leb-true}
use Rattle.model.specs.Roles.{range_argument, number_argument}
use Rattle.model.specs.Table.{range_count_of, Known, refused_for_of}
use Rattle.model.proofs.RefusalLaws as refusals
use Rattle.model.proofs.RefusalLaws.{tested, wire-taken}

pub count-taken : (k : Known) (first last : ℕ) → refused_for_of k (range_argument first last) ≡ 0 → range_count_of first last ≤ k.size
count-taken k a b z = leb-true _ _ (refusals.count-taken k a b z)

pub number-taken : (k : Known) (n : ℕ) → refused_for_of k (number_argument n) ≡ 0 → n ≤ 256
number-taken k n z = leb-true n 256 (tested 8 _ _ (λ e. omega arith) (wire-taken k (number_argument n) z).1).0
