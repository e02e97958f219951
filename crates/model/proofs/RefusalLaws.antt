-- The order of the refusals for arguments is one: where `argument_refusal` names a refusal, the plain table, the positions and the
-- window give just that one, with no step; 6 comes first, then 10; and what is known of arguments that are not refused. Assumes nothing.
use mathlib.Core.Path.{◌≡◌, refl}
use mathlib.Core.Bool.{Bool, true, false}
use mathlib.Core.Option.{some}
use mathlib.Core.List.{[]}
use Prim.Native.Nat.{ℕ, zero, suc, ◌^◌, ◌<◌}
use native.Mathlib.Omega.{arith}
use lib.Dec.{leb}
use borrow.Author.Tests.{lt-ltb, ltb-true}
use Rattle.model.specs.Calls.{Call, insert, remove, remove_range, set_base, refused}
use Rattle.model.specs.Roles.{Arguments, sequence_argument, range_argument, role_of}
use Rattle.model.specs.Table.{TableState, outcome, table_step, table_does, unless_refused as unless_in_table, Outcome, range_count_of, Known, first, limit_refusal_of, are_wire_numbers_of, refused_for_of, has_places, argument_refusal}
use Rattle.model.specs.Positions.{Positions, stays, step, does, unless_refused as unless_at_positions, Result}
use Rattle.model.specs.Window.{Window, size_of}
use Rattle.model.specs.Steps.{effect, known_by, unless_refused, window_step, window_acts, Effect}

-- what refusing k means in each of the three
pub record Refuse (k : ℕ) (t : TableState) (p : Positions) (w : Window) (o : Outcome) (r : Result) (e : Effect) : Type 0 where
  pub table : o ≡ outcome t (refused k)
  pub positions : r ≡ stays p (some (refused k))
  pub window : e ≡ effect w (refused k) []

module _ (t : TableState) (p : Positions) (w : Window) where
  refusing : (k : ℕ) (o : Outcome) (r : Result) (e : Effect) → (k ≡ 0 → ⊥) → Refuse k t p w (unless_in_table k t o) (unless_at_positions k p r) (unless_refused k w e)
  refusing zero o r e h = absurd (h refl)
  refusing (suc k) o r e h = record { table = refl; positions = refl; window = refl }

  pub one-order : (c : Call) → (argument_refusal (known_by w.header) c ≡ 0 → ⊥)
      → Refuse (argument_refusal (known_by w.header) c) t p w (table_step (size_of w) t c) (step (size_of w) p c) (window_step w c)
  one-order c h = refusing (argument_refusal (known_by w.header) c) (table_does (size_of w) t c) (does (size_of w) p c) (window_acts w c) h

-- ---- the order: 6 whatever the arguments are, then 10 whatever their limits say

module _ (k : Known) (c : Call) where
  pub short-refused : has_places (role_of c).listed ≡ false → argument_refusal k c ≡ 6
  short-refused short = rw short

  pub wide-refused : has_places (role_of c).listed ≡ true → are_wire_numbers_of (role_of c).arguments ≡ false → argument_refusal k c ≡ 10
  wide-refused long wide = rw (long, wide)

-- ---- arguments that are not refused

pub tested : (k : ℕ) (taken : Bool) (rest : ℕ) → (k ≡ 0 → ⊥) → first k taken rest ≡ 0 → (taken ≡ true) × (rest ≡ 0)
tested k true rest n e = (refl, e)
tested k false rest n e = absurd (n e)

module _ (k : Known) where
  pub listed-taken : (c : Call) → argument_refusal k c ≡ 0 → (has_places (role_of c).listed ≡ true) × (refused_for_of k (role_of c).arguments ≡ 0)
  listed-taken c = tested 6 _ _ (λ e. omega arith)

  pub wire-taken : (a : Arguments) → refused_for_of k a ≡ 0 → (are_wire_numbers_of a ≡ true) × (limit_refusal_of k a ≡ 0)
  wire-taken a = tested 10 _ _ (λ e. omega arith)

  -- a range has at most window_size positions
  pub count-taken : (a b : ℕ) → refused_for_of k (range_argument a b) ≡ 0 → leb (range_count_of a b) k.size ≡ true
  count-taken a b z = (tested 5 _ _ (λ e. omega arith) (wire-taken (range_argument a b) z).1).0

  pub range-taken : (a b : ℕ) (l : Bool) → argument_refusal k (remove_range a b l) ≡ 0 → leb (range_count_of a b) k.size ≡ true
  range-taken a b l z = count-taken a b (listed-taken (remove_range a b l) z).1

  pub insert-taken : (s v : ℕ) (l : Bool) → argument_refusal k (insert s v l) ≡ 0 → s < 2 ^ 31
  insert-taken s v l z = ltb-true s (2 ^ 31) (wire-taken (sequence_argument s) (listed-taken (insert s v l) z).1).0

  -- a remove of such a sequence is not refused
  pub remove-taken : (s : ℕ) → s < 2 ^ 31 → argument_refusal k (remove s) ≡ 0
  remove-taken s l = rw (lt-ltb s (2 ^ 31) l)

  pub base-taken : (s : ℕ) → argument_refusal k (set_base s) ≡ 0 → s < 2 ^ 31
  base-taken s z = ltb-true s (2 ^ 31) (tested 9 _ _ (λ e. omega arith) z).0
