-- Request S-14 of document 02, two visits against one: its claims, said once for any kind of visit, then of calls and of the window's
-- own definition. Statements only. Assumes nothing.
use Rattle.std.specs.Prelude.{◌≡◌, Bool, true, false, ◌&&◌, List, [], ◌++◌, ℕ, ◌+◌, ◌≤◌, leb, length}
use Rattle.model.specs.Calls.{release_retired, Answer, refused}
use Rattle.model.specs.Window.{Window}
use Rattle.model.specs.Steps.{release}
use Rattle.model.specs.Sound.{Sound, SoundWithPoint}
use Rattle.model.specs.Contract.{State, window_of, refusal}
use Rattle.model.specs.Heads.{Stepped}

-- ys begins with xs
pub record Begins (xs ys : List ℕ) : Type 0 where
  pub rest : List ℕ
  pub whole : xs ++ rest ≡ ys

-- ys begins with xs, which is "shorter by at most one value"
abbrev pub LacksAtMostOne : List ℕ → List ℕ → Type 0
LacksAtMostOne xs ys = Begins xs ys × (length ys ≤ length xs + 1)

-- ---- the claims; `Visit u b xs v`: in state u a visit of b (from 0 on) releases the values xs, in this order, and leaves state v

module _ (S : Type 0) (Ok : S → Type 0) (Visit : S → ℕ → List ℕ → S → Type 0) where
  -- "From one sound state, with budgets a and b whose sum is at most 256: the values released by a visit of a, then those of a visit
  -- of b, form a beginning of what one visit of a + b releases, shorter by at most one value."
  unfoldable pub TwoVisits : Type 0
  TwoVisits =
      (u v w z : S) (a b : ℕ) (xs ys zs : List ℕ) → Ok u → a + b ≤ 256
      → Visit u a xs v → Visit v b ys w → Visit u (a + b) zs z
      → LacksAtMostOne (xs ++ ys) zs

  -- "Up to 256, a larger budget's list always begins with a smaller one's."
  unfoldable pub LargerBudget : Type 0
  LargerBudget =
      (u v w : S) (a b : ℕ) (xs ys : List ℕ) → Ok u → a ≤ b → b ≤ 256
      → Visit u a xs v → Visit u b ys w
      → Begins xs ys

-- ---- visits by calls

-- In state u a call of release_retired with budget b met its contract, gave this answer, returned the values xs and left state v;
-- `listed` says whether its return list has 384 places.
abbrev pub ReleaseRetired : State → ℕ → Bool → Answer → List ℕ → State → Type 0
ReleaseRetired u b listed answer xs v = Stepped u (record { call = release_retired b listed; answer = answer; returned = xs }) v

-- with a return list that is long enough; where u's own lists are too short every call is refused and returns nothing
abbrev pub CallVisit : State → ℕ → List ℕ → State → Type 0
CallVisit u b xs v = (answer : Answer) × ReleaseRetired u b true answer xs v

abbrev pub IsSound : State → Type 0
IsSound u = SoundWithPoint (window_of u)

-- A call whose return list is too short, or whose budget is above 256, is refused and returns nothing: it is no visit. It leaves the
-- state, on every state, so that the claims hold of visits between which such calls were made.
unfoldable pub RefusedVisit : Type 0
RefusedVisit =
    (u v : State) (b : ℕ) (listed : Bool) (answer : Answer) (xs : List ℕ) → listed && leb b 256 ≡ false
    → ReleaseRetired u b listed answer xs v
    → (answer ≡ refused (refusal u (release_retired b listed))) × (xs ≡ []) × (v ≡ u)

-- ---- visits by the window's own definition

abbrev pub WindowVisit : Window → ℕ → List ℕ → Window → Type 0
WindowVisit w b xs v = ((release b w).out ≡ xs) × ((release b w).after ≡ v)

-- the window of a sound state
abbrev pub SoundWindow : Window → Type 0
SoundWindow w = (u : State) × (window_of u ≡ w) × Sound (window_of u)

-- ---- "Show this for every sound state."

pub record S-14 : Type 0 where
  pub calls : TwoVisits State IsSound CallVisit × LargerBudget State IsSound CallVisit
  pub refused_calls : RefusedVisit
  pub windows : TwoVisits Window SoundWindow WindowVisit × LargerBudget Window SoundWindow WindowVisit
