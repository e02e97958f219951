-- The window and its states seen from the positions; a call that does to the window what `step` does at the positions; what a step
-- owes. Definitions only. Assumes nothing.
use Rattle.std.specs.Prelude.{◌≡◌, true, ◌&&◌, ℕ}
use Rattle.model.specs.Calls.{Call}
use Rattle.model.specs.Roles.{role_of, told_of}
use Rattle.model.specs.Table.{sum}
use Rattle.model.specs.Demand3.{one, Entry}
use Rattle.model.specs.Window.{Window, size_of, pages_of, is_retired, live_at, retired_at}
use Rattle.model.specs.Pages.{holds_value}
use Rattle.model.specs.Positions.{Positions, positions, Result, step, does}
use Rattle.model.specs.Steps.{Effect, window_step, window_does}
use Rattle.model.specs.Sound.{SoundWithPoint}
use Rattle.model.specs.Contract.{State, window_of, lengths_fit}
use Rattle.model.specs.Heads.{head}
use Rattle.model.specs.Refinement.{Refines}

abbrev pub positions_of : Window → Positions
positions_of w = positions (live_at w) (retired_at w) w.header.release_cursor w.header.base

-- e, of call c, does to window w what r does at its positions
pub record Alike (w : Window) (c : Call) (e : Effect) (r : Result) : Type 0 where
  pub after : positions_of e.after ≡ r.after
  pub answer : told_of (role_of c) r.answer ≡ (role_of c).told e.answer
  pub returned : e.returned ≡ r.returned

-- call c, not refused for its arguments, does to window w what it does at its positions
abbrev pub Follows : Window → Call → Type 0
Follows w c = Alike w c (window_does w c) (does (size_of w) (positions_of w) c)

-- and refused or not
abbrev pub StepFollows : Window → Call → Type 0
StepFollows w c = Alike w c (window_step w c) (step (size_of w) (positions_of w) c)

-- the retired pages that hold a value
abbrev pub retired_pages_of : Window → ℕ
retired_pages_of w = sum (pages_of w) (λ (g : ℕ). one (is_retired w g && holds_value (w.pages g)))

-- ---- states

abbrev pub positions_in : State → Positions
positions_in u = positions_of (window_of u)

-- a sound state of this window_size, with lists as long as it names them
pub record SoundState (size : ℕ) (u : State) : Type 0 where
  pub of_size : u.header.window_size ≡ size
  pub fit : lengths_fit u ≡ true
  pub sound : SoundWithPoint (window_of u)

-- what a step of a head owes, as demand 3 needs it
abbrev pub StepRefines : ℕ → State → Entry → State → Type 0
StepRefines size = Refines size head (SoundState size) positions_in
