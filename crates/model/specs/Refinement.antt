-- What a head owes so that demand 3 holds of it: what its states show is what stands at their positions, and each call does at the
-- positions what `step` does. Statements only. Assumes nothing.
use Rattle.std.specs.Prelude.{◌≡◌, ℕ, ◌≤◌, length}
use Rattle.window.specs.Memory.{capacity}
use Rattle.model.specs.Roles.{role_of, told_of}
use Rattle.model.specs.Point.{point_of}
use Rattle.model.specs.Demand3.{Entry, SamePairs, copies, pairs_below, values, times, Head}
use Rattle.model.specs.Positions.{Positions, fresh_positions, retired_count, step}

-- `Ok` is what the head keeps after each call, and `positions_of` what stands at a state's positions
module _ (size : ℕ) (H : Head) (Ok : H.State → Type 0) (positions_of : H.State → Positions) where
  pub record Shows (w : H.State) : Type 0 where
    pub sound : H.Sound w
    pub live : SamePairs (H.pairs w) (pairs_below (capacity size) (positions_of w).live)
    pub once : (s v : ℕ) → copies s v (H.pairs w) ≤ 1
    pub live_values : (v : ℕ) → times v (values (H.pairs w)) ≡ times v (values (pairs_below (capacity size) (positions_of w).live))
    pub same_retired_values : (v : ℕ) → times v (H.retired w) ≡ times v (values (pairs_below (capacity size) (positions_of w).retired))
    pub count : H.len w ≡ length (H.pairs w)
    pub held : H.retired_values_held w ≡ length (H.retired w)
    pub base : H.base w ≡ (positions_of w).base
    pub point : H.point w ≡ point_of size (positions_of w).live (positions_of w).base
    pub same_retired_count : length (H.retired w) ≡ retired_count (capacity size) (positions_of w)

  pub record Refines (u : H.State) (e : Entry) (v : H.State) : Type 0 where
    pub ok : Ok v
    pub after : positions_of v ≡ (step size (positions_of u) e.call).after
    pub answer : told_of (role_of e.call) (step size (positions_of u) e.call).answer ≡ (role_of e.call).told e.answer
    pub returned : e.returned ≡ (step size (positions_of u) e.call).returned

  -- one refinement for each call that may be made in a state, and what a state shows
  pub record Refinement : Type 0 where
    pub shows : (w : H.State) → Ok w → Shows w
    pub refines : (u v : H.State) (e : Entry) → Ok u → H.Met u e v → Refines u e v

  -- a state with which a history may begin
  pub record Fresh (w : H.State) : Type 0 where
    pub ok : Ok w
    pub nothing : positions_of w ≡ fresh_positions
