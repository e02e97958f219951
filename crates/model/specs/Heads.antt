-- Demand 3 of the window itself: a head is a state that began with `new` and in which each call met its contract. Statements only.
-- Assumes nothing.
use Rattle.std.specs.Prelude.{◌≡◌, Bool, List, [], ℕ, leb, length, take}
use Rattle.std.proofs.Math.Option.{Option, none, some}
use Rattle.window.specs.Memory.{Memory}
use Rattle.window.specs.New.{made, new_result, new_of}
use Rattle.model.specs.Roles.{role_of}
use Rattle.model.specs.Table.{Pair}
use Rattle.model.specs.Demand3.{Entry, Head, History, calls_of, common, Demand3}
use Rattle.model.specs.Window.{live_pairs_of, retired_values}
use Rattle.model.specs.Sound.{SoundWithPoint}
use Rattle.model.specs.Contract.{State, window_of, Left, Meets}

-- the return list of a call, of which it tells whether it has 384 places; a call that takes none gets the empty list
abbrev pub Lists : Option Bool → List ℕ → Type 0
Lists none l = l ≡ []
Lists (some listed) l = listed ≡ leb 384 (length l)

-- one call: in state u, with some return list, it meets its contract, gives this entry and leaves state v
pub record Stepped (u : State) (e : Entry) (v : State) : Type 0 where
  pub list : List ℕ
  pub lists : Lists (role_of e.call).listed list
  pub left : Left
  pub meets : Meets e.call u list left
  pub answer : left.answer ≡ e.answer
  pub returned : take left.count left.list ≡ e.returned
  pub state : left.state ≡ v

-- "Heads A and B start fresh with equal window_size and the memory document 01 names": what an accepted `new` leaves, whatever N,
-- demote_at and the memory's contents were
pub record Began (size : ℕ) (u : State) : Type 0 where
  pub n : ℕ
  pub demote_at : ℕ
  pub lent : Memory
  pub accepted : new_result (made u.header) u.memory ≡ new_of lent size n demote_at

abbrev pub pairs_of : State → List Pair
pairs_of u = live_pairs_of (window_of u)

abbrev pub retired_of : State → List ℕ
retired_of u = retired_values (window_of u)

abbrev pub held_of : State → ℕ
held_of u = u.header.retired_held

abbrev pub len_of : State → ℕ
len_of u = u.header.len

abbrev pub base_of : State → ℕ
base_of u = u.header.base

abbrev pub point_in : State → ℕ
point_in u = u.header.point

-- a head with this window
abbrev pub head : Head
head = record {
  State = State;
  Met = Stepped;
  Sound = λ (u : State). SoundWithPoint (window_of u);
  pairs = pairs_of;
  retired = retired_of;
  retired_values_held = held_of;
  len = len_of;
  base = base_of;
  point = point_in;
}

-- demand 3: for every two heads of one window_size and every two histories of one common list
unfoldable pub HeadsMeetDemand3 : Type 0
HeadsMeetDemand3 =
    (size : ℕ) (a b v w : State) (xs ys : List Entry) → Began size a → Began size b
    → (g : History head a xs v) (h : History head b ys w)
    → common (calls_of xs) ≡ common (calls_of ys)
    → Demand3 head size g h
