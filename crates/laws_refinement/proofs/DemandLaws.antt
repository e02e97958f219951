-- Demand 3 of the window itself: a head begins with nothing at its positions, and it refines them. Assumes nothing.
use mathlib.Core.Path.{◌≡◌, refl, ap, ◌∙◌}
use Prim.Native.Nat.{ℕ}
use Rattle.window.specs.declared.AdaptiveReceiverPacketWindow.{AdaptiveReceiverPacketWindow}
use Rattle.window.specs.Memory.{Memory}
use Rattle.window.specs.New.{fresh}
use Rattle.model.specs.Window.{fresh_window}
use Rattle.model.specs.Positions.{fresh_positions}
use Rattle.model.specs.Contract.{State}
use Rattle.model.specs.Heads.{Began, head, HeadsMeetDemand3}
use Rattle.model.specs.Refinement.{Fresh}
use Rattle.model.proofs.NewLaws.{fresh-live, fresh-retired, began-accepted, began-fresh, began-sound, began-fits}
use Rattle.model.proofs.HeadLaws.{carries}
use Rattle.laws_refinement.specs.Seen.{positions_of, positions_in, SoundState}
use Rattle.laws_refinement.proofs.ShowLaws.{refinement}

fresh-size : (size n d : ℕ) → (fresh size n d).window_size ≡ size
unfolding fresh
fresh-size size n d = refl

-- a fresh window has nothing at its positions
fresh-seen : (size n d : ℕ) (m : Memory) → positions_of (fresh_window size n d m) ≡ fresh_positions
unfolding fresh_window fresh
fresh-seen size n d m = λ i. record { live = λ q. fresh-live size n d m q i; retired = λ q. fresh-retired size n d m q i; cursor = 0; base = 0 }

pub began : (size : ℕ) (u : State) → Began size u → Fresh size head (SoundState size) positions_in u
began size u b = record {
  ok = record {
    of_size = ap (λ (h : AdaptiveReceiverPacketWindow). h.window_size) (began-accepted size u b).header ∙ fresh-size size b.n b.demote_at;
    fit = began-fits size u b;
    sound = began-sound size u b;
  };
  nothing = ap positions_of (began-fresh size u b) ∙ fresh-seen size b.n b.demote_at b.lent;
}

-- demand 3 holds
pub demand-3 : HeadsMeetDemand3
unfolding HeadsMeetDemand3
demand-3 size a b v w xs ys i j g h e =
    carries size (began-accepted size a i).within.size_high head (SoundState size) positions_in (refinement size)
    (began size a i) (began size b j) g h e
