-- How a call that did all but the point, and then worked it out, meets its contract: over the state that it found and the one that it
-- left. Assumes nothing.
use Rattle.std.proofs.Common.{◌≡◌, ℕ, List, sym, refl, ap, ◌∙◌, subst}
use Rattle.window.specs.declared.AdaptiveReceiverPacketWindow.{AdaptiveReceiverPacketWindow}
use Rattle.model.specs.Calls.{Call, refused}
use Rattle.model.specs.Table.{Table, argument_refusal}
use Rattle.model.specs.Window.{Window, live_at, point_for}
use Rattle.model.specs.Steps.{set_point, known_by, window_does}
use Rattle.model.specs.Sound.{Sound, SoundWithPoint}
use Rattle.model.specs.Contract.{State, window_of, Left}
use Rattle.page_base.proofs.DecodeLaws.{header_at}
use Rattle.laws_soundness.specs.Change.{Proper, sizes_of}
use Rattle.laws_soundness.proofs.ProperLaws.{proper-decode}
use Rattle.laws_soundness.proofs.CallLaws.{does-keeps}
use Rattle.laws_acknowledge.proofs.WindowLaws.{Works}
use Rattle.call_base.specs.Promises.{Admitted, Acts}
use Rattle.call_base.proofs.MeetsLaws.{left_with, pointed-acts}
use Rattle.acknowledge.specs.Promises.{with_sizes_of}

module _ (c : Call) (u : State) (l : List ℕ) (r : Left) (a : Admitted c u l r) (z : argument_refusal (known_by (window_of u).header) c ≡ 0) (ok : SoundWithPoint (window_of u)) where
  pub proper : Proper (window_of u)
  proper = proper-decode u.header u.memory ok.sound

  -- the window that it left
  pub left-window : window_of r.state ≡ (window_does (window_of u) c).after
  left-window = (a.sound ok.sound).window

  pub left-sound : Sound (window_of r.state)
  left-sound = subst Sound (sym left-window) (does-keeps (window_of u) proper c z).proper.sound

  -- window_size, N and demote_at are those that it found
  left-sizes : sizes_of r.state.header ≡ sizes_of u.header
  left-sizes =
      ap sizes_of (sym (header_at r.state.header r.state.memory)) ∙ ap (λ (w : Window). sizes_of w.header) left-window
      ∙ (does-keeps (window_of u) proper c z).sizes ∙ ap sizes_of (header_at u.header u.memory)

  pub same-sizes : with_sizes_of r.state.header u.header ≡ r.state.header
  same-sizes = λ i. let v = r.state.header in record {
    window_size = (sym left-sizes i).size;
    n = (sym left-sizes i).cells;
    demote_at = (sym left-sizes i).demote_at;
    len = v.len;
    retired_held = v.retired_held;
    release_cursor = v.release_cursor;
    base = v.base;
    point = v.point;
    nonempty_summary = v.nonempty_summary;
    retired_blocks = v.retired_blocks;
    promotions = v.promotions;
    single_demotions = v.single_demotions;
    range_demotions = v.range_demotions;
  }

  -- what works out the point of the window works out the point of the header
  pub left-works : (f : ℕ → Table → (base point : ℕ) → ℕ) → Works f (window_does (window_of u) c).after
      → point_for (window_of r.state) ≡ f r.state.header.window_size (live_at (window_of r.state)) r.state.header.base r.state.header.point
  left-works f e =
      subst (Works f) (sym left-window) e
      ∙ ap (λ (h : AdaptiveReceiverPacketWindow). f h.window_size (live_at (window_of r.state)) h.base h.point) (header_at r.state.header r.state.memory)

-- a call after which f works out the point, and which left the header h with it
pub works-acts : (c : Call) (u : State) (l : List ℕ) (r : Left) (h : AdaptiveReceiverPacketWindow) (f : ℕ → Table → (base point : ℕ) → ℕ)
    → Admitted c u l r → argument_refusal (known_by (window_of u).header) c ≡ 0
    → (SoundWithPoint (window_of u) → Works f (window_does (window_of u) c).after)
    → (SoundWithPoint (window_of u) → h ≡ set_point r.state.header (f r.state.header.window_size (live_at (window_of r.state)) r.state.header.base r.state.header.point))
    → (SoundWithPoint (window_of u) → r.answer ≡ refused 4 → h ≡ r.state.header)
    → Acts c u l (left_with r h)
works-acts c u l r h f a z works is stays =
    pointed-acts c u l r h a (λ ok. is ok ∙ ap (set_point r.state.header) (sym (left-works c u l r a z ok f (works ok)))) stays

-- a call after which the point that was there is still right
pub still-acts : (c : Call) (u : State) (l : List ℕ) (r : Left) → Admitted c u l r → argument_refusal (known_by (window_of u).header) c ≡ 0
    → (SoundWithPoint (window_of u) → Works (λ n t base point. point) (window_does (window_of u) c).after) → Acts c u l r
still-acts c u l r a z works = works-acts c u l r r.state.header (λ n t base point. point) a z works (λ ok. refl) (λ ok e. refl)
