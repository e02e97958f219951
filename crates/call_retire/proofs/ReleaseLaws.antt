-- release_retired, over plain variables. Assumes nothing.
use Rattle.std.proofs.Common.{Ok, ◌≡◌, ℕ, ◌≤◌, true, List, [], length, sym, refl, ap, ◌∙◌, arith}
use Rattle.window.specs.declared.AdaptiveReceiverPacketWindow.{AdaptiveReceiverPacketWindow}
use Rattle.window.specs.declared.answers.Answer.TheVariants.{Released}
use Rattle.window.specs.Memory.{Memory, memory}
use Rattle.model.specs.Calls.{released}
use Rattle.model.specs.Window.{Window, decode}
use Rattle.model.specs.Steps.{Release, release_of, effect, release, release_step}
use Rattle.model.specs.Sound.{Sound}
use Rattle.page_remove.specs.Promises.{stretch}
use Rattle.page_remove.proofs.WroteLaws.{stretch-length}
use Rattle.page_remove.proofs.DrainLoopLaws.{wrote_none}
use Rattle.laws_soundness.proofs.ReleaseLaws.{drop-same}
use Rattle.laws_soundness.proofs.VisitLaws.{none-next, units-none}
use Rattle.call_base.specs.Answers.{number_of, replied, state_of, left_of}
use Rattle.call_base.specs.Promises.{Fills}
use Rattle.release_visit.specs.declared.Visited.{Visited}
use Rattle.release_visit.specs.Promises.{Releases}
use Rattle.release_visit.proofs.VisitLaws.{within_none}
use Rattle.call_retire.specs.Finish.{finished}
use Rattle.call_retire.proofs.FinishLaws.{words-past, words-lengths, finished-fills}

module _ (h : AdaptiveReceiverPacketWindow) (ss vs pages blocks l : List ℕ) (budget : ℕ) (r : Visited) (pages' blocks' l' : List ℕ)
    (long : 384 ≤ length l) (taken : budget ≤ 256) (t : Releases h ss vs pages blocks l 0 budget r pages' blocks' l') where
  few : r.count ≤ 384
  few = omega (arith, t.few, t.paid)

  gives : Sound (decode h (memory ss vs pages blocks))
      → effect (decode r.window (memory ss vs pages' blocks')) (released r.count r.units) (stretch 0 r.count l')
      ≡ release_step (decode h (memory ss vs pages blocks)) budget
  unfolding release_step
  gives ok =
      ap (λ (n : ℕ). effect (decode r.window (memory ss vs pages' blocks')) (released n r.units) (stretch 0 r.count l'))
      (sym (stretch-length 0 r.count l' (omega (arith, few, long, t.wrote.long))))
      ∙ ap (λ (x : Release). effect x.after (released (length x.out) x.units) x.out) (t.gives ok)

  pub release-fills : Fills (λ (w : Window). release_step w budget) (state_of h (memory ss vs pages blocks)) l
      (left_of (finished r.window (Ok (Released r.count r.units)) r.count r.sound) (memory ss vs pages' blocks') l')
  release-fills =
      finished-fills (λ (w : Window). release_step w budget) (state_of h (memory ss vs pages blocks)) l r.window (Ok (Released r.count r.units)) r.count r.sound ss vs pages' blocks' l'
      refl t.wrote few (words-past h.window_size ss vs pages blocks pages' blocks' t.within) (words-lengths h.window_size ss vs pages blocks pages' blocks' t.within)
      t.sound gives

-- ---- nothing held

-- a sound window that holds no retired value: nothing is released, and it is as it was
release-none : (w : Window) (budget : ℕ) → Sound w → w.header.retired_held ≡ 0 → release budget w ≡ release_of w [] 0
release-none w budget ok none = units-none w budget budget (none-next w ok none) ∙ ap (λ (v : Window). release_of v [] 0) (drop-same w ok)

pub none-released : (w : Window) (budget : ℕ) → Sound w → w.header.retired_held ≡ 0 → release_step w budget ≡ effect w (released 0 0) []
unfolding release_step
none-released w budget ok none = ap (λ (x : Release). effect x.after (released (length x.out) x.units) x.out) (release-none w budget ok none)

-- what a visit gives there
abbrev pub none_visited : AdaptiveReceiverPacketWindow → Visited
none_visited h = record { window = h; count = 0; units = 0; sound = true }

pub none-visits : (h : AdaptiveReceiverPacketWindow) (ss vs pages blocks l : List ℕ) (at budget : ℕ) → h.retired_held ≡ 0
    → Releases h ss vs pages blocks l at budget (none_visited h) pages blocks l
unfolding decode
none-visits h ss vs pages blocks l at budget none = record {
  within = within_none h.window_size pages blocks;
  wrote = wrote_none at l;
  few = omega arith;
  paid = omega arith;
  limits = refl;
  sound = λ ok. refl;
  gives = λ ok. sym (release-none (decode h (memory ss vs pages blocks)) budget ok none);
}

-- so the answer at once is the step's, and on any state nothing is written
module _ (h : AdaptiveReceiverPacketWindow) (m : Memory) (l : List ℕ) (budget : ℕ) (none : h.retired_held ≡ 0) where
  none-given : Sound (decode h m) → effect (decode h m) (released 0 0) [] ≡ release_step (decode h m) budget
  unfolding decode
  none-given ok = sym (none-released (decode h m) budget ok none)

  pub none-fills : Fills (λ (w : Window). release_step w budget) (state_of h m) l (left_of (replied h (Ok (Released 0 0))) m l)
  none-fills = record {
    wrote = wrote_none 0 l;
    few = omega arith;
    taken = λ e. let k : ◌≡◌ {A = ℕ} 0 4 = ap number_of e in omega (arith, k);
    past = record { sequences = refl; values = refl; pages = refl; blocks = refl };
    lengths = record { sequences = refl; values = refl; pages = refl; blocks = refl };
    gives = none-given;
  }
