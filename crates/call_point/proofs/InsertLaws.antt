-- insert, over plain variables: what its two ways come to. Assumes nothing.
use mathlib.Core.Path.{◌≡◌, refl, sym, ap, ◌∙◌}
use mathlib.Core.Bool.{Bool, true, false}
use mathlib.Core.List.{List, []}
use Prim.Native.Nat.{ℕ, ◌/◌, ◌≤◌, ◌<◌}
use native.Mathlib.Omega.{arith}
use lib.ListN.{length}
use Rattle.window.specs.declared.AdaptiveReceiverPacketWindow.{AdaptiveReceiverPacketWindow}
use Rattle.window.specs.declared.answers.Step.{Step}
use Rattle.window.specs.Memory.{Memory, position, page_count_of}
use Rattle.model.specs.Calls.{insert}
use Rattle.model.specs.Window.{Window, decode, is_retired}
use Rattle.model.specs.Pages.{insert_page}
use Rattle.model.specs.Steps.{Returned, returned_by, Effect, effect, window_does, insert_step, revive}
use Rattle.model.specs.Sound.{Sound}
use Rattle.call_base.specs.Answers.{replied, state_of, left_of}
use Rattle.call_base.specs.Promises.{Reachable, Fills, Admitted}
use Rattle.call_base.proofs.MeetsLaws.{fills-admitted}
use Rattle.call_base.proofs.ReachLaws.{unreachable, is-reachable}
use Rattle.call_point.specs.declared.insert.Put.{Put}
use Rattle.call_point.specs.Promises.{after_put, Placing, InsertsLive}
use Rattle.call_point.proofs.WrittenLaws.{FitsIn, only-past, only-lengths}
use Rattle.call_point.proofs.ReachLaws.{below}
use Rattle.call_point.proofs.ReviveLaws.{InsertsRetired}

-- p is the sequence's position, k is what `reachable` says of its page
module _ (h : AdaptiveReceiverPacketWindow) (m : Memory) (fit : FitsIn h m) (s p : ℕ) (k : Bool)
    (e : p ≡ position h.window_size s) (reach : Reachable h m.blocks (p / 64) k) (v : ℕ) (listed : Bool) (l : List ℕ) (long : 384 ≤ length l) where
  abbrev g : ℕ
  g = p / 64

  under : g < page_count_of h.window_size
  under = below h m fit s p k e reach

  placing : Sound (decode h m) → Placing h m g h.n
  placing ok = record { sound = ok; cells = refl; below = under; pages_long = fit.long.pages_long; blocks_long = fit.long.blocks_long }

  -- what the call does
  does : window_does (decode h m) (insert s v listed)
      ≡ effect (after_put (revive (decode h m) g).after g (insert_page h.n ((revive (decode h m) g).after.pages g) s v))
      (insert_page h.n ((revive (decode h m) g).after.pages g) s v).answer (revive (decode h m) g).out
  unfolding window_does insert_step decode
  does =
      ap (λ (q : ℕ).
      effect (after_put (revive (decode h m) (q / 64)).after (q / 64) (insert_page h.n ((revive (decode h m) (q / 64)).after.pages (q / 64)) s v))
      (insert_page h.n ((revive (decode h m) (q / 64)).after.pages (q / 64)) s v).answer (revive (decode h m) (q / 64)).out) (sym e)

  -- ---- the page is retired
  module _ (r : Step) (m' : Memory) (l' : List ℕ) (z : k ≡ false) (t : InsertsRetired h m (p / 64) h.n s v l r m' l') where
    retired : Sound (decode h m) → is_retired (decode h m) g ≡ true
    retired ok = unreachable h m ok g under k reach z

    retired-fills : Fills (λ (w : Window). window_does w (insert s v listed)) (state_of h m) l (left_of r m' l')
    retired-fills = record {
      wrote = t.wrote;
      few = omega (arith, t.few);
      taken = t.taken;
      past = only-past h m m' fit g under t.only;
      lengths = only-lengths h m m' fit g under t.only;
      gives = λ ok. (λ i. effect (t.gives (placing ok) (retired ok) i) (t.answer (placing ok) (retired ok) i) (t.out (placing ok) (retired ok) i)) ∙ sym does;
    }

    pub retired-admitted : Admitted (insert s v listed) (state_of h m) l (left_of r m' l')
    retired-admitted = fills-admitted (λ (w : Window). window_does w (insert s v listed)) (insert s v listed) (state_of h m) l (left_of r m' l') long refl retired-fills

  -- ---- the page is live
  module _ (q : Put) (m' : Memory) (n : k ≡ true) (t : InsertsLive h m (p / 64) h.n s v q m') where
    live : Sound (decode h m) → revive (decode h m) g ≡ returned_by (decode h m) []
    unfolding revive
    live ok = rw (is-reachable h m ok g under k reach n)

    does-live : Sound (decode h m) → window_does (decode h m) (insert s v listed)
        ≡ effect (after_put (decode h m) g (insert_page h.n ((decode h m).pages g) s v)) (insert_page h.n ((decode h m).pages g) s v).answer []
    does-live ok =
        does
        ∙ ap (λ (x : Returned). effect (after_put x.after g (insert_page h.n (x.after.pages g) s v)) (insert_page h.n (x.after.pages g) s v).answer x.out) (live ok)

    pub live-admitted : Admitted (insert s v listed) (state_of h m) l (left_of (replied q.window q.answer) m' l)
    live-admitted = record {
      sound = λ ok. record {
        answer = t.answer (placing ok) ∙ ap (λ (x : Effect). x.answer) (sym (does-live ok));
        window = t.gives (placing ok) ∙ ap (λ (x : Effect). x.after) (sym (does-live ok));
        returned = ap (λ (x : Effect). x.returned) (sym (does-live ok));
        count = ap (λ (x : Effect). length x.returned) (sym (does-live ok));
      };
      occupied = λ ok a. record { state = t.refused (placing ok) a; list = refl; count = refl };
      none_with_4 = λ a. refl;
      past_list = refl;
      long_list = refl;
      count_fits = omega arith;
      past_memory = only-past h m m' fit g under t.only;
      lengths = only-lengths h m m' fit g under t.only;
    }
