-- Calls on sound states: what a contract that is met says of them, that a call leaves a sound state and does at its positions what
-- `step` does, and that no sound state is refused 7. Assumes nothing.
use mathlib.Core.Path.{◌≡◌, refl, sym, ap, subst, ◌∙◌}
use mathlib.Core.Bool.{true, false, ◌&&◌}
use mathlib.Core.List.{List, []}
use Prim.Native.Nat.{ℕ, zero, suc}
use native.Mathlib.Decide.{ℕ_discrete}
use lib.Dec.{eqb}
use lib.ListN.{length, take}
use Rattle.words.proofs.CaseLaws.{bool}
use Rattle.window.specs.declared.AdaptiveReceiverPacketWindow.{AdaptiveReceiverPacketWindow}
use Rattle.window.specs.Memory.{Memory}
use Rattle.window.specs.Refusals.{limits, long_enough_of, fits}
use Rattle.model.specs.Calls.{Call, refused}
use Rattle.model.specs.Roles.{role_of, told_of}
use Rattle.model.specs.Table.{argument_refusal}
use Rattle.model.specs.Demand3.{Entry}
use Rattle.model.specs.Window.{Window, size_of}
use Rattle.model.specs.Positions.{step}
use Rattle.model.specs.Steps.{Effect, effect, unless_refused, known_by, window_acts, window_step}
use Rattle.model.specs.Sound.{SoundWithPoint}
use Rattle.model.specs.Contract.{State, window_of, Left, lengths_fit, refusal, SameLengths, Does, Meets}
use Rattle.model.specs.Heads.{Stepped}
use Rattle.page_base.proofs.DecodeLaws.{header_at}
use Rattle.laws_soundness.specs.Change.{Proper, Sizes, sizes_of, SameSizes}
use Rattle.laws_soundness.proofs.ProperLaws.{proper-decode}
use Rattle.laws_soundness.proofs.CallLaws.{call-sizes, sound-call}
use Rattle.laws_refinement.specs.Seen.{positions_of, StepFollows, SoundState, StepRefines}
use Rattle.laws_refinement.proofs.CallLaws.{call-follows}
use Rattle.laws_refinement.proofs.AnswerLaws.{is_seven, not-refused-7, argument-not-7, never-7}

-- ---- the contract on a sound state

-- what is refused for its arguments changes nothing
unless-refused : (k : ℕ) (w : Window) (e : Effect) → (k ≡ 0 → ⊥) → unless_refused k w e ≡ effect w (refused k) []
unless-refused zero w e h = absurd (h refl)
unless-refused (suc k) w e h = refl

refused-step : (w : Window) (c : Call) → (argument_refusal (known_by w.header) c ≡ 0 → ⊥) → window_step w c ≡ effect w (refused (argument_refusal (known_by w.header) c)) []
refused-step w c h = unless-refused (argument_refusal (known_by w.header) c) w (window_acts w c) h

module _ (c : Call) (u : State) (l : List ℕ) (r : Left) (m : Meets c u l r) (fit : lengths_fit u ≡ true) where
  refusal_is : argument_refusal (known_by (window_of u).header) c ≡ refusal u c
  refusal_is = rw (fit, header_at u.header u.memory)

  refused-does : (refusal u c ≡ 0 → ⊥) → Does c (window_of u) r
  refused-does h =
      let t : window_step (window_of u) c ≡ effect (window_of u) (refused (refusal u c)) [] =
      refused-step (window_of u) c (λ z. h (sym refusal_is ∙ z)) ∙ ap (λ (k : ℕ). effect (window_of u) (refused k) []) refusal_is in
      let a = m.refuses h in
      record {
        answer = a.0 ∙ ap (λ (x : Effect). x.answer) (sym t);
        window = ap window_of a.1.state ∙ ap (λ (x : Effect). x.after) (sym t);
        returned = ap (λ (k : ℕ). take k r.list) a.1.count ∙ ap (λ (x : Effect). x.returned) (sym t);
        count = a.1.count ∙ ap (λ (x : Effect). length x.returned) (sym t);
      }

  -- refused for its arguments or not, a call that meets its contract does what the definition says
  pub meets-does : SoundWithPoint (window_of u) → Does c (window_of u) r
  meets-does ok = elim (ℕ_discrete (refusal u c) 0) [ yes z ↦ m.sound z ok | no z ↦ refused-does z ]

-- ---- one step

-- the same limits and lengths fit as well
pub fits-same : (h k : AdaptiveReceiverPacketWindow) (m n : Memory) → sizes_of k ≡ sizes_of h → SameLengths m n
    → fits k (length n.sequences) (length n.values) (length n.pages) (length n.blocks)
    ≡ fits h (length m.sequences) (length m.values) (length m.pages) (length m.blocks)
unfolding fits
fits-same h k m n e s =
    λ i. eqb (limits (e i).size (e i).cells (e i).demote_at) 0
    && long_enough_of (e i).size (s.sequences i) (s.values i) (s.pages i) (s.blocks i)

module _ (size : ℕ) (u v : State) (e : Entry) (s : SoundState size u) (t : Stepped u e v) where
  does : Does e.call (window_of u) t.left
  does = meets-does e.call u t.list t.left t.meets s.fit s.sound

  proper : Proper (window_of u)
  proper = proper-decode u.header u.memory s.sound.sound

  leaves : window_of v ≡ (window_step (window_of u) e.call).after
  leaves = ap window_of (sym t.state) ∙ does.window

  -- the state is sound where the window is, and the sizes are kept
  pub sound-next : SoundWithPoint (window_step (window_of u) e.call).after → SameSizes (window_of u) (window_step (window_of u) e.call).after → SoundState size v
  sound-next ok same =
      let kept : sizes_of v.header ≡ sizes_of u.header =
      ap sizes_of (sym (header_at v.header v.memory)) ∙ ap (λ (w : Window). sizes_of w.header) leaves ∙ same
      ∙ ap sizes_of (header_at u.header u.memory) in
      let lengths = subst (λ (x : State). SameLengths u.memory x.memory) t.state t.meets.lengths in
      record {
        of_size = ap (λ (x : Sizes). x.size) kept ∙ s.of_size;
        fit = fits-same u.header v.header u.memory v.memory kept lengths ∙ s.fit;
        sound = subst SoundWithPoint (sym leaves) ok;
      }

  -- what the call does to the window, it does to the state
  pub follows-refines : StepFollows (window_of u) e.call → SoundState size v → StepRefines size u e v
  follows-refines f ok =
      let same : size_of (window_of u) ≡ size = ap (λ (h : AdaptiveReceiverPacketWindow). h.window_size) (header_at u.header u.memory) ∙ s.of_size in
      record {
        ok = ok;
        after = ap positions_of leaves ∙ f.after ∙ ap (λ (n : ℕ). (step n (positions_of (window_of u)) e.call).after) same;
        answer =
            ap (λ (n : ℕ). told_of (role_of e.call) (step n (positions_of (window_of u)) e.call).answer) (sym same) ∙ f.answer
            ∙ ap (role_of e.call).told (sym does.answer ∙ t.answer);
        returned = sym t.returned ∙ does.returned ∙ f.returned ∙ ap (λ (n : ℕ). (step n (positions_of (window_of u)) e.call).returned) same;
      }

  -- ---- every call

  pub sound-stays : SoundState size v
  sound-stays = sound-next (sound-call u.header u.memory e.call s.sound) (call-sizes (window_of u) proper e.call)

  pub call-refines : StepRefines size u e v
  call-refines = follows-refines (call-follows (window_of u) proper e.call) sound-stays

-- ---- refusal 7

-- no refusal is 7
refusal-not-7 : (u : State) (c : Call) → is_seven (refused (refusal u c)) ≡ false
refusal-not-7 u c = bool (lengths_fit u) (λ e. rw e (argument-not-7 (known_by u.header) c)) (λ e. rw e)

-- "Another call may give 7, only on an unsound state": where no other refusal comes first, and the state is not sound
pub seven-unsound : (c : Call) (u : State) (l : List ℕ) (r : Left) → Meets c u l r → r.answer ≡ refused 7 → (refusal u c ≡ 0) × (SoundWithPoint (window_of u) → ⊥)
seven-unsound c u l r m e = elim (ℕ_discrete (refusal u c) 0) [
  | yes z ↦ (z, λ ok. never-7 (window_of u) c (sym (m.sound z ok).answer ∙ e))
  | no z ↦ absurd (not-refused-7 (refused (refusal u c)) (refusal-not-7 u c) (sym (m.refuses z).0 ∙ e))
]
