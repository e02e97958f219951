-- The point after remove_range, clear, clear_bounded and release_retired, over plain variables: how each call meets its contract.
-- Assumes nothing.
use Rattle.std.proofs.Common.{◌≡◌, ℕ, Bool, List, sym, refl, ap, ◌∙◌, subst}
use Rattle.window.specs.declared.AdaptiveReceiverPacketWindow.{AdaptiveReceiverPacketWindow}
use Rattle.window.specs.declared.answers.Outcome.{Outcome}
use Rattle.window.specs.declared.answers.Step.{Step}
use Rattle.window.specs.Memory.{Memory, capacity, position}
use Rattle.model.specs.Calls.{Call, remove_range, clear, clear_bounded, release_retired, refused}
use Rattle.model.specs.Table.{range_count_of, argument_refusal}
use Rattle.model.specs.Steps.{set_point, known_by, window_does}
use Rattle.model.specs.Sound.{SoundWithPoint}
use Rattle.model.specs.Contract.{State, window_of, Left}
use Rattle.laws_acknowledge.specs.Increments.{after_range_of}
use Rattle.laws_acknowledge.proofs.WindowLaws.{Works, range-works, clear-works, bounded-works, release-works}
use Rattle.call_base.specs.Answers.{state_of, left_of}
use Rattle.call_base.specs.Promises.{Admitted, Acts}
use Rattle.acknowledge.proofs.ActLaws.{proper, same-sizes, works-acts, still-acts}
use Rattle.call_retire.specs.Finish.{cleared_step, KeepsRange}

-- a visit leaves the point right
pub release-acts : (b : ℕ) (listed : Bool) (u : State) (l : List ℕ) (r : Left) → let c = release_retired b listed in
    Admitted c u l r → argument_refusal (known_by (window_of u).header) c ≡ 0 → Acts c u l r
release-acts b listed u l r a z =
    let c = release_retired b listed in
    still-acts c u l r a z (λ ok. release-works (window_of u) (proper c u l r a z ok) ok b listed z)

-- everything removed: x is the step before the point, r the one with it
module _ (c : Call) (u : State) (l : List ℕ) (x : Step) (m' : Memory) (l' : List ℕ) (r : Step) (e : r ≡ cleared_step x) where
  cleared-acts : let left = left_of x m' l' in Admitted c u l left → argument_refusal (known_by (window_of u).header) c ≡ 0
      → (left.answer ≡ refused 4 → ⊥)
      → (SoundWithPoint (window_of u) → Works (λ n t base point. base) (window_does (window_of u) c).after) → Acts c u l (left_of r m' l')
  cleared-acts a z never works =
      subst (λ (y : Step). Acts c u l (left_of y m' l')) (sym e)
      (works-acts c u l (left_of x m' l') (cleared_step x).window (λ n t base point. base) a z works (λ ok. refl) (λ ok q. absurd (never q)))

pub clear-acts : (listed : Bool) (u : State) (l : List ℕ) (x : Step) (m' : Memory) (l' : List ℕ) (r : Step) → r ≡ cleared_step x → let left = left_of x m' l' in
    Admitted (clear listed) u l left → argument_refusal (known_by (window_of u).header) (clear listed) ≡ 0 → (left.answer ≡ refused 4 → ⊥)
    → Acts (clear listed) u l (left_of r m' l')
clear-acts listed u l x m' l' r e a z never =
    cleared-acts (clear listed) u l x m' l' r e a z never (λ ok. clear-works (window_of u) (proper (clear listed) u l (left_of x m' l') a z ok) ok listed z)

pub bounded-acts : (n : ℕ) (listed : Bool) (u : State) (l : List ℕ) (x : Step) (m' : Memory) (l' : List ℕ) (r : Step) → r ≡ cleared_step x → let left = left_of x m' l' in
    Admitted (clear_bounded n listed) u l left → argument_refusal (known_by (window_of u).header) (clear_bounded n listed) ≡ 0 → (left.answer ≡ refused 4 → ⊥)
    → Acts (clear_bounded n listed) u l (left_of r m' l')
bounded-acts n listed u l x m' l' r e a z never =
    let c = clear_bounded n listed in
    cleared-acts c u l x m' l' r e a z never (λ ok. bounded-works (window_of u) (proper c u l (left_of x m' l') a z ok) ok n listed z)

-- a range removed: x is the step before the point, in a state with the header w
module _ (first last : ℕ) (listed : Bool) (w : AdaptiveReceiverPacketWindow) (m : Memory) (l : List ℕ) (x : Step) (m' : Memory) (l' : List ℕ) where
  abbrev c : Call
  c = remove_range first last listed

  abbrev u : State
  u = state_of w m

  abbrev left : Left
  left = left_of x m' l'

  abbrev ranged : ℕ → AdaptiveReceiverPacketWindow
  ranged size = let h = x.window in set_point h (after_range_of (capacity size) (position size first) (range_count_of first last) h.base h.point)

  pub range-acts : Admitted c u l left → argument_refusal (known_by (window_of u).header) c ≡ 0 → (left.answer ≡ refused 4 → ⊥)
      → (count : ℕ) → count ≡ range_count_of first last → (r : Step) → KeepsRange w.window_size first count x r → Acts c u l (left_of r m' l')
  range-acts a z never count many r k =
      let j = subst (λ (n : ℕ). KeepsRange w.window_size first n x r) many k in
      subst (λ (o : Outcome). Acts c u l (left_of (record { window = r.window; answer = o }) m' l')) (sym k.outcome)
      (works-acts c u l left r.window (λ n t base point. after_range_of (capacity n) (position n first) (range_count_of first last) base point) a z
      (λ ok. range-works (window_of u) (proper c u l left a z ok) ok first last listed z)
      (λ ok. j.window ∙ ap ranged (ap (λ (h : AdaptiveReceiverPacketWindow). h.window_size) (same-sizes c u l left a z ok))) (λ ok e. absurd (never e)))
