-- The outcome of a call that filled its list, and the point after it. Definitions only. Assumes nothing.
use Rattle.std.specs.Prelude.{◌≡◌, ℕ, Bool, cond, Result, Err}
use Rattle.window.specs.declared.AdaptiveReceiverPacketWindow.{AdaptiveReceiverPacketWindow}
use Rattle.window.specs.declared.answers.Answer.{Answer}
use Rattle.window.specs.declared.answers.Step.{Step}
use Rattle.window.specs.declared.refusals.Refusal.{Refusal}
use Rattle.window.specs.declared.refusals.Refusal.TheVariants.{Unsound}
use Rattle.window.specs.Memory.{capacity, position}
use Rattle.model.specs.Steps.{set_point}
use Rattle.laws_acknowledge.specs.Increments.{after_range_of}

-- the answer or refusal, or refusal 7, with `count` values returned
unfoldable pub finished : AdaptiveReceiverPacketWindow → Result Answer Refusal → ℕ → Bool → Step
finished w a count sound = record { window = w; answer = record { answer = cond sound a (Err Unsound); count = count } }

-- ---- the point

-- after every value was removed it is the base
abbrev pub cleared_step : Step → Step
cleared_step x = record { window = set_point x.window x.window.base; answer = x.answer }

-- r is the step x of a removal of `count` positions from first's in a window of this size, with the point after it
pub record KeepsRange (size first count : ℕ) (x r : Step) : Type 0 where
  pub outcome : r.answer ≡ x.answer
  pub window : let h = x.window in r.window ≡ set_point h (after_range_of (capacity size) (position size first) count h.base h.point)
