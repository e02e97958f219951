-- The contracts of write_losses and read_losses for functions in C's calling convention. Definitions only. Assumes nothing.
use Rattle.std.specs.Prelude.{◌≡◌, [], ℕ}
use Rattle.window.specs.declared.AdaptiveReceiverPacketWindow.{AdaptiveReceiverPacketWindow}
use Rattle.window.specs.Memory.{Memory}
use Rattle.window.specs.Lent.{Lent, found_in, left_in}
use Rattle.model.specs.Calls.{Answer}
use Rattle.model.specs.Contract.{Left}
use Rattle.model.specs.Reports.{WritesLosses, ReadsLosses}
use Rattle.call_base.specs.Answers.{state_of}
use Rattle.c_calls.specs.declared.NumberedStep.{NumberedStep}
use Rattle.c_calls.specs.Numbers.{numbers_of}

-- a step in numbers, with the memory that it left: its numbers are those of an answer with which it leaves what is asked
pub record InNumbers (Asked : Left → Type 0) (r : NumberedStep) (m : Memory) : Type 0 where
  pub answer : Answer
  pub numbers : r.answer ≡ numbers_of answer
  pub left : Asked (record { answer = answer; count = r.count; state = state_of r.window m; list = [] })

abbrev pub NumbersWriteLossesBy : (first last : ℕ) → AdaptiveReceiverPacketWindow → (sequences values pages blocks words : Lent) → NumberedStep → Type 0
NumbersWriteLossesBy first last w ss vs pages blocks words r =
    InNumbers (λ (left : Left). WritesLosses first last (state_of w (found_in ss vs pages blocks)) words.entry left words.exit) r (left_in ss vs pages blocks)

abbrev pub NumbersReadLossesBy : (first last : ℕ) → AdaptiveReceiverPacketWindow → (sequences values pages blocks words lost : Lent) → NumberedStep → Type 0
NumbersReadLossesBy first last w ss vs pages blocks words lost r =
    InNumbers (λ (left : Left). ReadsLosses first last words.entry (state_of w (found_in ss vs pages blocks)) lost.entry left lost.exit) r (left_in ss vs pages blocks)
