-- An outcome in numbers, and the contract of every call for a function in C's calling convention to which the header is lent.
-- Definitions only. Assumes nothing.
use Rattle.std.specs.Prelude.{◌≡◌, Bool, List, [], ℕ, leb, length}
use Rattle.window.specs.declared.AdaptiveReceiverPacketWindow.{AdaptiveReceiverPacketWindow}
use Rattle.window.specs.declared.answers.Outcome.{Outcome}
use Rattle.window.specs.Memory.{Memory}
use Rattle.window.specs.Lent.{Lent, found_in, left_in}
use Rattle.model.specs.Calls.{Call, Answer}
use Rattle.model.specs.Contract.{State, Meets}
use Rattle.call_base.specs.Answers.{answer_of, state_of}
use Rattle.call_host.specs.Lent.{LentHeader}
use Rattle.c_calls.specs.Numbers.{numbers_of}
use Rattle.c_host.specs.declared.NumberedOutcome.{NumberedOutcome}

-- an outcome, and the same in numbers
abbrev pub SameOutcome : Outcome → NumberedOutcome → Type 0
SameOutcome o r = r ≡ record { answer = numbers_of (answer_of o.answer); count = o.count }

-- an outcome in numbers, with the header, the memory and the return list that it left: its numbers are those of an answer with which
-- the call meets the contract of every call
pub record OutcomeMeets (c : Call) (u : State) (l : List ℕ) (w : AdaptiveReceiverPacketWindow) (r : NumberedOutcome) (m : Memory) (l' : List ℕ) : Type 0 where
  pub answer : Answer
  pub numbers : r.answer ≡ numbers_of answer
  pub meets : Meets c u l (record { answer = answer; count = r.count; state = state_of w m; list = l' })

-- as a signature says it, without and with a return list
abbrev pub OutcomeMeetsBy : Call → LentHeader → (sequences values pages blocks : Lent) → NumberedOutcome → Type 0
OutcomeMeetsBy c w ss vs pages blocks r = OutcomeMeets c (state_of w.entry.now (found_in ss vs pages blocks)) [] w.exit.now r (left_in ss vs pages blocks) []

abbrev pub OutcomeMeetsInto : (Bool → Call) → LentHeader → (sequences values pages blocks returned : Lent) → NumberedOutcome → Type 0
OutcomeMeetsInto c w ss vs pages blocks l r =
    OutcomeMeets (c (leb 384 (length l.entry))) (state_of w.entry.now (found_in ss vs pages blocks)) l.entry
    w.exit.now r (left_in ss vs pages blocks) l.exit
