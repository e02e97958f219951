-- The answers in numbers, and the contract of every call for a function in C's calling convention. Definitions only. Assumes nothing.
use Rattle.std.specs.Prelude.{◌≡◌, Bool, List, [], ℕ, leb, length}
use Rattle.window.specs.declared.AdaptiveReceiverPacketWindow.{AdaptiveReceiverPacketWindow}
use Rattle.window.specs.declared.answers.Step.{Step}
use Rattle.window.specs.Memory.{Memory}
use Rattle.window.specs.Lent.{Lent, found_in, left_in}
use Rattle.window.specs.New.{NewAnswer, made, fresh, new_result, new_of}
use Rattle.window.specs.New as window
use Rattle.model.specs.Calls.{Call, Answer, done, new, replaced, absent, found, pair, ended, released, refused}
use Rattle.model.specs.Contract.{State, Meets}
use Rattle.call_base.specs.Answers.{answer_of, state_of}
use Rattle.c_calls.specs.declared.NumberedAnswer.{NumberedAnswer}
use Rattle.c_calls.specs.declared.NumberedStep.{NumberedStep}

abbrev pub numbered : (code first second third fourth : ℕ) → NumberedAnswer
numbered code first second third fourth = record { code = code; first = first; second = second; third = third; fourth = fourth }

-- the numbers of document 01's answers: a code, then what the answer carries, and 0 for what it does not
abbrev pub numbers_of : Answer → NumberedAnswer
numbers_of done = numbered 0 0 0 0 0
numbers_of new = numbered 1 0 0 0 0
numbers_of (replaced v) = numbered 2 v 0 0 0
numbers_of absent = numbered 3 0 0 0 0
numbers_of (found n) = numbered 4 n 0 0 0
numbers_of (pair s v next reads) = numbered 5 s v next reads
numbers_of (ended reads) = numbered 0 0 0 0 reads
numbers_of (released values units) = numbered 6 values units 0 0
numbers_of (refused k) = numbered 7 k 0 0 0

-- a step, and the same in numbers
abbrev pub SameStep : Step → NumberedStep → Type 0
SameStep s r = r ≡ record { window = s.window; answer = numbers_of (answer_of s.answer.answer); count = s.answer.count }

-- a step in numbers, with the memory and the return list that it left: its numbers are those of an answer with which the call meets
-- the contract of every call
pub record NumbersMeet (c : Call) (u : State) (l : List ℕ) (r : NumberedStep) (m : Memory) (l' : List ℕ) : Type 0 where
  pub answer : Answer
  pub numbers : r.answer ≡ numbers_of answer
  pub meets : Meets c u l (record { answer = answer; count = r.count; state = state_of r.window m; list = l' })

-- as a signature says it, without and with a return list
abbrev pub NumbersMeetBy : Call → AdaptiveReceiverPacketWindow → (sequences values pages blocks : Lent) → NumberedStep → Type 0
NumbersMeetBy c w ss vs pages blocks r = NumbersMeet c (state_of w (found_in ss vs pages blocks)) [] r (left_in ss vs pages blocks) []

abbrev pub NumbersMeetInto : (Bool → Call) → AdaptiveReceiverPacketWindow → (sequences values pages blocks returned : Lent) → NumberedStep → Type 0
NumbersMeetInto c w ss vs pages blocks l r =
    NumbersMeet (c (leb 384 (length l.entry))) (state_of w (found_in ss vs pages blocks)) l.entry r (left_in ss vs pages blocks) l.exit

-- ---- new

-- what new answered, in numbers: a refusal comes with a header of zeros
abbrev pub numbers_of_new : NewAnswer → NumberedStep
numbers_of_new (made h) = record { window = h; answer = numbered 0 0 0 0 0; count = 0 }
numbers_of_new (window.refused k) = record { window = fresh 0 0 0; answer = numbered 7 k 0 0 0; count = 0 }

-- what packet_window_new gives: the numbers of the answer that the definition of new gives, with the memory that it leaves
pub record Creates (r : NumberedStep) (m : Memory) (size n demote_at : ℕ) (m' : Memory) : Type 0 where
  pub answer : NewAnswer
  pub numbers : r ≡ numbers_of_new answer
  pub result : new_result answer m' ≡ new_of m size n demote_at

abbrev pub CreatesBy : (size n demote_at : ℕ) → (sequences values pages blocks : Lent) → NumberedStep → Type 0
CreatesBy size n demote_at ss vs pages blocks r = Creates r (found_in ss vs pages blocks) size n demote_at (left_in ss vs pages blocks)
