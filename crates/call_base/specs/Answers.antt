-- The answers of the calls in document 01's numbers and values, and what a call finds and leaves as the contract reads it.
-- Definitions only. Assumes nothing.
use Rattle.std.specs.Prelude.{ℕ, Bool, List, [], length, nat_le, Result, Ok, Err}
use Rattle.window.specs.declared.AdaptiveReceiverPacketWindow.{AdaptiveReceiverPacketWindow}
use Rattle.window.specs.declared.refusals.Refusal.{Refusal}
use Rattle.window.specs.declared.answers.Answer.{Answer}
use Rattle.window.specs.declared.answers.Answer.TheVariants.{Done, New, Replaced, Absent, Found, Pair, Ended, Released}
use Rattle.window.specs.declared.answers.Step.{Step}
use Rattle.window.specs.Memory.{Memory}
use Rattle.window.specs.Lent.{Lent, found_in, left_in}
use Rattle.window.specs.Refusals.{refusal_number_of}
use Rattle.model.specs.Calls as model
use Rattle.model.specs.Contract.{State, Left, Meets}

-- document 01's answer for each answer of a call that is not refused
abbrev pub given_of : Answer → model.Answer
given_of Done = model.done
given_of New = model.new
given_of (Replaced v) = model.replaced v
given_of Absent = model.absent
given_of (Found n) = model.found n
given_of (Pair s v next reads) = model.pair s v next reads
given_of (Ended reads) = model.ended reads
given_of (Released values units) = model.released values units

-- and for every call; a refusal has its number there
abbrev pub answer_of : Result Answer Refusal → model.Answer
answer_of (Ok a) = given_of a
answer_of (Err why) = model.refused (refusal_number_of why)

-- the number of a refusal, 0 for any other answer
abbrev pub number_of : model.Answer → ℕ
number_of model.done = 0
number_of model.new = 0
number_of (model.replaced v) = 0
number_of model.absent = 0
number_of (model.found n) = 0
number_of (model.pair s v next reads) = 0
number_of (model.ended reads) = 0
number_of (model.released values units) = 0
number_of (model.refused k) = k

-- an answer with the header as it is and nothing returned
abbrev pub replied : AdaptiveReceiverPacketWindow → Result Answer Refusal → Step
replied w a = record { window = w; answer = record { answer = a; count = 0 } }

abbrev pub refused_by : AdaptiveReceiverPacketWindow → Refusal → Step
refused_by w why = replied w (Err why)

-- ---- as the contract of every call reads it

abbrev pub state_of : AdaptiveReceiverPacketWindow → Memory → State
state_of w m = record { header = w; memory = m }

-- what a call left: its step, the memory and the return list
abbrev pub left_of : Step → Memory → List ℕ → Left
left_of r m l = record { answer = answer_of r.answer.answer; count = r.answer.count; state = state_of r.window m; list = l }

-- ---- as a signature says it

-- a call c with the header w and these lists, and its step: it meets the contract of every call
abbrev pub MeetsBy : model.Call → AdaptiveReceiverPacketWindow → (sequences values pages blocks : Lent) → Step → Type 0
MeetsBy c w ss vs pages blocks r = Meets c (state_of w (found_in ss vs pages blocks)) [] (left_of r (left_in ss vs pages blocks) [])

-- the same with a return list, of which c is told whether it has 384 places
abbrev pub MeetsInto : (Bool → model.Call) → AdaptiveReceiverPacketWindow → (sequences values pages blocks returned : Lent) → Step → Type 0
MeetsInto c w ss vs pages blocks l r =
    Meets (c (nat_le 384 (length l.entry))) (state_of w (found_in ss vs pages blocks)) l.entry (left_of r (left_in ss vs pages blocks) l.exit)
