-- The contract of every call for a function to which the header is lent. Definitions only. Assumes nothing.
use Rattle.std.specs.Prelude.{Bool, List, [], ℕ, leb, length}
use Rattle.std.specs.Borrow.{MutBor}
use denote.Triple.Both.{Both}
use Rattle.window.specs.declared.AdaptiveReceiverPacketWindow.{AdaptiveReceiverPacketWindow}
use Rattle.window.specs.declared.answers.Outcome.{Outcome}
use Rattle.window.specs.Memory.{Memory}
use Rattle.window.specs.Lent.{Lent, found_in, left_in}
use Rattle.model.specs.Calls.{Call}
use Rattle.model.specs.Contract.{Left, Meets}
use Rattle.call_base.specs.Answers.{state_of, left_of}

-- the lent header, as a function finds it and as it leaves it
abbrev pub LentHeader : Type 0
LentHeader = Both (MutBor AdaptiveReceiverPacketWindow) (MutBor AdaptiveReceiverPacketWindow)

-- the header at the end of the call, its outcome, the memory and the return list
abbrev pub left_at : AdaptiveReceiverPacketWindow → Outcome → Memory → List ℕ → Left
left_at w r m l = left_of (record { window = w; answer = r }) m l

-- as a signature says it, without and with a return list
abbrev pub HostMeetsBy : Call → LentHeader → (sequences values pages blocks : Lent) → Outcome → Type 0
HostMeetsBy c w ss vs pages blocks r = Meets c (state_of w.entry.now (found_in ss vs pages blocks)) [] (left_at w.exit.now r (left_in ss vs pages blocks) [])

abbrev pub HostMeetsInto : (Bool → Call) → LentHeader → (sequences values pages blocks returned : Lent) → Outcome → Type 0
HostMeetsInto c w ss vs pages blocks l r =
    Meets (c (leb 384 (length l.entry))) (state_of w.entry.now (found_in ss vs pages blocks)) l.entry
    (left_at w.exit.now r (left_in ss vs pages blocks) l.exit)
