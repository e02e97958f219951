-- The contracts of the two calls as a signature says them. Definitions only. Assumes nothing.
use Rattle.std.specs.Prelude.{[], ℕ}
use Rattle.window.specs.declared.AdaptiveReceiverPacketWindow.{AdaptiveReceiverPacketWindow}
use Rattle.window.specs.declared.answers.Step.{Step}
use Rattle.window.specs.Lent.{Lent, found_in, left_in}
use Rattle.model.specs.Reports.{WritesLosses, ReadsLosses}
use Rattle.call_base.specs.Answers.{state_of, left_of}

-- with the header w and these lists
abbrev pub WritesLossesBy : (first last : ℕ) → AdaptiveReceiverPacketWindow → (sequences values pages blocks words : Lent) → Step → Type 0
WritesLossesBy first last w ss vs pages blocks words r =
    WritesLosses first last (state_of w (found_in ss vs pages blocks)) words.entry (left_of r (left_in ss vs pages blocks) []) words.exit

abbrev pub ReadsLossesBy : (first last : ℕ) → AdaptiveReceiverPacketWindow → (sequences values pages blocks words lost : Lent) → Step → Type 0
ReadsLossesBy first last w ss vs pages blocks words lost r =
    ReadsLosses first last words.entry (state_of w (found_in ss vs pages blocks)) lost.entry (left_of r (left_in ss vs pages blocks) []) lost.exit
