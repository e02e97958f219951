-- What `admits` tests: refusal 6, then the arguments in their classes. Definitions only. Assumes nothing.
use Rattle.std.specs.Prelude.{ℕ}
use Rattle.window.specs.declared.AdaptiveReceiverPacketWindow.{AdaptiveReceiverPacketWindow}
use Rattle.window.specs.Refusals.{fits_with_list_of}
use Rattle.model.specs.Roles as model
use Rattle.model.specs.Table.{first, refused_for_of}
use Rattle.model.specs.Steps.{known_by}
use Rattle.call_base.specs.declared.admits.Arguments.{Arguments}
use Rattle.call_base.specs.declared.admits.Arguments.TheVariants.{Nothing, Sequence, Range, Number, Base}

-- the arguments as the order of refusals has them
abbrev pub arguments_of : Arguments → model.Arguments
arguments_of Nothing = model.no_argument
arguments_of (Sequence s) = model.sequence_argument s
arguments_of (Range a b) = model.range_argument a b
arguments_of (Number n) = model.number_argument n
arguments_of (Base s) = model.base_argument s

-- the refusal of a call with lists of these lengths and these arguments; 0 for none
abbrev pub admission : AdaptiveReceiverPacketWindow → (sequences values pages blocks returned : ℕ) → model.Arguments → ℕ
admission w s v p b l a = first 6 (fits_with_list_of w s v p b l) (refused_for_of (known_by w) a)
