-- What a reading call is lent, as the contract of every call reads it. Definitions only. Assumes nothing.
use Rattle.window.specs.Memory.{memory}
use Rattle.model.specs.Contract.{State}
use Rattle.call_base.specs.declared.reading.WindowRef.{WindowRef}
use Rattle.call_base.specs.Answers.{state_of}

-- the header, and its lists as one memory
abbrev pub state_in : WindowRef → State
state_in r = state_of r.header (memory r.sequences.now r.values.now r.pages.now r.blocks.now)
