-- What is told of a fault: how the message on a line goes on after "is". Definitions only. Assumes nothing.
use Rattle.std.specs.Prelude.{ℕ, List, codes}
use Rattle.line_faults.specs.declared.Fault.{Fault}
use Rattle.line_faults.specs.declared.Fault.TheVariants.{Long, CarriageReturn, Space, Letter, FieldCount, Field, WindowSize, NoWindow}

abbrev pub fault_text : Fault → List ℕ
fault_text Long = codes "no call: longer than any call"
fault_text CarriageReturn = codes "no call: a carriage return in it, lines end in a line feed alone"
fault_text Space = codes "no call: a space in it, fields are parted by one tab"
fault_text Letter = codes "no call: its first part is no letter of a call"
fault_text FieldCount = codes "no call: another number of fields than its letter takes"
fault_text Field = codes "no call: a field is no decimal number up to 4294967295 without leading zeros"
fault_text WindowSize = codes "no call: a window_size above 4096"
fault_text NoWindow = codes "no call yet: an n must be taken first"
