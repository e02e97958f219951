-- While the loop runs, the digits left give what the whole field gives. Assumes nothing.
use Rattle.std.proofs.Common.{◌≡◌, ◌≤◌, drop}
use Rattle.line_text.specs.Fields.{field_of}
use Rattle.line_text.proofs.FieldLaws.{rest_of}
use Rattle.line_text.proofs.field.Given as goal

abbrev pub invariant-loop-b : goal.invariant-loop-b
invariant-loop-b l = (l.number ≤ 4294967295) × (rest_of l.number (drop l.b-index l.bytes) ≡ field_of l.bytes)
