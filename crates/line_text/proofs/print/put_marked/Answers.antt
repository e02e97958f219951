-- The byte, then the digits. Assumes nothing.
use Rattle.line_text.proofs.PrintLaws.{put_then}
use Rattle.line_text.proofs.print.put_marked.Goals as goal

pub returns : goal.returns
returns c = put_then _ _ _ _ _ _ _ _ c.put_byte-to.ensures c.put_number.ensures
