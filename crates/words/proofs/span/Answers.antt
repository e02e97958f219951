-- As many set bits as the span has, shifted to its start (span-code). Assumes nothing.
use Rattle.words.proofs.SpanLaws.{span-code}
use Rattle.words.proofs.span.Goals as goal

pub returns : goal.returns
returns c = span-code _ _ c.requires.0 c.requires.1
