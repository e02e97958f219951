-- The two tests give the ends of the span (from_is, to_is), and its bits are the definition's (span-within). Assumes nothing.
use Rattle.std.proofs.Common.{◌≡◌, ◌∙◌, ◌-◌, ◌*◌, arith}
use Prim.Native.Nat.{min}
use Rattle.words.specs.Word.{span}
use Rattle.block_search.proofs.SelectLaws.{span-within}
use Rattle.block_search.proofs.bits_within.Goals as goal
use Rattle.block_search.proofs.bits_within.Goals.{then-word-start, else-word-start, then-word-end, else-word-end}

pub returns : goal.returns
returns c =
    let p = c.requires in
    let from_is : c.if-word-start.from ≡ c.args.start - 64 * c.args.word =
    elim c.if-word-start.branch [ then-word-start w ↦ omega arith | else-word-start w ↦ omega arith ] in
    let to_is : c.if-word-end.to ≡ min 64 (c.args.end - 64 * c.args.word) =
    elim c.if-word-end.branch [ then-word-end w ↦ omega arith | else-word-end w ↦ omega arith ] in
    c.span.ensures ∙ (λ i. span (from_is i) (to_is i)) ∙ span-within _ _ _ p.0 p.1 p.2
