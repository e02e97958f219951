-- The bytes up to the next line feed, with the answer of the line that ends there; or the rest of the part. Assumes nothing.
use Rattle.std.proofs.Common.{refl, arith}
use Rattle.line_program.proofs.InputLaws.{part-ended, line-ended}
use Rattle.call_base.specs.Answers.{state_of}
use Rattle.window.specs.Memory.{memory}
use Rattle.line_program.proofs.take_line.Goals as goal

pub returns-then-to-part : goal.returns-then-to-part
returns-then-to-part c =
    let t = c.next_byte-to in
    let a = c.append-length in
    let u = state_of c.args.p.window (memory c.args.sequences.now c.args.values.now c.args.pages.now c.args.blocks.now) in
    record {
      from_lt_from = (omega (arith, c.if-to-part.true, c.requires.from_in_bounds), t.ensures.le_length);
      takes_by = λ b h. part-ended u _ _ _ t.ensures _ _ _ _ a.ensures a.auto.line b h c.requires.kept_in _ _ refl refl;
      kept = c.requires.kept_in;
    }

pub returns : goal.returns
returns c =
    let t = c.next_byte-to in
    let a = c.append-length in
    let e = c.end_line.ensures in
    let u = state_of c.args.p.window (memory c.args.sequences.now c.args.values.now c.args.pages.now c.args.blocks.now) in
    record {
      from_lt_from = (omega (arith, t.ensures.from_le, e.0), omega (arith, t.ensures.le_length, c.if-to-part.false, e.0));
      takes_by = λ b h. line-ended u _ _ _ t.ensures _ _ _ _ a.ensures a.auto.line b h (omega (arith, t.ensures.le_length, c.if-to-part.false)) c.args.p _ _ _ _ e.1 e.0;
      kept = e.1.answers.kept;
    }
