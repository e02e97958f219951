use Rattle.std.proofs.Common.{◌∙◌, take, length, length-take-le, arith, rules}
use Rattle.std.proofs.lemmas.List.{length_push}
use Rattle.std.proofs.lemmas.Slice.Zip.{zip_turn, zip_end}
use Rattle.line_text.proofs.PrintLaws.{start, turn, paired_none, pairs_so_far, pairs-more, pairs-all, pair-few, put_then, at-most-20}
use Rattle.line_text.proofs.print.put_pairs.Goals as goal

pub loop-sequence-init : goal.loop-sequence-init
loop-sequence-init c = start _ 42 (pairs_so_far _ _) _ paired_none

pub put_marked-colon-requires : goal.put_marked-colon-requires
put_marked-colon-requires c =
    let z = zip_turn (take c.args.count c.args.sequences.now) (take c.args.count c.args.values.now) c.loop-sequence.yielded c.into_iter-sequence-iterator.result
    c.loop-sequence.sequence-iterator c.next.new.self _ (search rules) (search rules) c.loop-sequence.yielded_by _ c.in-Some.is c.next.ensures.steps in
    omega (arith, length-take-le c.args.count c.args.sequences.now c.requires.0)

pub put_marked-to-requires : goal.put_marked-to-requires
put_marked-to-requires c =
    let z = zip_turn (take c.args.count c.args.sequences.now) (take c.args.count c.args.values.now) c.loop-sequence.yielded c.into_iter-sequence-iterator.result
    c.loop-sequence.sequence-iterator c.next.new.self _ (search rules) (search rules) c.loop-sequence.yielded_by _ c.in-Some.is c.next.ensures.steps in
    omega (arith, length-take-le c.args.count c.args.sequences.now c.requires.0, at-most-20 c.from.result)

pub loop-sequence-preserved : goal.loop-sequence-preserved
loop-sequence-preserved c =
    let z = zip_turn (take c.args.count c.args.sequences.now) (take c.args.count c.args.values.now) c.loop-sequence.yielded c.into_iter-sequence-iterator.result
    c.loop-sequence.sequence-iterator c.next.new.self _ (search rules) (search rules) c.loop-sequence.yielded_by _ c.in-Some.is c.next.ensures.steps in
    let s = c.put_marked-colon in
    let v = c.put_marked-to in
    rw (length_push c.loop-sequence.yielded (c.in-Some.sequence, c.in-Some.value))
    (turn _ 42 (pairs_so_far _ _) _ _ _ _ _ _ _ c.loop-sequence.invariant (pairs-more _ _ _ z.0 z.1) (pair-few 9 _ 58 _)
    (put_then _ _ _ _ _ _ _ _ (rw (c.from.ensures ∙ z.2 0) at s.ensures) (rw (c.from-in-loop-sequence.ensures ∙ z.3 0) at v.ensures)) (v.auto.out ∙ s.auto.out))

pub returns : goal.returns
returns c =
    let z = zip_end (take c.args.count c.args.sequences.now) (take c.args.count c.args.values.now) c.loop-sequence.yielded c.into_iter-sequence-iterator.result
    c.loop-sequence.sequence-iterator c.next.new.self _ (search rules) (search rules) c.loop-sequence.yielded_by c.in-None.is c.next.ensures.steps in
    let a = length-take-le c.args.count c.args.sequences.now c.requires.0 in
    let b = length-take-le c.args.count c.args.values.now c.requires.1 in
    rw (pairs-all (take c.args.count c.args.sequences.now) (take c.args.count c.args.values.now) (length c.loop-sequence.yielded) (omega arith) (omega arith)) at c.loop-sequence.invariant.puts
