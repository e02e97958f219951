-- The point stays, or is looked for where the definition says. Assumes nothing.
use Rattle.std.proofs.Common.{ℕ, sym, ap, ◌∙◌, arith}
use Rattle.window.specs.declared.AdaptiveReceiverPacketWindow.{AdaptiveReceiverPacketWindow}
use Rattle.window.specs.Memory.{memory}
use Rattle.model.specs.Table.{sequence_at_of}
use Rattle.model.specs.Window.{decode, live_at}
use Rattle.laws_acknowledge.specs.Advance.{advance}
use Rattle.acknowledge.specs.Promises.{with_sizes_of}
use Rattle.acknowledge.proofs.LentLaws.{sized-lent, sized-point}
use Rattle.acknowledge.proofs.PointLaws.{set-kept, set-from, advance-from-le}
use Rattle.acknowledge.proofs.moved_point.Goals as goal

pub returns-then-point_stays : goal.returns-then-point_stays
returns-then-point_stays c =
    record {
      is = λ vs ok.
          set-kept c.args.w.window_size ((live_at (decode (with_sizes_of c.args.v c.args.w) (memory c.args.sequences.now vs c.args.pages.now c.args.blocks.now)))) c.args.v.base c.args.v.point c.args.base _ _ c.distance-d.ensures c.distance-reach.ensures
          (sym c.point_stays.ensures ∙ c.if-point_stays.true);
    }

pub point_from-requires : goal.point_from-requires
point_from-requires c = (
  sized-lent c.args.v c.args.w _ c.args.sequences.now c.args.pages.now c.args.blocks.now c.with_sizes.ensures c.requires,
  omega (
    arith,
    c.advance_from-from.ensures,
    advance-from-le c.args.w.window_size c.distance-reach.result c.distance-d.result,
    ap (λ (h : AdaptiveReceiverPacketWindow). h.window_size) c.with_sizes.ensures,
  ),
)

pub returns : goal.returns
returns c =
    record {
      is = λ vs ok. (sized-point c.args.v c.args.w _ _ _ _ _ _ _ c.with_sizes.ensures c.point_from.ensures).is vs ok
          ∙ ap (λ (n : ℕ). sequence_at_of c.args.base (advance c.args.w.window_size ((live_at (decode (with_sizes_of c.args.v c.args.w) (memory c.args.sequences.now vs c.args.pages.now c.args.blocks.now)))) c.args.base n)) c.advance_from-from.ensures
          ∙ set-from c.args.w.window_size ((live_at (decode (with_sizes_of c.args.v c.args.w) (memory c.args.sequences.now vs c.args.pages.now c.args.blocks.now)))) c.args.v.base c.args.v.point c.args.base _ _ c.distance-d.ensures c.distance-reach.ensures
          (sym c.point_stays.ensures ∙ c.if-point_stays.false);
    }
