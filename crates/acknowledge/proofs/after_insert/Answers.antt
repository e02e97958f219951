-- Only at the point, and below window_size, is a sequence looked for. Assumes nothing.
use Rattle.std.proofs.Common.{sym, refl, ap, ◌∙◌, arith}
use Rattle.window.specs.declared.AdaptiveReceiverPacketWindow.{AdaptiveReceiverPacketWindow}
use Rattle.window.specs.Memory.{memory}
use Rattle.model.specs.Window.{decode, live_at}
use Rattle.model.specs.Steps.{set_point}
use Rattle.acknowledge.specs.Promises.{with_sizes_of}
use Rattle.acknowledge.proofs.LentLaws.{sized-lent, sized-point}
use Rattle.acknowledge.proofs.PointLaws.{insert-other, insert-full, insert-on}
use Rattle.acknowledge.proofs.after_insert.Goals as goal

pub returns-then-sequence-v : goal.returns-then-sequence-v
returns-then-sequence-v c =
    record {
      header = refl;
      point = λ vs ok. insert-other c.args.w.window_size ((live_at (decode (with_sizes_of c.args.v c.args.w) (memory c.args.sequences.now vs c.args.pages.now c.args.blocks.now)))) c.args.v.base c.args.v.point c.args.sequence _ refl c.if-sequence-v.true;
    }

pub returns-then-w-reach : goal.returns-then-w-reach
returns-then-w-reach c =
    record {
      header = refl;
      point = λ vs ok. insert-full c.args.w.window_size ((live_at (decode (with_sizes_of c.args.v c.args.w) (memory c.args.sequences.now vs c.args.pages.now c.args.blocks.now)))) c.args.v.base c.args.v.point c.args.sequence _ c.distance-reach.ensures c.if-w-reach.true;
    }

pub point_from-requires : goal.point_from-requires
point_from-requires c = (
  sized-lent c.args.v c.args.w _ c.args.sequences.now c.args.pages.now c.args.blocks.now c.with_sizes-sized.ensures c.requires,
  omega (arith, c.if-w-reach.false, ap (λ (h : AdaptiveReceiverPacketWindow). h.window_size) c.with_sizes-sized.ensures),
)

pub returns : goal.returns
returns c =
    let point = ap (λ (h : AdaptiveReceiverPacketWindow). h.point) c.with_point.ensures in
    record {
      header = c.with_point.ensures ∙ ap (set_point c.args.v) (sym point);
      point = λ vs ok. point ∙ (sized-point c.args.v c.args.w _ _ _ _ _ _ _ c.with_sizes-sized.ensures c.point_from.ensures).is vs ok
          ∙ insert-on c.args.w.window_size ((live_at (decode (with_sizes_of c.args.v c.args.w) (memory c.args.sequences.now vs c.args.pages.now c.args.blocks.now)))) c.args.v.base c.args.v.point c.args.sequence _ c.distance-reach.ensures c.if-sequence-v.false c.if-w-reach.false;
    }
