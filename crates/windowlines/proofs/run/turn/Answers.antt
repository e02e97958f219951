-- A turn keeps what a run keeps, and is its steps one after another. Assumes nothing.
use Rattle.std.proofs.Common.{◌≡◌, length, true≢false, refl, sym, ◌∙◌, arith, rules}
use Rattle.windowlines.proofs.RunLaws.{refilled, written}
use Rattle.window.specs.Memory.{memory}
use Rattle.windowlines.proofs.run.turn.Goals as goal

pub returns-then-run : goal.returns-then-run
returns-then-run c =
    let t = c.refill-run.ensures in
    record {
      going = refilled c.args.r _ _ _ _ c.requires t;
      turned = record {
        filled = c.refill-run.result;
        refilled = t;
        rests = λ e. refl;
        line_stays = λ e. refl;
        memory_stays = λ e. refl;
        answers = λ e. absurd (true≢false (sym c.if-run.true ∙ e));
      };
    }

pub take_part-program-requires : goal.take_part-program-requires
take_part-program-requires c =
    let g = refilled c.args.r _ _ _ (memory c.args.sequences.now c.args.values.now c.args.pages.now c.args.blocks.now) c.requires c.refill-run.ensures in
    let places : length c.refill-run.new.input ≡ 65536 = search rules in
    record { kept_in = g.kept; n_in_bounds = omega (arith, g.few); from_le_n = g.from_le }

pub returns : goal.returns
returns c =
    let f = c.refill-run in
    let going = c.if-run.false in
    let p = c.take_part-program in
    let w = c.put_out.ensures in
    let g = refilled c.args.r _ _ _ (memory c.args.sequences.now c.args.values.now c.args.pages.now c.args.blocks.now) c.requires f.ensures in
    record {
      going = written _ _ p.result _ _ _ g p.ensures.stops p.ensures.kept w;
      turned = record {
        filled = f.result;
        refilled = f.ensures;
        rests = λ e. absurd (true≢false (sym e ∙ going));
        line_stays = λ e. absurd (true≢false (sym e ∙ going));
        memory_stays = λ e. absurd (true≢false (sym e ∙ going));
        answers = λ e. (p.result, record { takes = p.ensures.takes_by; stops = p.ensures.stops; written = w });
      };
    }
