use Rattle.std.proofs.Common.{sym, ◌∙◌, eqb-true}
use borrow.Author.Tests.{eqb-false}
use Rattle.window.specs.Memory.{memory}
use Rattle.window.proofs.RefusalLaws.{wire-yes}
use Rattle.model.specs.Window.{decode, live_at}
use Rattle.laws_acknowledge.proofs.AdvanceLaws.{point-advance}
use Rattle.acknowledge.proofs.is_current.Goals as goal

pub returns : goal.returns
returns c =
    let s = c.args in
    let low = wire-yes s.w.base _ c.is_wire_number.ensures c.if-not-is_wire_number.false in
    record {
      is = λ vs ok.
          let e = c.point_from.ensures.is vs ok ∙ sym (point-advance s.w.window_size (live_at (decode s.w (memory s.sequences.now vs s.pages.now s.blocks.now))) s.w.base) in
          record { holds = λ q. (low, eqb-true _ _ q ∙ e); fails = λ q a. eqb-false _ _ q (a.1 ∙ sym e) };
    }
