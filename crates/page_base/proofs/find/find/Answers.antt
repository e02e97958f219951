use Rattle.std.proofs.Common.{sym, ◌∙◌}
use Rattle.page_base.proofs.PartLaws.{cell_in}
use Rattle.page_base.proofs.FindLaws.{held, held_other, held_none}
use Rattle.page_base.proofs.find.find.Goals as goal

pub returns-in_err-c : goal.returns-in_err-c
returns-in_err-c c = rw c.from_residual.ensures (record { bounded = tt; cell = λ vs ok. held_none _ _ (c.in_err-c.ensures.cell vs ok) })

pub returns-then-sequences-c : goal.returns-then-sequences-c
returns-then-sequences-c c =
    let l = c.in_ok-c.ensures.bounded in
    record { bounded = l; cell = λ vs ok. held _ _ _ (c.in_ok-c.ensures.cell vs ok) l (cell_in _ _ l ∙ c.if-sequences-c.true) }

pub returns : goal.returns
returns c =
    let l = c.in_ok-c.ensures.bounded in
    record {
      bounded = tt;
      cell = λ vs ok. held_other _ _ _ (c.in_ok-c.ensures.cell vs ok) l (λ q. c.if-sequences-c.false (sym (cell_in _ _ l) ∙ q));
    }
