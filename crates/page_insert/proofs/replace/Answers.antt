use mathlib.Core.Path.{refl, sym, ap, ◌∙◌}
use mathlib.Core.Bool.{false}
use Prim.Native.Nat.{ℕ}
use lib.ListN.{set}
use Rattle.model.specs.Calls.{replaced}
use Rattle.model.specs.Pages.{inserted}
use Rattle.page_base.specs.Page.{page}
use Rattle.page_base.proofs.PartLaws.{cell_in, page-set-value}
use Rattle.page_insert.proofs.CaseLaws.{over-same, over-other}
use Rattle.page_insert.proofs.replace.Goals as goal

pub returns-then-sequences-c : goal.returns-then-sequences-c
returns-then-sequences-c c =
    record {
      refuses = tt;
      gives = ap (λ (x : ℕ). inserted (page c.args.w c.args.sequences.now (set c.args.values.now c.args.c c.args.value)) (replaced x) false) (sym (cell_in c.args.values.now c.args.c c.requires.2))
          ∙ over-same _ _ _ _ _ (cell_in _ _ c.requires.2 ∙ c.if-sequences-c.true) (page-set-value _ _ _ _ _ c.requires.1 c.requires.2);
    }

pub returns : goal.returns
returns c = record { refuses = refl; gives = over-other _ _ _ _ (λ q. c.if-sequences-c.false (sym (cell_in _ _ c.requires.2) ∙ q)) }
