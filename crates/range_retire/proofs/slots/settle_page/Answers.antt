use Rattle.std.proofs.Common.{◌≡◌, ap, ◌∙◌, List, ℕ, length}
use Rattle.page_base.specs.Page.{page}
use Rattle.page_base.proofs.PartLaws.{part_length}
use Rattle.page_base.proofs.LentPartLaws.{lent, back, lent_both}
use Rattle.page_remove.specs.Remove.{settled_of, settle_page_of}
use Rattle.range_retire.proofs.slots.settle_page.Goals as goal

pub returns : goal.returns
returns c =
    let x = c.settle in
    let g = c.args.page in
    let ss = c.args.sequences.now in
    let vs = c.args.values.now in
    let xs = x.new.sequences in
    let ys = x.new.values in
    record {
      first = xs;
      second = ys;
      full = x.auto.sequences ∙ ap length (lent g ss) ∙ part_length g ss c.requires.1;
      filled = x.auto.values ∙ ap length (lent g vs) ∙ part_length g vs c.requires.2;
      sequences_are = back g ss xs;
      values_are = back g vs ys;
      settled = lent_both g ss vs (λ (q l : List ℕ). settled_of x.result xs ys ≡ settle_page_of c.args.demote_at (page c.args.words q l)) x.ensures;
    }
