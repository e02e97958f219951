-- The page's cells are lent as parts of the lists. Assumes nothing.
use Rattle.call_point.proofs.RemoveLaws.{remove-lent}
use Rattle.call_point.proofs.remove.remove_in_page.Goals as goal

pub returns : goal.returns
returns c =
    remove-lent c.args.page _ _ _ _ _ _ _ _ _ c.requires.1 c.requires.2 c.remove.auto.sequences c.remove.auto.values c.remove.ensures
