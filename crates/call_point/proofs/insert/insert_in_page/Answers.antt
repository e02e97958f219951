-- The page's cells are lent as parts of the lists. Assumes nothing.
use Rattle.call_point.proofs.LiveInsertLaws.{insert-lent}
use Rattle.call_point.proofs.insert.insert_in_page.Goals as goal

pub returns : goal.returns
returns c =
    insert-lent c.args.page _ _ _ _ _ _ _ _ _ c.requires.1 c.requires.2 c.insert.auto.sequences c.insert.auto.values c.insert.ensures
