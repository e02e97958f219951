use Rattle.page_base.proofs.LentPartLaws.{lent}
use Rattle.page_base.proofs.page_cells.Goals as goal

pub returns : goal.returns
returns c = lent _ _
