-- The page's cells are lent as parts of the lists. Assumes nothing.
use mathlib.Core.Path.{ap, ◌∙◌}
use lib.ListN.{length}
use Rattle.page_base.proofs.PartLaws.{part_length}
use Rattle.call_point.proofs.ExchangeLaws.{exchange-lent}
use borrow.Author.Rules.{rules}
use Rattle.call_point.proofs.exchange.exchange_in_page.Goals as goal

pub exchange-requires : goal.exchange-requires
exchange-requires c =
    (ap length c.page_cells-cells.ensures ∙ part_length c.args.page c.args.sequences.now c.requires.1, search rules, search rules)

pub returns : goal.returns
returns c =
    exchange-lent c.args.page _ _ _ _ _ _ _ _ _ c.requires.2 c.page_cells-cells.ensures c.exchange.auto.values c.exchange.ensures
