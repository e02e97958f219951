-- The words are written if the value is new. Assumes nothing.
use mathlib.Core.Bool.{true, false}
use borrow.Author.Rules.{rules}
use Rattle.call_point.proofs.KeepLaws.{new-keeps}
use Rattle.call_point.proofs.insert.keep.Goals as goal

pub returns-in-Ok-New : goal.returns-in-Ok-New
returns-in-Ok-New c =
    new-keeps c.args.w c.args.pages.now c.args.blocks.now c.args.page c.args.r false _ _ _ (search rules) (search rules) c.store_inserted.ensures

pub returns-in-Ok-Promoted : goal.returns-in-Ok-Promoted
returns-in-Ok-Promoted c =
    new-keeps c.args.w c.args.pages.now c.args.blocks.now c.args.page c.args.r true _ _ _ (search rules) (search rules) c.store_inserted-in-Ok-Promoted.ensures
