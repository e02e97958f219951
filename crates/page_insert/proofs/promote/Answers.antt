use Rattle.page_insert.proofs.SpreadLaws.{promoted-lists}
use Rattle.page_insert.proofs.promote.Goals as goal

pub returns : goal.returns
returns c =
    record {
      after = λ ok full. promoted-lists _ _ _ _ _ _ _ _ c.requires.2 c.requires.0 c.requires.1 c.copied-s.ensures c.copied-v.ensures c.spread.ensures c.spread-2.ensures ok full;
    }
