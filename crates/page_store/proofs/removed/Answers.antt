-- Live values, the page noted by what is left in it, and the demotion counted, one after another (remove-gives). Assumes nothing.
use mathlib.Core.Path.{refl, sym, ◌∙◌}
use mathlib.Core.Bool.{true≢false}
use native.Mathlib.Omega.{arith}
use Rattle.page_store.proofs.ComposeLaws.{Room, remove-gives}
use Rattle.page_store.proofs.removed.Goals as goal

pub returns-then-left : goal.returns-then-left
returns-then-left c =
    let room : Room c.args.w = record { single = omega arith; range = omega arith } in
    let s = c.args in
    remove-gives s.w s.b s.page s.left s.cause _ _ _ _ c.sub_live-fewer.ensures c.note_page-noted.ensures
    (record { when = λ q. c.count_demotion.ensures; unless = λ q. absurd (true≢false (sym c.if-left.true ∙ q)) }) refl (room)

pub returns : goal.returns
returns c =
    let room : Room c.args.w = record { single = omega arith; range = omega arith } in
    let s = c.args in
    remove-gives s.w s.b s.page s.left s.cause _ _ _ _ c.sub_live-fewer.ensures c.note_page-noted.ensures
    (record { when = λ q. absurd (true≢false (sym q ∙ c.if-left.false)); unless = λ q. refl }) refl (room)
