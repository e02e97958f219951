use mathlib.Core.Path.{refl, sym, ◌∙◌}
use mathlib.Core.Bool.{true≢false}
use Prim.Native.Nat.{◌^◌, ◌<◌}
use native.Mathlib.Omega.{arith}
use Rattle.page_store.proofs.ComposeLaws.{insert-gives}
use Rattle.page_store.proofs.inserted.Goals as goal

pub returns-then-promoted : goal.returns-then-promoted
returns-then-promoted c =
    let room : c.args.w.promotions < 2 ^ 64 = omega arith in
    let s = c.args in
    insert-gives s.w s.b s.page _ _ _ _ c.note_page-noted.ensures
    (record { when = λ q. c.count_promotion.ensures; unless = λ q. absurd (true≢false (sym c.if-promoted.true ∙ q)) }) (room) c.add_live.ensures

pub returns : goal.returns
returns c =
    let room : c.args.w.promotions < 2 ^ 64 = omega arith in
    let s = c.args in
    insert-gives s.w s.b s.page _ _ _ _ c.note_page-noted.ensures
    (record { when = λ q. absurd (true≢false (sym q ∙ c.if-promoted.false)); unless = λ q. refl }) (room) c.add_live-2.ensures
