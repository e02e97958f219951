use mathlib.Core.Logic.{inl, inr}
use native.Mathlib.Omega.{arith}
use borrow.Author.Tests.{not-true}
use Rattle.release_visit.proofs.VisitLaws.{visiting-turn, visiting-unsound, visiting-ends, none_found, visit-unsound}
use Rattle.release_visit.proofs.release_retired.Goals as goal
use Rattle.release_visit.proofs.release_retired.Goals.{else-loop-units-test, then-loop-units-test+then-window-eq0}

pub returns-in_default : goal.returns-in_default
returns-in_default c =
    let a = c.args in
    visiting-unsound a.w a.sequences.now a.values.now a.pages.now a.blocks.now a.returned.now a.at a.budget _ _ _ _ _ _ c.loop-units.invariant
    (none_found _ _ _ _ _ _ _ _ _ _ _ _ _ _ c.loop-units.invariant c.loop-units-test.true c.if-window-eq0.false c.in_default.ensures)

pub returns-then-not-visited : goal.returns-then-not-visited
returns-then-not-visited c =
    let a = c.args in
    visiting-unsound a.w a.sequences.now a.values.now a.pages.now a.blocks.now a.returned.now a.at a.budget _ _ _ _ _ _
    (visiting-turn _ _ _ _ _ _ _ _ _ _ _ _ _ _ c.loop-units.invariant c.loop-units-test.true c.if-window-eq0.false _ c.in-Some.ensures _ _ _ _
    c.visit_page-visited.ensures c.requires.window_size_bound.3)
    (visit-unsound _ _ _ _ _ _ _ _ _ _ _ _ _ _ c.loop-units.invariant c.loop-units-test.true c.if-window-eq0.false _ c.in-Some.ensures _ _ _ _
    c.visit_page-visited.ensures c.requires.window_size_bound.3 (not-true _ c.if-not-visited.true))

pub loop-units-preserved : goal.loop-units-preserved
loop-units-preserved c =
    visiting-turn _ _ _ _ _ _ _ _ _ _ _ _ _ _ c.loop-units.invariant c.loop-units-test.true c.if-window-eq0.false _ c.in-Some.ensures _ _ _ _
    c.visit_page-visited.ensures c.requires.window_size_bound.3

pub returns : goal.returns
returns c =
    let a = c.args in
    visiting-ends a.w a.sequences.now a.values.now a.pages.now a.blocks.now a.returned.now a.at a.budget _ _ _ _ _ _ c.loop-units.invariant _ c.settle_retired.ensures
    (elim c.loop-units-test.branch [
      | else-loop-units-test w ↦ inl (omega (arith, w.loop-units-test.false))
      | then-loop-units-test+then-window-eq0 w ↦ inr w.if-window-eq0.true
    ])
