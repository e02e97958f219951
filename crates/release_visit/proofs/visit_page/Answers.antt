-- What release_page left, and the cursor that next_cursor gave (visit-gives). Assumes nothing.
use native.Mathlib.Omega.{arith}
use Rattle.window.proofs.MemoryLaws.{capacity-pages, page-count-le}
use Rattle.release_visit.proofs.VisitLaws.{visit-gives}
use Rattle.release_visit.proofs.visit_page.Goals as goal

pub release_page-released-requires : goal.release_page-released-requires
release_page-released-requires c =
    let size = c.args.w.window_size in
    let page = c.requires.end_value in
    let need = c.requires.window_size_in_bounds in
    record {
      page_bound = (
        omega (arith, page.0, page.1, page-count-le size),
        omega (arith, page.0, page.1, need.0, capacity-pages size),
        omega (arith, page.0, page.1, need.1, capacity-pages size),
        omega (arith, page.0, page.1, need.2),
      );
      row_in = (omega (arith, page.0, page.1, need.3), page.2, page.3, page.4);
    }

pub next_cursor-requires : goal.next_cursor-requires
next_cursor-requires c =
    let page = c.requires.end_value in
    let need = c.requires.window_size_in_bounds in
    (page.1, omega (arith, page.0, page-count-le c.args.w.window_size), omega (arith, page.0, page.1, need.2, c.release_page-released.ensures.within.pages_long))

pub returns : goal.returns
returns c =
    let a = c.args in
    visit-gives a.w a.sequences.now a.values.now a.pages.now a.blocks.now a.returned.now a.page a.at a.limit a.end _ _ _ _ _
    c.requires.end_value.0 c.requires.end_value.1 c.requires.window_size_in_bounds.3 c.release_page-released.ensures c.next_cursor.ensures
