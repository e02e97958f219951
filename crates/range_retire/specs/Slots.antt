-- Values taken out of one page by position. Definitions only. Assumes nothing.
use Rattle.std.specs.Prelude.{Bool, ℕ, ◌/◌, length}
use Rattle.window.specs.declared.Cause.TheVariants.{Range}
use Rattle.model.specs.Window.{Window}
use Rattle.model.specs.Pages.{drain_page, demotes, after_removal}
use Rattle.model.specs.Steps.{Returned, returned_by, sub_live_of, put_page, count_demotion_of}

-- the values at the positions of page g where P holds, of a page that is live and holds a value
unfoldable pub take_slots_of : Window → ℕ → (ℕ → Bool) → Returned
take_slots_of w g P =
    let d = drain_page 64 0 P 64 (w.pages g) in
    let demote_at = w.header.demote_at in
    returned_by
    (count_demotion_of Range (put_page (sub_live_of w (g / 64) (length d.out)) g (after_removal demote_at d.page)) (demotes demote_at d.page))
    d.out
