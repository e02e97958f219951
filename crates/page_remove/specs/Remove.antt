-- What a removal's steps give. Definitions only. Assumes nothing.
use Rattle.std.specs.Prelude.{Bool, false, cond, List, ℕ, ◌%◌, ltb}
use Rattle.words.specs.Word.{clear_bit, count}
use Rattle.model.specs.Calls.{Answer}
use Rattle.model.specs.Table.{finds}
use Rattle.model.specs.Window.{Page, cell_of, stands_at}
use Rattle.model.specs.Pages.{values_in_of, take_cell_of, nth_set, demotes, after_removal}
use Rattle.page_base.specs.declared.Left.{Left}
use Rattle.page_base.specs.declared.PageWords.{PageWords}
use Rattle.page_base.specs.Page.{page}
use Rattle.page_base.specs.Promises.{read_answer_of, read_of}
use Rattle.page_remove.specs.declared.Settled.{Settled}
use Rattle.page_remove.specs.declared.Removed.{Removed}

-- the words without the value in cell c, at position j
abbrev pub taken_words : PageWords → ℕ → ℕ → PageWords
taken_words w j c = record { kind = w.kind; occupied = clear_bit w.occupied j; filled = clear_bit w.filled c }

-- "packed by rising position"; a cell past the values keeps what it holds
unfoldable pub packed_cells : ℕ → (ℕ → ℕ) → ℕ → ℕ
packed_cells occupied f c = cond (ltb c (count occupied)) (f (nth_set occupied c)) (f c)

-- document 02, S-5: "how many values it left there and whether it became sparse", of the page as the removal left it
abbrev pub left_in : Page → Bool → Left
left_in p demoted = record { values = values_in_of p; demoted = demoted }

-- a page after a removal, and what it left there
pub record SettledPage : Type 0 where
  pub page : Page
  pub left : Left

abbrev pub settled_page : Page → Bool → SettledPage
settled_page p demoted = record { page = p; left = left_in p demoted }

abbrev pub settle_page_of : ℕ → Page → SettledPage
settle_page_of demote_at p = settled_page (after_removal demote_at p) (demotes demote_at p)

abbrev pub settled_of : Settled → List ℕ → List ℕ → SettledPage
settled_of r ss vs = record { page = page r.words ss vs; left = r.left }

-- a page without sequence s, what the removal answers, and what it left there
pub record RemovedPage : Type 0 where
  pub page : Page
  pub answer : Answer
  pub left : Left

abbrev pub removed_page : SettledPage → Answer → RemovedPage
removed_page r a = record { page = r.page; answer = a; left = r.left }

unfoldable pub remove_page : ℕ → Page → ℕ → RemovedPage
remove_page demote_at p s =
    removed_page
    (cond (finds s (stands_at p (s % 64))) (settle_page_of demote_at (take_cell_of p (cell_of p (s % 64)))) (settled_page p false))
    (read_of p s)

abbrev pub removed_of : Removed → List ℕ → List ℕ → RemovedPage
removed_of r ss vs = record { page = page r.words ss vs; answer = read_answer_of r.answer; left = r.left }
