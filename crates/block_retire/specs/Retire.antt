-- What retiring by marks computes. Definitions only. Assumes nothing.
use Rattle.std.specs.Prelude.{ℕ, zero, suc, ◌+◌, ◌*◌, Bool, cond, List, slice_set}
use Rattle.words.specs.Word.{is_set, count}
use Rattle.window.specs.Memory.{words_per_block}
use Rattle.model.specs.Table.{sum}
use Rattle.model.specs.Window.{Window}
use Rattle.model.specs.Steps.{retire_block_of}
use Rattle.page_base.specs.Page.{words_at}

-- the values of page i of block b, if the mask names it
abbrev pub values_at_of : List ℕ → ℕ → ℕ → ℕ → ℕ
values_at_of pages b mask i = cond (is_set mask i) (count (words_at pages (64 * b + i)).occupied) 0

-- the values that the pages of a mask hold, in block b
unfoldable pub values_of : List ℕ → ℕ → ℕ → ℕ
values_of pages b mask = sum 64 (values_at_of pages b mask)

-- of the n blocks from b upwards, those where P holds retired with one bit each
unfoldable pub retire_each : ℕ → ℕ → (ℕ → Bool) → Window → Window
retire_each zero b P w = w
retire_each (suc n) b P w = retire_each n (suc b) P (cond (P b) (retire_block_of w b) w)

-- the list with no live value in its first n blocks
unfoldable pub without_live : ℕ → List ℕ → List ℕ
without_live zero blocks = blocks
without_live (suc n) blocks = slice_set (without_live n blocks) (words_per_block * n + 2) 0
