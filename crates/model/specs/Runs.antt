-- Windows after lists of calls, for examples that are computed. Definitions only. Assumes nothing.
use Rattle.std.specs.Prelude.{true, List, [], ◌∷◌, ℕ, zero, suc, ◌*◌, replicate}
use Rattle.window.specs.Memory.{Memory, memory, capacity, page_count_of, block_count_of, words_per_page, words_per_block}
use Rattle.model.specs.Calls.{Call, insert}
use Rattle.model.specs.Window.{Window, fresh_window}
use Rattle.model.specs.Steps.{window_step}

-- memory as long as window_size names it, and what an accepted `new` leaves of it
abbrev pub lent : ℕ → Memory
lent size =
    memory (replicate (capacity size) 0) (replicate (capacity size) 0) (replicate (words_per_page * page_count_of size) 0) (replicate (words_per_block * block_count_of size) 0)

abbrev pub after_new : ℕ → ℕ → ℕ → Window
after_new size n d = fresh_window size n d (lent size)

abbrev pub after : Window → List Call → Window
after w [] = w
after w (c ∷ cs) = after (window_step w c).after cs

-- the n numbers from k upwards; the inserts of n sequences from s upwards, each with its own number as value
abbrev pub from : ℕ → ℕ → List ℕ
from k zero = []
from k (suc n) = k ∷ from (suc k) n

abbrev pub inserts_from : ℕ → ℕ → List Call
inserts_from s zero = []
inserts_from s (suc n) = insert s s true ∷ inserts_from (suc s) n
