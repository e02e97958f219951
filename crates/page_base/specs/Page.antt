-- One page read from its words and its part of the lent lists, and its values in their places. Definitions only. Assumes nothing.
use Rattle.std.specs.Prelude.{◌≡◌, Bool, cond, ◌&&◌, List, [], ◌∷◌, ◌++◌, ℕ, ◌*◌, ◌/◌, ◌%◌, ◌^◌, ◌≤◌, ◌<◌, ltb, eqb, get_or, take, drop}
use Rattle.words.specs.Word.{bit_at, is_set}
use Rattle.window.specs.Memory.{words_per_page, word_at, with_words}
use Rattle.model.specs.Window.{Page}
use Rattle.model.specs.Sound.{Used}
use Rattle.page_base.specs.declared.PageWords.{PageWords}

-- ---- words: "3 words (u64) for each page"

unfoldable pub words_at : List ℕ → ℕ → PageWords
words_at pages g = record { kind = word_at words_per_page pages g 0; occupied = word_at words_per_page pages g 1; filled = word_at words_per_page pages g 2 }

-- its row in the list
abbrev pub page_row : PageWords → List ℕ
page_row w = w.kind ∷ w.occupied ∷ w.filled ∷ []

-- the list with these words for page g
abbrev pub with_page_words : List ℕ → ℕ → PageWords → List ℕ
with_page_words pages g w = with_words words_per_page pages g (page_row w)

-- ---- cells: "A page's 64 cells are handed out as a part of the lent memory that begins at 64 × page"

unfoldable pub part_of : ℕ → List ℕ → List ℕ
part_of g list = take 64 (drop (64 * g) list)

-- the whole list, with `part` for the cells of page g
unfoldable pub with_part : ℕ → List ℕ → List ℕ → List ℕ
with_part g list part = take (64 * g) list ++ (part ++ drop 64 (drop (64 * g) list))

-- what a part holds, by cell
unfoldable pub cells : List ℕ → ℕ → ℕ
cells part c = cond (ltb c 64) (get_or part c 0) 0

-- the page of these words, sequences and values
abbrev pub page : PageWords → List ℕ → List ℕ → Page
page w ss vs = record { kind = w.kind; occupied = w.occupied; filled = w.filled; sequences = cells ss; values = cells vs }

-- cell c is in use, and its sequence is at position j
unfoldable pub is_at : List ℕ → ℕ → ℕ → ℕ → Bool
is_at ss filled j c = is_set filled c && eqb (cells ss c % 64) j

-- ---- a page whose values are in their places: a sound page, but for the page's number and the kind of an emptied page

pub record Placed (n : ℕ) (p : Page) : Type 0 where
  pub kinds : p.kind ≤ 2
  pub none_occupied : p.kind ≡ 0 → p.occupied ≡ 0
  pub none_filled : p.kind ≡ 0 → p.filled ≡ 0
  -- "occupied names just the positions of the filled cells, each once"
  pub named : (c : ℕ) → c < 64 → Used p c → bit_at p.occupied (p.sequences c % 64) ≡ 1
  pub filled_by : (j : ℕ) → j < 64 → bit_at p.occupied j ≡ 1 → (c : ℕ) × (c < 64) × Used p c × (p.sequences c % 64 ≡ j)
  pub once : (c d : ℕ) → c < 64 → d < 64 → Used p c → Used p d → p.sequences c % 64 ≡ p.sequences d % 64 → c ≡ d
  -- "sparse fills only the first N"
  pub sparse : p.kind ≡ 1 → (c : ℕ) → c < 64 → Used p c → c < n
  -- "dense has filled = occupied and each filled cell's sequence at that cell's position"
  pub dense_filled : p.kind ≡ 2 → p.filled ≡ p.occupied
  pub dense_cells : p.kind ≡ 2 → (c : ℕ) → c < 64 → Used p c → p.sequences c % 64 ≡ c
  pub occupied_fits : p.occupied < 2 ^ 64
  pub filled_fits : p.filled < 2 ^ 64

-- a sequence that page g of a window of this capacity may hold: of "this page", and of 31 bits (document 02, S-3)
abbrev pub OfPage : (cap g s : ℕ) → Type 0
OfPage cap g s = (s % cap / 64 ≡ g) × (s < 2 ^ 31)

-- every cell in use holds such a sequence
abbrev pub Here : ℕ → ℕ → Page → Type 0
Here cap g p = (c : ℕ) → c < 64 → Used p c → OfPage cap g (p.sequences c)
