-- What the functions promise: their answer says whether a page, or a part of what makes it sound, is so. Definitions only. Assumes
-- nothing.
use Rattle.std.specs.Prelude.{◌≡◌, Bool, true, false, List, ℕ, ◌/◌, ◌%◌, ◌^◌, ◌<◌}
use Rattle.words.specs.Word.{bit_at}
use Rattle.window.specs.Memory.{capacity}
use Rattle.model.specs.Sound.{SoundPage}
use Rattle.page_base.specs.declared.PageWords.{PageWords}
use Rattle.page_base.specs.Page.{page}

-- r says whether A holds
pub record Decides (A : Type 0) (r : Bool) : Type 0 where
  pub holds : r ≡ true → A
  pub fails : r ≡ false → A → ⊥

-- r says whether the page of these words and sequences is sound, as page g of a window of this size and N
pub record DecidesPage (n size g : ℕ) (w : PageWords) (ss : List ℕ) (r : Bool) : Type 0 where
  pub is : (vs : List ℕ) → Decides (SoundPage n (capacity size) g (page w ss vs)) r

-- what a sound page asks of one cell in use, cell c of a page of this kind, which holds sequence s
pub record SoundCell (n cap g kind c s : ℕ) : Type 0 where
  -- document 02, S-3: no number with the top bit set
  pub wire : s < 2 ^ 31
  -- "all of this page"
  pub here : s % cap / 64 ≡ g
  -- "sparse fills only the first N"
  pub sparse : kind ≡ 1 → c < n
  -- dense has "each filled cell's sequence at that cell's position"
  pub dense : kind ≡ 2 → s % 64 ≡ c

-- what it asks of the cells in use together; f gives the sequence of each cell
pub record SoundCells (n cap g : ℕ) (w : PageWords) (f : ℕ → ℕ) : Type 0 where
  pub cell : (c : ℕ) → c < 64 → bit_at w.filled c ≡ 1 → SoundCell n cap g w.kind c (f c)
  -- "occupied names just the positions of the filled cells, each once"
  pub named : (c : ℕ) → c < 64 → bit_at w.filled c ≡ 1 → bit_at w.occupied (f c % 64) ≡ 1
  pub filled_by : (j : ℕ) → j < 64 → bit_at w.occupied j ≡ 1 → (c : ℕ) × (c < 64) × (bit_at w.filled c ≡ 1) × (f c % 64 ≡ j)
  pub once : (c d : ℕ) → c < 64 → d < 64 → bit_at w.filled c ≡ 1 → bit_at w.filled d ≡ 1 → f c % 64 ≡ f d % 64 → c ≡ d
