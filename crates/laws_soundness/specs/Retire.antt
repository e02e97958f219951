-- What retiring changes: marks and counts, while every page stays. Definitions only. Assumes nothing.
use Rattle.std.specs.Prelude.{◌≡◌, Bool, false, cond, ◌&&◌, ◌⊎◌, [], ℕ, ◌+◌, ◌-◌, ◌*◌, ◌/◌, ◌%◌, ◌^◌, ◌≤◌, ◌<◌, leb, ltb, eqb}
use Rattle.words.specs.Word.{bit_at}
use Rattle.model.specs.Table.{within, sum}
use Rattle.model.specs.Window.{Window, pages_of, blocks_of, is_retired}
use Rattle.model.specs.Steps.{retiring_header, with_header, set_retired_blocks, Returned, returned_by, remove_slots_of, retire_in_block, retire_block_of, covers_block}
use Rattle.model.specs.Sound.{live_in, retired_in}
use Rattle.laws_soundness.specs.Change.{Proper, SameStatus}

-- w with other block marks
abbrev pub with_block_marks : Window → ℕ → Window
with_block_marks w r = with_header w (set_retired_blocks w.header r)

-- A window while values are retired. A block covered entirely gets its mark "empty or not", so block marks may stand while nothing is
-- retired, until they drop. With the block marks `marks` the window is proper, and only pages without a value are retired otherwise.
pub record Retiring (w : Window) : Type 0 where
  pub marks : ℕ
  pub proper : Proper (with_block_marks w marks)
  pub status : (h : ℕ) → SameStatus (with_block_marks w marks) w h
  pub block_bits : (b : ℕ) → blocks_of w ≤ b → bit_at w.header.retired_blocks b ≡ 0

module _ (w v : Window) where
  -- page h is not revived in v, or is empty
  abbrev pub NotRevived : ℕ → Type 0
  NotRevived h = is_retired v h ≡ false → ((w.pages h).occupied ≡ 0) ⊎ (is_retired w h ≡ false)

  -- v is w with values retired: marks and counts may differ, the marks are on pages that hold a value, and the counts are right
  pub record Retires : Type 0 where
    pub header : v.header ≡ retiring_header w.header v.header.len v.header.retired_held v.header.retired_blocks
    pub pages : v.pages ≡ w.pages
    pub nonempty : (b : ℕ) → (v.blocks b).nonempty ≡ (w.blocks b).nonempty
    pub status : (h : ℕ) → NotRevived h
    pub marks : (b i : ℕ) → i < 64 → bit_at (v.blocks b).retired i ≡ 1 → bit_at (w.blocks b).nonempty i ≡ 1
    pub marks_fit : (b : ℕ) → (v.blocks b).retired < 2 ^ 64
    pub block_bits : (b : ℕ) → blocks_of w ≤ b → bit_at v.header.retired_blocks b ≡ 0
    pub live : (b : ℕ) → b < blocks_of w → (v.blocks b).live ≡ sum 64 (λ (i : ℕ). live_in v (64 * b + i))
    pub len : v.header.len ≡ sum (pages_of w) (live_in v)
    pub held : v.header.retired_held ≡ sum (pages_of w) (retired_in v)

  -- v is w with k values of block b retired
  pub record RetiresIn (b k : ℕ) : Type 0 where
    pub header : v.header ≡ retiring_header w.header (w.header.len - k) (w.header.retired_held + k) v.header.retired_blocks
    pub pages : v.pages ≡ w.pages
    pub other_blocks : (d : ℕ) → (d ≡ b → ⊥) → v.blocks d ≡ w.blocks d
    pub nonempty : (v.blocks b).nonempty ≡ (w.blocks b).nonempty
    pub live : (v.blocks b).live ≡ (w.blocks b).live - k
    pub block_marks : (d : ℕ) → (d ≡ b → ⊥) → bit_at v.header.retired_blocks d ≡ bit_at w.header.retired_blocks d
    pub status : (i : ℕ) → i < 64 → NotRevived (64 * b + i)
    pub marks : (i : ℕ) → i < 64 → bit_at (v.blocks b).retired i ≡ 1 → bit_at (w.blocks b).nonempty i ≡ 1
    pub marks_fit : (v.blocks b).retired < 2 ^ 64
    pub counted : (w.blocks b).live ≡ sum 64 (λ (i : ℕ). live_in v (64 * b + i)) + k

-- ---- the parts of a stretch

-- block b, of the whole pages from `from` up to `to`
abbrev pub retire_next : Window → ℕ → ℕ → ℕ → Bool → Window
retire_next w b from to several =
    cond (ltb from (64 * b + 64) && ltb (64 * b) to)
    (cond (several && covers_block from to b) (retire_block_of w b) (retire_in_block w from to b))
    w

-- the stretch from a up to e inside one page; the first partial page of one that begins at a; the last of one that ends at e
abbrev pub inside_page : Window → ℕ → ℕ → Returned
inside_page w a e = remove_slots_of w (a / 64) (λ (j : ℕ). within a e (a / 64 * 64 + j))

abbrev pub first_page : Window → ℕ → Returned
first_page w a = cond (eqb (a % 64) 0) (returned_by w []) (remove_slots_of w (a / 64) (λ (j : ℕ). leb (a % 64) j))

abbrev pub last_page : Window → ℕ → Returned
last_page w e = cond (eqb (e % 64) 0) (returned_by w []) (remove_slots_of w (e / 64) (λ (j : ℕ). ltb j (e % 64)))
