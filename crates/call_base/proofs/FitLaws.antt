-- Where a position's page lies in the lists, and positions. Assumes nothing.
use Rattle.std.proofs.Common.{◌≡◌, ℕ, ◌+◌, ◌-◌, ◌*◌, ◌/◌, ◌%◌, ◌^◌, ◌<◌, ◌≤◌, sym, ap, ◌∙◌, sub-add_cancel, arith}
use native.Mathlib.Nat.{mod-add-mod}
use lib.Pow.{mod-mod-pow}
use Rattle.window.specs.Memory.{capacity, page_count_of, block_count_of, position, words_per_page, words_per_block}
use Rattle.window.proofs.MemoryLaws.{capacity-power, capacity-pages, page-count-le, position-lt}

-- ---- pages

-- page g of a window of this size, with its cells, its words and its block's words
pub record PageBounds (size g : ℕ) : Type 0 where
  pub page : g < page_count_of size
  pub page-fits : g < 1024
  pub block : g / 64 < block_count_of size
  pub cells : 64 * g + 64 ≤ capacity size
  pub words : words_per_page * g + words_per_page ≤ words_per_page * page_count_of size
  pub block_words : words_per_block * (g / 64) + words_per_block ≤ words_per_block * block_count_of size

pub page-bounds : (size g : ℕ) → g < page_count_of size → PageBounds size g
page-bounds size g l = record {
  page = l;
  page-fits = omega (arith, page-count-le size);
  block = omega arith;
  cells = omega (arith, capacity-pages size);
  words = omega arith;
  block_words = omega arith;
}

-- the page of a position, or of a cell
pub at_bounds : (size q : ℕ) → q < capacity size → PageBounds size (q / 64)
at_bounds size q l = page-bounds size (q / 64) (omega (arith, capacity-pages size))

-- the page of a sequence
pub sequence-bounds : (size s : ℕ) → PageBounds size (position size s / 64)
sequence-bounds size s = at_bounds size (position size s) (position-lt size s)

-- ---- positions

-- the lowest k bits of a number tell its position
pub low-position : (size n k : ℕ) → 16 ≤ k → position size (n % 2 ^ k) ≡ position size n
low-position size n k h =
    let p = capacity-power size in
    let e : (k - p.0) + p.0 ≡ k = sub-add_cancel (omega (arith, p.2)) in
    ap (λ (x : ℕ). n % 2 ^ k % x) p.3 ∙ ap (λ (j : ℕ). n % 2 ^ j % 2 ^ p.0) (sym e) ∙ mod-mod-pow n (k - p.0) p.0
    ∙ ap (λ (x : ℕ). n % x) (sym p.3)

-- the next position, which is 0 at the end
pub next-position : (size n : ℕ) → position size (n + 1) ≡ (position size n + 1) % capacity size
next-position size n = sym (mod-add-mod n (capacity size) 1)
