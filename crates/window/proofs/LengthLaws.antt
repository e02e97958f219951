-- The four ends of the test of the lengths, over plain variables. Assumes nothing.
use mathlib.Core.Path.{◌≡◌}
use mathlib.Core.Bool.{false}
use Prim.Native.Nat.{ℕ, ◌*◌, ◌≤◌, ◌<◌}
use lib.Dec.{leb}
use borrow.Author.Tests.{lt-leb, le-leb}
use Rattle.window.specs.Memory.{capacity, page_count_of, block_count_of, words_per_page, words_per_block}
use Rattle.window.specs.Refusals.{long_enough_of}

module _ (size s v p b cells : ℕ) (known : cells ≡ capacity size) where
  pub sequences-short : s < cells → false ≡ long_enough_of size s v p b
  unfolding long_enough_of
  sequences-short h = simp (lt-leb _ _ (rw known at h))

  pub values-short : cells ≤ s → v < cells → false ≡ long_enough_of size s v p b
  unfolding long_enough_of
  values-short h i = simp (le-leb _ _ (rw known at h), lt-leb _ _ (rw known at i))

  pub pages-short : (page-count : ℕ) → page-count ≡ page_count_of size → cells ≤ s → cells ≤ v → p < words_per_page * page-count → false ≡ long_enough_of size s v p b
  unfolding long_enough_of
  pages-short page-count e h i j = simp (le-leb _ _ (rw known at h), le-leb _ _ (rw known at i), lt-leb _ _ (rw e at j))

  pub blocks-decide : (page-count block-count : ℕ) → page-count ≡ page_count_of size → block-count ≡ block_count_of size
      → cells ≤ s → cells ≤ v → words_per_page * page-count ≤ p → leb (words_per_block * block-count) b ≡ long_enough_of size s v p b
  unfolding long_enough_of
  blocks-decide page-count block-count e f h i j =
      simp (f, le-leb _ _ (rw known at h), le-leb _ _ (rw known at i), le-leb _ _ (rw e at j))
