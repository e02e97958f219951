-- What the code computes of a block's words, over plain variables. Assumes nothing.
use mathlib.Core.Path.{◌≡◌, sym, ap, ◌∙◌}
use mathlib.Core.Bool.{Bool, true, not, ◌&&◌, and-true, and-false, ◌||◌}
use mathlib.Core.List.{List}
use Prim.Native.Nat.{ℕ, ◌+◌, ◌-◌, ◌*◌, ◌/◌, ◌^◌, ◌≤◌, ◌<◌, min}
use native.Mathlib.Omega.{arith}
use native.Mathlib.Decide.{dec_le}
use lib.Dec.{leb}
use lib.Bits.{bit_and, and_le_l}
use borrow.Author.Tests.{le-leb, lt-leb, lt-ltb, le-ltb}
use Rattle.words.specs.Word.{is_set, word_of, span}
use Rattle.words.proofs.SpanLaws.{span-in, span_below, span-above, span-lt}
use Rattle.model.specs.Table.{within}
use Rattle.block_marks.specs.declared.BlockWords.{BlockWords}
use Rattle.block_marks.specs.Blocks.{block_words_at}
use Rattle.block_marks.specs.Marks.{retired_pages_of}
use Rattle.block_marks.proofs.MarkLaws.{retired-pages-set}
use Rattle.words.proofs.TestLaws.{and_set, not_set, word-eq}
use Rattle.block_search.specs.declared.Select.{Select}
use Rattle.block_search.specs.declared.Select.TheVariants.{Nonempty, Live, Retired}
use Rattle.block_search.specs.Search.{bits_within_of, chosen, selected_pages_of}

-- ---- the bits of one word of a row of words
module _ (start end b : ℕ) (some : start < end) (low : start / 64 ≤ b) (high : b ≤ (end - 1) / 64) where
  abbrev low_end : ℕ
  low_end = start - 64 * b

  abbrev high_end : ℕ
  high_end = min 64 (end - 64 * b)

  each : (i : ℕ) → i < 64 → is_set (span low_end high_end) i ≡ within start end (64 * b + i)
  each i h = elim (dec_le low_end i) [
    | yes p ↦ elim (dec_le high_end i) [
      | yes q ↦ rw (span-above low_end high_end i q, le-ltb (64 * b + i) end (omega arith)) (sym (and-false (leb start (64 * b + i))))
      | no q ↦ rw (span-in low_end high_end i p (omega arith), le-leb start (64 * b + i) (omega arith), lt-ltb (64 * b + i) end (omega arith))
    ]
    | no p ↦ rw (span_below low_end high_end i (omega arith) (omega arith), lt-leb start (64 * b + i) (omega arith))
  ]

  pub span-within : span low_end high_end ≡ bits_within_of start end b
  unfolding bits_within_of
  span-within = word-eq (span low_end high_end) (λ (i : ℕ). within start end (64 * b + i)) (span-lt 64 low_end high_end (omega arith)) each

-- ---- the selected pages of a block: its words x, its retired pages
module _ (x : BlockWords) (retired_blocks b : ℕ) where
  abbrev selected : Select → ℕ
  selected select = word_of (λ (i : ℕ). is_set x.nonempty i && chosen select (is_set retired_blocks b || is_set x.retired i))

  pub all-code : x.nonempty < 2 ^ 64 → x.nonempty ≡ selected Nonempty
  all-code fits = word-eq x.nonempty (λ (i : ℕ). is_set x.nonempty i && true) fits (λ i h. sym (and-true (is_set x.nonempty i)))

  module _ (retired : ℕ) (fits : x.nonempty < 2 ^ 64) (known : retired ≡ retired_pages_of retired_blocks x.retired b) where
    abbrev marked : ℕ → Bool
    marked i = is_set retired_blocks b || is_set x.retired i

    retired-bit : (i : ℕ) → i < 64 → is_set retired i ≡ marked i
    retired-bit i h = ap (λ (w : ℕ). is_set w i) known ∙ retired-pages-set retired_blocks x.retired b i h

    pub live-code : retired < 2 ^ 64 → bit_and x.nonempty ((2 ^ 64 - 1) - retired) ≡ selected Live
    live-code small =
        let others = (2 ^ 64 - 1) - retired in
        word-eq (bit_and x.nonempty others) (λ (i : ℕ). is_set x.nonempty i && not (marked i)) (omega (arith, and_le_l x.nonempty others))
        (λ i h.
        and_set x.nonempty others i ∙ ap (λ (t : Bool). is_set x.nonempty i && t) (not_set retired i small h ∙ ap not (retired-bit i h)))

    pub retired-code : bit_and x.nonempty retired ≡ selected Retired
    retired-code =
        word-eq (bit_and x.nonempty retired) (λ (i : ℕ). is_set x.nonempty i && marked i) (omega (arith, and_le_l x.nonempty retired))
        (λ i h. and_set x.nonempty retired i ∙ ap (λ (t : Bool). is_set x.nonempty i && t) (retired-bit i h))

  -- the words are those of block b of the list, and `told` is what the search looks for
  pub read-from : (blocks : List ℕ) (told select : Select) → x ≡ block_words_at blocks b → select ≡ told
      → selected told ≡ selected_pages_of blocks retired_blocks b select
  unfolding selected_pages_of
  read-from blocks told select e t = λ i. word_of (λ (j : ℕ). is_set (e i).nonempty j && chosen (sym t i) (is_set retired_blocks b || is_set (e i).retired j))
