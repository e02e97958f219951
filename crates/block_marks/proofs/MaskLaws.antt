-- What `&`, `|` and `!` compute of a block's words, over plain variables. Assumes nothing.
use Rattle.std.proofs.Common.{◌≡◌, ℕ, ◌-◌, ◌^◌, ◌<◌, Bool, not, ◌&&◌, ◌||◌, ap, ◌∙◌, arith}
use mathlib.Core.Bool.{and_comm}
use lib.Bits.{bit_and, bit_or, and_le_l, or_lt}
use Rattle.words.specs.Word.{is_set}
use Rattle.block_marks.specs.declared.BlockWords.{BlockWords}
use Rattle.block_marks.specs.Blocks.{with_retired}
use Rattle.block_marks.specs.Marks.{newly_marked, with_marks}
use Rattle.words.proofs.TestLaws.{and_set, or_set, not_set, word-eq}

module _ (x : BlockWords) (pages : ℕ) where
  abbrev new_bits : ℕ
  new_bits = bit_and x.nonempty ((2 ^ 64 - 1) - x.retired)

  pub newly-code : x.nonempty < 2 ^ 64 → x.retired < 2 ^ 64 → bit_and new_bits pages ≡ newly_marked x pages
  unfolding newly_marked
  newly-code h l =
      word-eq (bit_and new_bits pages) (λ (i : ℕ). is_set pages i && (is_set x.nonempty i && not (is_set x.retired i)))
      (omega (arith, and_le_l new_bits pages, and_le_l x.nonempty ((2 ^ 64 - 1) - x.retired)))
      (λ i m.
      and_set new_bits pages i
      ∙ ap (λ (t : Bool). t && is_set pages i)
      (and_set x.nonempty ((2 ^ 64 - 1) - x.retired) i ∙ ap (λ (t : Bool). is_set x.nonempty i && t) (not_set x.retired i l m))
      ∙ and_comm (is_set x.nonempty i && not (is_set x.retired i)) (is_set pages i))

  pub marks-code : x.retired < 2 ^ 64 → pages < 2 ^ 64
      → with_retired x (bit_or x.retired pages) ≡ with_marks x pages
  unfolding with_marks
  marks-code h l =
      ap (with_retired x)
      (word-eq (bit_or x.retired pages) (λ (j : ℕ). is_set x.retired j || is_set pages j) (or_lt 64 x.retired pages h l) (λ j m. or_set x.retired pages j))
