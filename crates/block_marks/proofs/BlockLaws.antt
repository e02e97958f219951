-- The words of a block in the lent list, and the model's blocks. Assumes nothing.
use Rattle.std.proofs.Common.{◌≡◌, ℕ, ◌*◌, ◌<◌, ◌≤◌, cond, ltb, List, length, get_or, refl, ap, ◌∙◌, arith, lt-ltb, eq-eqb, ne_eqb}
use native.Mathlib.Decide.{ℕ_discrete}
use Rattle.window.specs.declared.AdaptiveReceiverPacketWindow.{AdaptiveReceiverPacketWindow}
use Rattle.window.specs.Memory.{Memory, block_count_of, words_per_block, RowIn, word_at}
use Rattle.window.proofs.WordListLaws.{words-other, words-own}
use Rattle.model.specs.Window.{Block, Window, decode, no_block, upd}
use Rattle.model.specs.Steps.{with_header, with_block}
use Rattle.block_marks.specs.declared.BlockWords.{BlockWords}
use Rattle.block_marks.specs.declared.Change.{Change}
use Rattle.block_marks.specs.Blocks.{block_words_at, block_row, with_block_words, block_of, changed}

-- the model's block is read from the list
pub block_at : (h : AdaptiveReceiverPacketWindow) (m : Memory) (b : ℕ) → b < block_count_of h.window_size
    → (decode h m).blocks b ≡ block_of (block_words_at m.blocks b)
unfolding decode block_words_at
block_at h m b l = rw (lt-ltb b (block_count_of h.window_size) l)

-- ---- the words of one block written
module _ (blocks : List ℕ) (b : ℕ) (x : BlockWords) where
  pub with-block-other : (d : ℕ) → (d ≡ b → ⊥) → block_words_at (with_block_words blocks b x) d ≡ block_words_at blocks d
  unfolding block_words_at
  with-block-other d n = λ i. record {
    nonempty = kept 0 (omega arith) i;
    retired = kept 1 (omega arith) i;
    live = kept 2 (omega arith) i;
  }
    where
      kept : (k : ℕ) → k < words_per_block → word_at words_per_block (with_block_words blocks b x) d k ≡ word_at words_per_block blocks d k
      kept k l = words-other words_per_block blocks b (block_row x) refl d k n l

  pub with-block-same : RowIn words_per_block b blocks → block_words_at (with_block_words blocks b x) b ≡ x
  unfolding block_words_at
  with-block-same l = λ i. record {
    nonempty = own 0 (omega arith) i;
    retired = own 1 (omega arith) i;
    live = own 2 (omega arith) i;
  }
    where
      own : (k : ℕ) → k < words_per_block → word_at words_per_block (with_block_words blocks b x) b k ≡ get_or (block_row x) k 0
      own = words-own words_per_block blocks b (block_row x) refl l

-- ---- the window read from the list with the words of one block written
module _ (h : AdaptiveReceiverPacketWindow) (m : Memory) (b : ℕ) (x : BlockWords)
    (below : b < block_count_of h.window_size) (long : words_per_block * block_count_of h.window_size ≤ length m.blocks) where
  abbrev written : Memory
  written = record { sequences = m.sequences; values = m.values; pages = m.pages; blocks = with_block_words m.blocks b x }

  abbrev kept : ℕ → Block
  kept d = cond (ltb d (block_count_of h.window_size)) (block_of (block_words_at m.blocks d)) no_block

  block_written : (d : ℕ) → cond (ltb d (block_count_of h.window_size)) (block_of (block_words_at (with_block_words m.blocks b x) d)) no_block ≡ upd kept b (block_of x) d
  block_written d = elim (ℕ_discrete d b) [
    | yes e ↦ rw (e, lt-ltb b (block_count_of h.window_size) below, eq-eqb b b refl) (ap block_of (with-block-same m.blocks b x (omega arith)))
    | no e ↦ rw (ne_eqb d b e, with-block-other m.blocks b x d e)
  ]

  pub decode-block : decode h written ≡ with_block (decode h m) b (block_of x)
  unfolding decode block_words_at
  decode-block = λ i. record { header = h; pages = (decode h m).pages; blocks = λ d. block_written d i }

-- ---- the window read with another header, of the same window_size
pub decode-header : (h k : AdaptiveReceiverPacketWindow) (m : Memory) → k.window_size ≡ h.window_size → decode k m ≡ with_header (decode h m) k
unfolding decode
decode-header h k m e = rw e

-- and with the words of one block written: how a caller reads what a change left
pub decode-changed : (h : AdaptiveReceiverPacketWindow) (m : Memory) (b : ℕ) (r : Change) → r.window.window_size ≡ h.window_size
    → b < block_count_of h.window_size → words_per_block * block_count_of h.window_size ≤ length m.blocks
    → decode r.window (record { sequences = m.sequences; values = m.values; pages = m.pages; blocks = with_block_words m.blocks b r.block })
    ≡ changed (decode h m) b r
decode-changed h m b r e l long =
    decode-header h r.window _ e ∙ ap (λ (v : Window). with_header v r.window) (decode-block h m b r.block l long)
