-- What the tests promise: they decide the clauses of every window with this header and these lists, whatever the values are.
-- Definitions only. Assumes nothing.
use Rattle.std.specs.Prelude.{◌≡◌, Bool, true, false, not, List, ℕ, ◌*◌, ◌%◌, ◌^◌, ◌≤◌, ◌<◌, eqb, length, Result}
use Rattle.words.specs.Word.{bit_at, count}
use Rattle.window.specs.declared.AdaptiveReceiverPacketWindow.{AdaptiveReceiverPacketWindow}
use Rattle.window.specs.declared.answers.Answer.{Answer}
use Rattle.window.specs.declared.refusals.Refusal.{Refusal}
use Rattle.window.specs.Memory.{memory, page_count_of, block_count_of, words_per_page, words_per_block}
use Rattle.model.specs.Window.{Window, decode}
use Rattle.model.specs.Demand3.{one}
use Rattle.model.specs.Steps.{window_answer}
use Rattle.model.specs.Sound.{Sound, SoundWithPoint}
use Rattle.model.specs.Calls.{check, refused}
use Rattle.model.specs.Contract.{State, window_of}
use Rattle.call_base.specs.Answers.{answer_of}
use Rattle.page_base.specs.declared.PageWords.{PageWords}
use Rattle.block_marks.specs.declared.BlockWords.{BlockWords}
use Rattle.block_marks.specs.Marks.{page_retired_of}
use Rattle.page_check.specs.Promises.{Decides}
use Rattle.call_check.specs.Clauses.{SoundAt, SoundBlock, SoundHeader, values_where_of}

-- bit k of a word says whether x is 0
abbrev pub BitMatches : ℕ → ℕ → ℕ → Type 0
BitMatches word k x = bit_at word k ≡ one (not (eqb x 0))

-- "a live dense page has more than demote_at values when demote_at is not 0", of a page of these words
pub record DenseEnough (demote_at : ℕ) (w : PageWords) (retired : Bool) : Type 0 where
  pub more : retired ≡ false → w.kind ≡ 2 → (demote_at ≡ 0 → ⊥) → demote_at < count w.occupied

-- page g of words w, in the block of words x
pub record PageMatches (h : AdaptiveReceiverPacketWindow) (w : PageWords) (x : BlockWords) (g : ℕ) : Type 0 where
  pub dense : DenseEnough h.demote_at w (eqb (page_retired_of h.retired_blocks x g) 1)
  pub nonempty : BitMatches x.nonempty (g % 64) w.occupied
  pub marks : bit_at x.retired (g % 64) ≡ 1 → not (eqb w.occupied 0) ≡ true

-- the header's cursor and masks
pub record HeaderWords (h : AdaptiveReceiverPacketWindow) : Type 0 where
  pub cursor : h.release_cursor < page_count_of h.window_size
  pub summary_bits : h.nonempty_summary < 2 ^ block_count_of h.window_size
  pub retired_block_bits : h.retired_blocks < 2 ^ block_count_of h.window_size
  pub no_block_mark : h.retired_held ≡ 0 → h.retired_blocks ≡ 0

-- the header's counts
pub record HeaderCounts (h : AdaptiveReceiverPacketWindow) (pages blocks : List ℕ) : Type 0 where
  pub len : h.len ≡ values_where_of pages blocks h.retired_blocks 0 0 (page_count_of h.window_size)
  pub held : h.retired_held ≡ values_where_of pages blocks h.retired_blocks 1 0 (page_count_of h.window_size)

-- the words of pages and blocks are as many as window_size names
pub record WordsLent (size : ℕ) (pages blocks : List ℕ) : Type 0 where
  pub size_high : size ≤ 65536
  pub pages_long : words_per_page * page_count_of size ≤ length pages
  pub blocks_long : words_per_block * block_count_of size ≤ length blocks

module _ (h : AdaptiveReceiverPacketWindow) (ss pages blocks : List ℕ) where
  abbrev window_for : List ℕ → Window
  window_for vs = decode h (memory ss vs pages blocks)

  pub record DecidesAt (g : ℕ) (r : Bool) : Type 0 where
    pub is : (vs : List ℕ) → Decides (SoundAt (window_for vs) g) r

  pub record DecidesPages (r : Bool) : Type 0 where
    pub is : (vs : List ℕ) → Decides ((g : ℕ) → g < page_count_of h.window_size → SoundAt (window_for vs) g) r

  pub record DecidesSound (r : Bool) : Type 0 where
    pub is : (vs : List ℕ) → Decides (Sound (window_for vs)) r

-- here the sequences are not looked at either
module _ (h : AdaptiveReceiverPacketWindow) (pages blocks : List ℕ) where
  abbrev window_with : List ℕ → List ℕ → Window
  window_with ss vs = decode h (memory ss vs pages blocks)

  pub record DecidesBlock (b : ℕ) (r : Bool) : Type 0 where
    pub is : (ss vs : List ℕ) → Decides (SoundBlock (window_with ss vs) b) r

  pub record DecidesBlocks (r : Bool) : Type 0 where
    pub is : (ss vs : List ℕ) → Decides ((b : ℕ) → b < block_count_of h.window_size → SoundBlock (window_with ss vs) b) r

  pub record DecidesHeader (r : Bool) : Type 0 where
    pub is : (ss vs : List ℕ) → Decides (SoundHeader (window_with ss vs)) r

-- "check: then 7, exactly if not sound"
pub record Checks (u : State) (a : Result Answer Refusal) : Type 0 where
  pub sound : SoundWithPoint (window_of u) → answer_of a ≡ window_answer (window_of u) check
  pub unsound : (SoundWithPoint (window_of u) → ⊥) → answer_of a ≡ refused 7
