-- Document 02, S-4: what the two calls of the loss report leave beside what every call owes, and what is proved of loss lists. Definitions
-- and statements only. Assumes nothing.
use Rattle.std.specs.Prelude.{◌≡◌, Bool, true, false, ◌↔◌, List, [], ℕ, ◌^◌, ◌≤◌, ◌<◌, length, take, get_or}
use Rattle.std.proofs.Math.Option.{none}
use Rattle.model.specs.Calls.{write_losses, read_losses, ask, found, refused}
use Rattle.model.specs.Losses.{loss_words, most_words_of, names_after, named_flags, is_loss_list_of, loss_bytes, lost_count, over}
use Rattle.model.specs.Table.{range_count_of, loss_list_of}
use Rattle.model.specs.Demand3.{SamePairs}
use Rattle.model.specs.Window.{size_of, live_at}
use Rattle.model.specs.Sound.{SoundWithPoint}
use Rattle.model.specs.Contract.{State, window_of, Left, refusal, Meets}
use Rattle.model.specs.Heads.{pairs_of}

-- ---- the contracts

-- the list of first..last in a state
abbrev pub report_of : State → (first last : ℕ) → List ℕ
report_of u first last = loss_list_of (size_of (window_of u)) (live_at (window_of u)) first last

-- write_losses on state u with the list l, which it leaves as l'
pub record WritesLosses (first last : ℕ) (u : State) (l : List ℕ) (r : Left) (l' : List ℕ) : Type 0 where
  pub meets : Meets (ask (write_losses first last (length l))) u [] r
  -- "Neither form alters the window", sound or not
  pub window : r.state ≡ u
  -- "Turned away, written lists untouched"
  pub refused_stays : (k : ℕ) → r.answer ≡ refused k → l' ≡ l
  -- "The writer answers the number of words"; "Entries past those written stay", on every state
  pub writes : (n : ℕ) → r.answer ≡ found n → (words : List ℕ) × (length words ≡ n) × (l' ≡ over words l)
  -- "the draft's loss list of all sequences there that are not live"
  pub losses : (n : ℕ) → r.answer ≡ found n → SoundWithPoint (window_of u) → take n l' ≡ report_of u first last

-- read_losses of the list `words` on state u with the list l, which it leaves as l'
pub record ReadsLosses (first last : ℕ) (words : List ℕ) (u : State) (l : List ℕ) (r : Left) (l' : List ℕ) : Type 0 where
  pub meets : Meets (ask (read_losses first last words (length l))) u [] r
  -- "Neither form alters the window", sound or not
  pub window : r.state ≡ u
  -- "Turned away, written lists untouched"
  pub refused_stays : (k : ℕ) → r.answer ≡ refused k → l' ≡ l
  -- "writes one byte for each sequence from first to last ..., and answers how many are lost. Entries past those written stay.": on
  -- every state, since nothing of it is looked at
  pub reads : refusal u (ask (read_losses first last words (length l))) ≡ 0
      → let flags = named_flags first (range_count_of first last) words in (r.answer ≡ found (lost_count flags)) × (l' ≡ over (loss_bytes flags) l)

-- ---- what is proved of loss lists

-- of ranges from first: their lists, each for a set of losses, given by a flag for each sequence
pub record LossLists (first : ℕ) : Type 0 where
  -- the list of a set of losses names them, and no other sequence
  pub named : (f : List Bool) (d : ℕ) → length f ≤ 2 ^ 31 → names_after first none (loss_words first f) d ≡ get_or f d false
  -- what was written is read
  pub read_written : (f : List Bool) → length f ≤ 2 ^ 31
      → (is_loss_list_of first (length f) (loss_words first f) ≡ true) × (named_flags first (length f) (loss_words first f) ≡ f)
  -- "It takes exactly such lists", and so 12 is for lists of no set of losses
  pub taken : (n : ℕ) (words : List ℕ) → n ≤ 2 ^ 31 → (is_loss_list_of first n words ≡ true) ↔ ((f : List Bool) × (length f ≡ n) × (loss_words first f ≡ words))
  pub not_taken : (n : ℕ) (words : List ℕ) → n ≤ 2 ^ 31 → (is_loss_list_of first n words ≡ false) ↔ ((f : List Bool) → length f ≡ n → loss_words first f ≡ words → ⊥)
  -- "so one set of losses has one list": and one list has one set
  pub one_set : (f g : List Bool) → length f ≤ 2 ^ 31 → length f ≡ length g → loss_words first f ≡ loss_words first g → f ≡ g
  -- no more words than losses, and how many at the most
  pub few : (f : List Bool) → length (loss_words first f) ≤ lost_count f
  pub most : (f : List Bool) → length (loss_words first f) ≤ most_words_of (length f)

unfoldable pub LossesReadAndWritten : Type 0
LossesReadAndWritten = (first : ℕ) → first < 2 ^ 31 → LossLists first

-- heads of one window_size with the same live pairs write the same list for each range
unfoldable pub SameReports : Type 0
SameReports =
    (u v : State) → SoundWithPoint (window_of u) → SoundWithPoint (window_of v) → u.header.window_size ≡ v.header.window_size
    → SamePairs (pairs_of u) (pairs_of v) → (first last : ℕ) → report_of u first last ≡ report_of v first last
