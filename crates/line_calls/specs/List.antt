-- The listing of live pairs. Document 01, 'The line program': l is "iter from 0 until done". Definitions only. Assumes nothing.
use Rattle.std.specs.Prelude.{◌≡◌, true, List, map, ℕ, ◌≤◌, length, take}
use Rattle.window.specs.declared.AdaptiveReceiverPacketWindow.{AdaptiveReceiverPacketWindow}
use Rattle.window.specs.Memory.{capacity}
use Rattle.window.specs.Lent.{Lent, found_in}
use Rattle.model.specs.Table.{Pair}
use Rattle.model.specs.Window.{Window, live_pairs_of}
use Rattle.model.specs.Sound.{SoundWithPoint}
use Rattle.model.specs.Contract.{State, window_of, lengths_fit}
use Rattle.call_base.specs.Answers.{state_of}

-- the sequences of pairs, and their values
abbrev pub sequences_of : List Pair → List ℕ
sequences_of ps = map (λ (p : Pair). p.sequence) ps

abbrev pub values_of : List Pair → List ℕ
values_of ps = map (λ (p : Pair). p.value) ps

-- the first r of two lists are the live pairs of a window, their sequences in one and their values in the other
pub record Listed (w : Window) (r : ℕ) (ss vs : List ℕ) : Type 0 where
  pub count : r ≡ length (live_pairs_of w)
  pub sequences : take r ss ≡ sequences_of (live_pairs_of w)
  pub values : take r vs ≡ values_of (live_pairs_of w)

-- what a listing into ss and vs leaves in them, and its number r: the live pairs of a sound state whose lists fit, in lists with a place
-- for every cell; on every state no more than there are places
pub record Lists (u : State) (ss vs : List ℕ) (r : ℕ) (ss' vs' : List ℕ) : Type 0 where
  pub sound : lengths_fit u ≡ true → SoundWithPoint (window_of u) → capacity u.header.window_size ≤ length ss
      → capacity u.header.window_size ≤ length vs → Listed (window_of u) r ss' vs'
  pub sequences_fit : r ≤ length ss
  pub values_fit : r ≤ length vs
  pub sequences_long : length ss' ≡ length ss
  pub values_long : length vs' ≡ length vs

-- as a signature says it
abbrev pub ListsBy : AdaptiveReceiverPacketWindow → (sequences values pages blocks listed_sequences listed_values : Lent) → ℕ → Type 0
ListsBy w s v p b ss vs r =
    Lists (state_of w (found_in s v p b)) ss.entry vs.entry r ss.exit vs.exit
