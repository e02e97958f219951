-- What the functions promise: on a page whose values are in their places, what the model's definitions say. On any other page they
-- end and stay inside the parts and, in the return list, inside what they count. Definitions only. Assumes nothing.
use Rattle.std.specs.Prelude.{◌≡◌, true, List, ℕ, ◌+◌, ◌-◌, ◌^◌, ◌≤◌, min, length, take, drop}
use Rattle.words.specs.Word.{is_set, lowest}
use Rattle.model.specs.Pages.{drain_page, page_drained}
use Rattle.page_base.specs.declared.PageWords.{PageWords}
use Rattle.page_base.specs.Page.{page, Placed}
use Rattle.page_remove.specs.declared.Removed.{Removed}
use Rattle.page_remove.specs.declared.drain.Drained.{Drained}
use Rattle.page_remove.specs.Remove.{removed_of, remove_page}

pub record Removes (n demote_at : ℕ) (w : PageWords) (ss vs : List ℕ) (s : ℕ) (r : Removed) (ss' vs' : List ℕ) : Type 0 where
  pub gives : Placed n (page w ss vs) → removed_of r ss' vs' ≡ remove_page demote_at (page w ss vs) s

-- `count` values were written into a list from `at` on, and nothing else
pub record Wrote (at count : ℕ) (l l' : List ℕ) : Type 0 where
  pub before : take at l' ≡ take at l
  pub past : drop (at + count) l' ≡ drop (at + count) l
  pub long : length l' ≡ length l

-- the values that stand in a list from `at` on
abbrev pub stretch : ℕ → ℕ → List ℕ → List ℕ
stretch at count l = take count (drop at l)

pub record Drains (n : ℕ) (w : PageWords) (ss vs : List ℕ) (slots at limit : ℕ) (l : List ℕ) (r : Drained) (l' : List ℕ) : Type 0 where
  pub wrote : Wrote at r.count l l'
  pub few : r.count ≤ limit
  pub sound : Placed n (page w ss vs) → r.sound ≡ true
  pub gives : Placed n (page w ss vs)
      → page_drained (page r.words ss vs) (stretch at r.count l') ≡ drain_page 64 0 (is_set slots) limit (page w ss vs)

-- the words of a dense page with these positions occupied: "dense has filled = occupied"
abbrev pub dense_words : ℕ → PageWords
dense_words occupied = record { kind = 2; occupied = occupied; filled = occupied }

-- how many positions in a row from `from` on are selected, at most `most`
abbrev pub run_length_of : ℕ → ℕ → ℕ → ℕ
run_length_of selected from most = min (lowest (2 ^ 64 - 1 - selected) from - from) most

-- a drain that reads no sequences: of a dense page it gives the same for any n and whatever sequences stand in the cells
abbrev pub DrainsDense : ℕ → List ℕ → ℕ → ℕ → ℕ → List ℕ → Drained → List ℕ → Type 0
DrainsDense occupied vs slots at limit l r l' = (n : ℕ) (ss : List ℕ) → Drains n (dense_words occupied) ss vs slots at limit l r l'
