-- What taking out values and retiring promises: on any memory, where it writes and that the limits stay; on a sound window, and while
-- values are retired in one, what the model's definitions say. Definitions only. Assumes nothing.
use Rattle.std.specs.Prelude.{◌≡◌, true, List, ℕ, ◌≤◌, length}
use Rattle.window.specs.declared.AdaptiveReceiverPacketWindow.{AdaptiveReceiverPacketWindow}
use Rattle.window.specs.Memory.{Memory}
use Rattle.model.specs.Window.{Window, decode}
use Rattle.model.specs.Steps.{Returned}
use Rattle.model.specs.Contract.{SamePast, SameLengths}
use Rattle.page_base.specs.declared.PageWords.{PageWords}
use Rattle.page_base.specs.Page.{part_of, with_part, page}
use Rattle.page_remove.specs.declared.Settled.{Settled}
use Rattle.page_remove.specs.Remove.{settled_of, settle_page_of}
use Rattle.page_remove.specs.Promises.{Wrote, stretch}
use Rattle.laws_soundness.specs.Change.{limits_of}
use Rattle.laws_soundness.specs.Retire.{Retiring}
use Rattle.range_retire.specs.declared.Retired.{Retired}

-- page g, which has these words, settled after a removal: its cells alone may have changed
pub record SettlesPage (demote_at g : ℕ) (w : PageWords) (ss vs : List ℕ) (r : Settled) (ss' vs' : List ℕ) : Type 0 where
  pub first : List ℕ
  pub second : List ℕ
  pub full : length first ≡ 64
  pub filled : length second ≡ 64
  pub sequences_are : ss' ≡ with_part g ss first
  pub values_are : vs' ≡ with_part g vs second
  pub settled : settled_of r first second ≡ settle_page_of demote_at (page w (part_of g ss) (part_of g vs))

-- a step on header h and memory m, which puts at most `most` values into the list l from `at` on
pub record Performs (step : Window → Returned) (most : ℕ) (h : AdaptiveReceiverPacketWindow) (m : Memory) (at : ℕ) (l : List ℕ) (r : Retired) (m' : Memory) (l' : List ℕ) : Type 0 where
  pub limits : limits_of r.window ≡ limits_of h
  pub past : SamePast h.window_size m m'
  pub lengths : SameLengths m m'
  pub wrote : Wrote at r.count l l'
  pub few : r.count ≤ most
  pub sound : Retiring (decode h m) → r.sound ≡ true
  pub gives : Retiring (decode h m) → decode r.window m' ≡ (step (decode h m)).after
  pub out : Retiring (decode h m) → stretch at r.count l' ≡ (step (decode h m)).out
