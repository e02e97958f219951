-- What handing back values of a page promises: on any memory, where it writes; on a page whose values are in their places, what the
-- model's definitions say. Definitions only. Assumes nothing.
use Rattle.std.specs.Prelude.{◌≡◌, true, cond, List, ℕ, ◌*◌, ◌/◌, ◌≤◌, ◌<◌, eqb, length, drop}
use Rattle.window.specs.declared.AdaptiveReceiverPacketWindow.{AdaptiveReceiverPacketWindow}
use Rattle.window.specs.Memory.{memory, page_count_of, block_count_of, words_per_page, words_per_block}
use Rattle.model.specs.Window.{decode, is_retired}
use Rattle.model.specs.Steps.{release_page_of, revive}
use Rattle.page_base.specs.declared.PageWords.{PageWords}
use Rattle.page_base.specs.Page.{words_at, part_of, page, Placed}
use Rattle.page_remove.specs.Promises.{Wrote, stretch}
use Rattle.laws_soundness.specs.Change.{limits_of}
use Rattle.page_release.specs.declared.PageReleased.{PageReleased}

-- "An emptied page gets kind 0 and empty words"
unfoldable pub settled_words : PageWords → PageWords
settled_words w = cond (eqb w.occupied 0) (record { kind = 0; occupied = 0; filled = 0 }) w

-- the lists are as long as they were, and the words past those of page g and of its block are as they were
pub record Within (pages blocks : List ℕ) (g : ℕ) (pages' blocks' : List ℕ) : Type 0 where
  pub pages_long : length pages' ≡ length pages
  pub blocks_long : length blocks' ≡ length blocks
  pub pages_past : (n : ℕ) → g < n → drop (words_per_page * n) pages' ≡ drop (words_per_page * n) pages
  pub blocks_past : (n : ℕ) → g / 64 < n → drop (words_per_block * n) blocks' ≡ drop (words_per_block * n) blocks

module _ (h : AdaptiveReceiverPacketWindow) (n : ℕ) (ss vs pages blocks l : List ℕ) (g : ℕ) where
  -- page g of a window of this header, inside its lists
  pub record Inside : Type 0 where
    pub below : g < page_count_of h.window_size
    pub blocks_long : words_per_block * block_count_of h.window_size ≤ length blocks
    pub placed : Placed n (page (words_at pages g) (part_of g ss) (part_of g vs))

  pub record ReleasesPage (at limit : ℕ) (r : PageReleased) (pages' blocks' l' : List ℕ) : Type 0 where
    pub within : Within pages blocks g pages' blocks'
    pub wrote : Wrote at r.count l l'
    pub few : r.count ≤ limit
    pub limits : limits_of r.window ≡ limits_of h
    pub sound : Inside → r.sound ≡ true
    pub gives : Inside → decode r.window (memory ss vs pages' blocks') ≡ (release_page_of (decode h (memory ss vs pages blocks)) g limit).after
    pub out : Inside → stretch at r.count l' ≡ (release_page_of (decode h (memory ss vs pages blocks)) g limit).out

  pub record Revives (r : PageReleased) (pages' blocks' l' : List ℕ) : Type 0 where
    pub within : Within pages blocks g pages' blocks'
    pub wrote : Wrote 0 r.count l l'
    pub few : r.count ≤ 64
    pub sound : Inside → r.sound ≡ true
    pub gives : Inside → is_retired (decode h (memory ss vs pages blocks)) g ≡ true
        → decode r.window (memory ss vs pages' blocks') ≡ (revive (decode h (memory ss vs pages blocks)) g).after
    pub out : Inside → is_retired (decode h (memory ss vs pages blocks)) g ≡ true
        → stretch 0 r.count l' ≡ (revive (decode h (memory ss vs pages blocks)) g).out
