-- What releases over several pages promise: on any memory, where they write; on a sound window, what the model's definitions say.
-- Definitions only. Assumes nothing.
use Rattle.std.specs.Prelude.{Option, IfSome, unwrap_or, ◌≡◌, true, cond, List, ℕ, ◌+◌, ◌*◌, ◌%◌, ◌<◌, ◌≤◌, eqb, length, drop}
use Rattle.window.specs.declared.AdaptiveReceiverPacketWindow.{AdaptiveReceiverPacketWindow}
use Rattle.window.specs.Memory.{memory, page_count_of, block_count_of, words_per_page, words_per_block}
use Rattle.model.specs.Window.{decode}
use Rattle.model.specs.Steps.{returned_by, release_page_of, next_retired_of, move_cursor, release_of, release, release_pages_of}
use Rattle.model.specs.Sound.{Sound}
use Rattle.page_base.specs.declared.PageWords.{PageWords}
use Rattle.page_remove.specs.Promises.{Wrote, stretch}
use Rattle.laws_soundness.specs.Change.{limits_of}
use Rattle.page_release.specs.declared.PageReleased.{PageReleased}
use Rattle.page_release.specs.Promises.{Within}
use Rattle.release_visit.specs.declared.Visited.{Visited}

-- "An emptied page moves the cursor to the next page, another keeps it": of `end` pages, with these words of page g
unfoldable pub next_cursor_of : PageWords → ℕ → ℕ → ℕ
next_cursor_of words g end = cond (eqb words.occupied 0) ((g + 1) % end) g

-- the lists are as long as they were, and the words past the named lengths are as they were
pub record WithinNamed (size : ℕ) (pages blocks pages' blocks' : List ℕ) : Type 0 where
  pub pages_long : length pages' ≡ length pages
  pub blocks_long : length blocks' ≡ length blocks
  pub pages_past : drop (words_per_page * page_count_of size) pages' ≡ drop (words_per_page * page_count_of size) pages
  pub blocks_past : drop (words_per_block * block_count_of size) blocks' ≡ drop (words_per_block * block_count_of size) blocks

-- r is the next page to inspect, if there is one: for none the model says the number of pages
pub record FindsRetired (h : AdaptiveReceiverPacketWindow) (blocks : List ℕ) (r : Option ℕ) : Type 0 where
  pub bounded : IfSome r (λ g. g < page_count_of h.window_size)
  pub gives : (ss vs pages : List ℕ) → Sound (decode h (memory ss vs pages blocks))
      → unwrap_or r (page_count_of h.window_size) ≡ next_retired_of (decode h (memory ss vs pages blocks))

module _ (h : AdaptiveReceiverPacketWindow) (ss vs pages blocks l : List ℕ) where
  -- page g inspected
  pub record VisitsPage (g at limit : ℕ) (r : PageReleased) (pages' blocks' l' : List ℕ) : Type 0 where
    pub within : Within pages blocks g pages' blocks'
    pub wrote : Wrote at r.count l l'
    pub few : r.count ≤ limit
    pub limits : limits_of r.window ≡ limits_of h
    pub sound : Sound (decode h (memory ss vs pages blocks)) → r.sound ≡ true
    pub gives : Sound (decode h (memory ss vs pages blocks))
        → decode r.window (memory ss vs pages' blocks') ≡ move_cursor (release_page_of (decode h (memory ss vs pages blocks)) g limit).after g
    pub out : Sound (decode h (memory ss vs pages blocks)) → stretch at r.count l' ≡ (release_page_of (decode h (memory ss vs pages blocks)) g limit).out

  pub record Releases (at budget : ℕ) (r : Visited) (pages' blocks' l' : List ℕ) : Type 0 where
    pub within : WithinNamed h.window_size pages blocks pages' blocks'
    pub wrote : Wrote at r.count l l'
    pub few : r.count ≤ r.units
    pub paid : r.units ≤ budget
    pub limits : limits_of r.window ≡ limits_of h
    pub sound : Sound (decode h (memory ss vs pages blocks)) → r.sound ≡ true
    pub gives : Sound (decode h (memory ss vs pages blocks))
        → release_of (decode r.window (memory ss vs pages' blocks')) (stretch at r.count l') r.units ≡ release budget (decode h (memory ss vs pages blocks))

  -- of a window with no live value
  pub record ReleasesPages (at limit : ℕ) (r : PageReleased) (pages' blocks' l' : List ℕ) : Type 0 where
    pub within : WithinNamed h.window_size pages blocks pages' blocks'
    pub wrote : Wrote at r.count l l'
    pub few : r.count ≤ limit
    pub limits : limits_of r.window ≡ limits_of h
    pub sound : Sound (decode h (memory ss vs pages blocks)) → h.len ≡ 0 → r.sound ≡ true
    pub gives : Sound (decode h (memory ss vs pages blocks)) → h.len ≡ 0
        → returned_by (decode r.window (memory ss vs pages' blocks')) (stretch at r.count l')
        ≡ release_pages_of (page_count_of h.window_size) 0 limit (decode h (memory ss vs pages blocks))
