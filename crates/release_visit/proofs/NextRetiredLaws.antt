-- The next retired page, over plain variables: two searches by the masks, from the cursor upwards and then up to it. Assumes nothing.
use Rattle.std.specs.Prelude.{Option, None, Some, IfSome, unwrap_or}
use mathlib.Core.Path.{◌≡◌, sym, ap, ◌∙◌, subst}
use mathlib.Core.Bool.{Bool, ◌&&◌}
use mathlib.Core.List.{List}
use Prim.Native.Nat.{ℕ, ◌-◌, ◌≤◌, ◌<◌}
use native.Mathlib.Omega.{arith}
use borrow.Author.Tests.{lt-ltb, le-ltb}
use Rattle.words.specs.First.{first_from_of, first_round}
use Rattle.words.proofs.FirstLaws.{round_up, round-low, round-end, round_same}
use Rattle.window.specs.declared.AdaptiveReceiverPacketWindow.{AdaptiveReceiverPacketWindow}
use Rattle.window.specs.Memory.{memory, page_count_of}
use Rattle.model.specs.Window.{decode, is_retired}
use Rattle.model.specs.Pages.{holds_value}
use Rattle.model.specs.Steps.{next_retired_of}
use Rattle.model.specs.Sound.{Sound}
use Rattle.block_search.specs.declared.Select.TheVariants.{Retired}
use Rattle.block_search.specs.Search.{is_selected}
use Rattle.block_search.proofs.SearchLaws.{selected-retired}
use Rattle.release_visit.specs.Promises.{FindsRetired}

module _ (h : AdaptiveReceiverPacketWindow) (blocks : List ℕ) where
  abbrev selected : ℕ → Bool
  selected = is_selected blocks h.nonempty_summary h.retired_blocks Retired

  abbrev cursor : ℕ
  cursor = h.release_cursor

  -- the masks of a sound window select the model's pages
  round-next : (ss vs pages : List ℕ) → Sound (decode h (memory ss vs pages blocks))
      → first_round selected (page_count_of h.window_size) cursor ≡ next_retired_of (decode h (memory ss vs pages blocks))
  unfolding decode next_retired_of
  round-next ss vs pages ok =
      let m = memory ss vs pages blocks in
      round_same selected (λ (g : ℕ). is_retired (decode h m) g && holds_value ((decode h m).pages g)) (page_count_of h.window_size) cursor (omega (arith, ok.cursor))
      (λ g l. selected-retired h m ok g l)

  module _ (end : ℕ) (e : end ≡ page_count_of h.window_size) where
    -- a search round that gives r
    finds : (r : Option ℕ) → IfSome r (λ g. g < end) → first_round selected end cursor ≡ unwrap_or r end → FindsRetired h blocks r
    finds r l i = record {
      bounded = subst (λ (n : ℕ). IfSome r (λ g. g < n)) e l;
      gives = λ ss vs pages ok. ap (unwrap_or r) (sym e) ∙ sym i ∙ (λ j. first_round selected (e j) cursor) ∙ round-next ss vs pages ok;
    }

    -- a cursor past the last page, which a sound window has not
    pub finds_past : end ≤ cursor → FindsRetired h blocks None
    unfolding decode
    finds_past l = record { bounded = tt; gives = λ ss vs pages ok. absurd (omega (arith, ok.cursor)) }

    module _ (inside : cursor < end) where
      pub finds-up : (up : ℕ) → up ≡ first_from_of selected (end - cursor) cursor → up < end → FindsRetired h blocks (Some up)
      finds-up up a l = finds (Some up) l (round_up selected end cursor (lt-ltb _ end (omega (arith, a))) ∙ sym a)

      -- none from the cursor upwards, and then those below it
      pub finds-low : end ≡ first_from_of selected (end - cursor) cursor → (low : Option ℕ) → unwrap_or low cursor ≡ first_from_of selected (cursor - 0) 0
          → IfSome low (λ g. g < cursor) → FindsRetired h blocks low
      finds-low a (Some g) b l =
          let z : cursor - 0 ≡ cursor = omega arith in
          let is : g ≡ first_from_of selected cursor 0 = b ∙ (λ j. first_from_of selected (z j) 0) in
          finds (Some g) (omega (arith, l))
          (round-low selected end cursor (le-ltb (first_from_of selected (end - cursor) cursor) end (omega (arith, a))) (lt-ltb (first_from_of selected cursor 0) cursor (omega (arith, is, l))) ∙ sym is)
      finds-low a None b l =
          let z : cursor - 0 ≡ cursor = omega arith in
          let is : cursor ≡ first_from_of selected cursor 0 = b ∙ (λ j. first_from_of selected (z j) 0) in
          finds None tt
          (round-end selected end cursor (le-ltb (first_from_of selected (end - cursor) cursor) end (omega (arith, a))) (le-ltb (first_from_of selected cursor 0) cursor (omega (arith, is))))
