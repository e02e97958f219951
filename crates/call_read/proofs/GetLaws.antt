-- get, over plain variables: what a page gives is what stands at the sequence's position. Assumes nothing.
use Rattle.std.proofs.Common.{◌≡◌, ℕ, ◌/◌, ◌%◌, ◌<◌, Bool, true, false, List, sym, ap, ◌∙◌, subst}
use Rattle.std.specs.Prelude.{Option as Maybe}
use mathlib.Core.Option.{Option}
use Rattle.window.specs.declared.AdaptiveReceiverPacketWindow.{AdaptiveReceiverPacketWindow}
use Rattle.window.specs.Memory.{Memory, memory, page_count_of, position}
use Rattle.window.proofs.MemoryLaws.{position-slot}
use Rattle.model.specs.Calls.{get, absent}
use Rattle.model.specs.Table.{Pair, value_if}
use Rattle.model.specs.Window.{decode, live_at, stands_at}
use Rattle.model.specs.Steps.{window_answer}
use Rattle.model.specs.Sound.{Sound}
use Rattle.page_base.specs.declared.PageWords.{PageWords}
use Rattle.page_base.specs.Page.{words_at, part_of, page, Placed}
use Rattle.page_base.specs.Promises.{read_answer_of, read_of, Reads}
use Rattle.page_base.proofs.PartLaws.{part_length}
use Rattle.page_base.proofs.LiveLaws.{page-placed, live-none, live-is}
use Rattle.call_base.specs.Promises.{Reachable}
use Rattle.call_base.proofs.FitLaws.{sequence-bounds}
use Rattle.call_base.proofs.ReachLaws.{unreachable, is-reachable}

-- p is the sequence's position, r is what `reachable` says of its page
module _ (h : AdaptiveReceiverPacketWindow) (ss vs pages blocks : List ℕ) (s p : ℕ) (r : Bool)
    (e : p ≡ position h.window_size s) (reach : Reachable h blocks (p / 64) r) where
  abbrev m : Memory
  m = memory ss vs pages blocks

  below : p / 64 < page_count_of h.window_size
  below = rw e (sequence-bounds h.window_size s).page

  slot : p % 64 ≡ s % 64
  slot = ap (λ (x : ℕ). x % 64) e ∙ position-slot h.window_size s

  pub get_absent : r ≡ false → Sound (decode h (memory ss vs pages blocks)) → absent ≡ window_answer (decode h (memory ss vs pages blocks)) (get s)
  unfolding decode
  get_absent z ok = ap (λ (o : Option Pair). value_if s o) (sym (live-none h m p (unreachable h m ok (p / 64) below r reach z))) ∙ ap (λ (q : ℕ). value_if s (live_at (decode h m) q)) e

  -- x is what the page gave, read by its words and its parts of the lists
  pub get-read : r ≡ true → (w : PageWords) (cs ds : List ℕ) (x : Maybe ℕ) → w ≡ words_at pages (p / 64) → cs ≡ part_of (p / 64) ss → ds ≡ part_of (p / 64) vs
      → Reads h.n w cs ds s x → Sound (decode h (memory ss vs pages blocks)) → read_answer_of x ≡ window_answer (decode h (memory ss vs pages blocks)) (get s)
  unfolding decode
  get-read n w cs ds x ew ec ed t ok =
      let g = p / 64 in
      let live = live-is h m p below (is-reachable h m ok g below r reach n) in
      t.answer (subst (Placed h.n) (sym (λ i. page (ew i) (ec i) (ed i))) (page-placed h m ok g below))
      ∙ (λ i. read_of (page (ew i) (ec i) (ed i)) s)
      ∙ ap (λ (j : ℕ). value_if s (stands_at (page (words_at pages g) (part_of g ss) (part_of g vs)) j)) (sym slot)
      ∙ ap (λ (o : Option Pair). value_if s o) (sym live)
      ∙ ap (λ (q : ℕ). value_if s (live_at (decode h m) q)) e

-- what the tactics know of the page of a sequence's position
pub ruleset reading = (sequence-bounds, part_length, get_absent, get-read)
