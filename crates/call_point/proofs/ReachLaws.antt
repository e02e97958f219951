-- The page of a sequence, over plain variables: inside the lists, and live or retired as `reachable` says. Assumes nothing.
use mathlib.Core.Path.{◌≡◌, refl, sym, ap, ◌∙◌, subst}
use mathlib.Core.Bool.{Bool, true, false, true≢false}
use mathlib.Core.Option.{none}
use mathlib.Core.List.{[]}
use Prim.Native.Nat.{ℕ, ◌+◌, ◌*◌, ◌/◌, ◌%◌, ◌≤◌, ◌<◌}
use native.Mathlib.Omega.{arith}
use lib.ListN.{length}
use Rattle.std.specs.Prelude.{Ok}
use Rattle.window.specs.declared.AdaptiveReceiverPacketWindow.{AdaptiveReceiverPacketWindow}
use Rattle.window.specs.declared.answers.Answer.TheVariants.{Absent}
use Rattle.window.specs.declared.answers.Step.{Step}
use Rattle.window.specs.Memory.{Memory, position, page_count_of, words_per_page, words_per_block}
use Rattle.window.proofs.MemoryLaws.{position-slot}
use Rattle.window.specs.Refusals.{Fits}
use Rattle.model.specs.Calls as model
use Rattle.model.specs.Calls.{Call, absent}
use Rattle.model.specs.Window.{Page, decode, live_at, stands_at}
use Rattle.model.specs.Steps.{effect, window_does}
use Rattle.model.specs.Sound.{Sound}
use Rattle.page_base.specs.Page.{words_at, part_of, page}
use Rattle.page_base.proofs.LiveLaws.{live-none, live-is}
use Rattle.call_base.specs.Answers.{replied, state_of, left_of}
use Rattle.call_base.specs.Promises.{Reachable, Admitted}
use Rattle.call_base.proofs.FitLaws.{PageBounds, sequence-bounds}
use Rattle.call_base.proofs.ReachLaws.{unreachable, is-reachable}
use Rattle.call_point.proofs.WrittenLaws.{FitsIn, same-only, page-admitted}

-- ---- whether an answer is a refusal

abbrev pub is_refusal : model.Answer → Bool
is_refusal model.done = false
is_refusal model.new = false
is_refusal (model.replaced v) = false
is_refusal model.absent = false
is_refusal (model.found n) = false
is_refusal (model.pair s v next reads) = false
is_refusal (model.ended reads) = false
is_refusal (model.released values units) = false
is_refusal (model.refused k) = true

-- ---- p is the position of sequence s

-- its page, and the page's words and block, in lists of these lengths
pub record InLists (g n sequences values pages blocks : ℕ) : Type 0 where
  pub page-fits : g < 1024
  pub in-sequences : 64 * g + 64 ≤ sequences
  pub in-values : 64 * g + 64 ≤ values
  pub in-pages : words_per_page * g + words_per_page ≤ pages
  pub in_blocks : words_per_block * (g / 64) + words_per_block ≤ blocks
  pub cells : (0 < n) × (n < 64)

pub in-lists : (h : AdaptiveReceiverPacketWindow) (a b c d s p : ℕ) → Fits h a b c d → p ≡ position h.window_size s → InLists (p / 64) h.n a b c d
in-lists h a b c d s p fit e =
    let q : PageBounds h.window_size (p / 64) = rw e (sequence-bounds h.window_size s) in
    record {
      page-fits = q.page-fits;
      in-sequences = omega (arith, q.cells, fit.long.sequences_long);
      in-values = omega (arith, q.cells, fit.long.values_long);
      in-pages = omega (arith, q.words, fit.long.pages_long);
      in_blocks = omega (arith, q.block_words, fit.long.blocks_long);
      cells = (omega (arith, fit.within.n_low), omega (arith, fit.within.n_high));
    }

-- ---- k is what `reachable` says of the page

module _ (h : AdaptiveReceiverPacketWindow) (m : Memory) (fit : FitsIn h m) (s p : ℕ) (k : Bool)
    (e : p ≡ position h.window_size s) (reach : Reachable h m.blocks (p / 64) k) where
  abbrev here : Page
  here = page (words_at m.pages (p / 64)) (part_of (p / 64) m.sequences) (part_of (p / 64) m.values)

  pub below : p / 64 < page_count_of h.window_size
  below = rw e (sequence-bounds h.window_size s).page

  pub inside : InLists (p / 64) h.n (length m.sequences) (length m.values) (length m.pages) (length m.blocks)
  inside = in-lists h _ _ _ _ s p fit e

  slot : p % 64 ≡ s % 64
  slot = ap (λ (x : ℕ). x % 64) e ∙ position-slot h.window_size s

  -- nothing is found on a retired page
  pub gone : k ≡ false → Sound (decode h m) → live_at (decode h m) (position h.window_size s) ≡ none
  gone z ok = ap (live_at (decode h m)) (sym e) ∙ live-none h m p (unreachable h m ok (p / 64) below k reach z)

  -- on a live one it is what stands there
  pub there : k ≡ true → Sound (decode h m)
      → live_at (decode h m) (position h.window_size s) ≡ stands_at (page (words_at m.pages (p / 64)) (part_of (p / 64) m.sequences) (part_of (p / 64) m.values)) (s % 64)
  there n ok = ap (live_at (decode h m)) (sym e) ∙ live-is h m p below (is-reachable h m ok (p / 64) below k reach n) ∙ ap (stands_at here) slot

  -- a call that finds nothing
  pub absent-admitted : (c : Call) (r : Step) → r ≡ replied h (Ok Absent) → (Sound (decode h m) → effect (decode h m) absent [] ≡ window_does (decode h m) c)
      → Admitted c (state_of h m) [] (left_of r m [])
  absent-admitted c r q does =
      subst (λ (y : Step). Admitted c (state_of h m) [] (left_of y m [])) (sym q)
      (page-admitted h m m fit (p / 64) below (same-only (p / 64) m inside.in-sequences inside.in-values) c (replied h (Ok Absent)) refl
      (λ a. true≢false (sym (ap is_refusal a))) does)
