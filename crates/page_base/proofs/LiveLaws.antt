-- What is live at a position of a window read from the lent lists, by its page; on a sound window a pair stands at its sequence's
-- position, and its sequence has 31 bits. Assumes nothing.
use mathlib.Core.Path.{◌≡◌, ap, subst}
use mathlib.Core.Bool.{true, false}
use mathlib.Core.Option.{Option, none, some}
use Prim.Native.Nat.{ℕ, ◌/◌, ◌%◌, ◌^◌, ◌<◌}
use native.Mathlib.Omega.{arith}
use lib.Dec.{ltb}
use borrow.Author.Tests.{ltb-true}
use Rattle.words.proofs.CaseLaws.{bool}
use Rattle.window.specs.declared.AdaptiveReceiverPacketWindow.{AdaptiveReceiverPacketWindow}
use Rattle.window.specs.Memory.{Memory, capacity, page_count_of, position}
use Rattle.window.proofs.MemoryLaws.{capacity-pages, position-slot}
use Rattle.model.specs.Table.{Pair}
use Rattle.model.specs.Window.{Page, Window, size_of, capacity_of, pages_of, cell_of, decode, is_retired, live_at, stands_at}
use Rattle.model.specs.Sound.{Used, Sound}
use Rattle.page_base.specs.Page.{words_at, part_of, page, Placed}
use Rattle.page_base.proofs.PlaceLaws.{placed, cell-used}
use Rattle.page_base.proofs.DecodeLaws.{page-at}

-- the values of page g of a sound window are in their places
pub page-placed : (h : AdaptiveReceiverPacketWindow) (m : Memory) → Sound (decode h m) → (g : ℕ) → g < page_count_of h.window_size
    → Placed h.n (page (words_at m.pages g) (part_of g m.sequences) (part_of g m.values))
unfolding decode
page-placed h m ok g l = subst (Placed h.n) (page-at h m g l) (placed h.n (capacity h.window_size) g ((decode h m).pages g) (ok.page g l))

module _ (h : AdaptiveReceiverPacketWindow) (m : Memory) (q : ℕ) where
  -- a page that is retired, and one that is not
  pub live-none : is_retired (decode h m) (q / 64) ≡ true → live_at (decode h m) q ≡ none
  live-none r = rw r

  pub live-is : q / 64 < page_count_of h.window_size → is_retired (decode h m) (q / 64) ≡ false
      → live_at (decode h m) q ≡ stands_at (page (words_at m.pages (q / 64)) (part_of (q / 64) m.sequences) (part_of (q / 64) m.values)) (q % 64)
  live-is l r = rw r (ap (λ (p : Page). stands_at p (q % 64)) (page-at h m (q / 64) l))

-- Q is true of the sequence, if there is a pair
abbrev pub Holds : (ℕ → Type 0) → Option Pair → Type 0
Holds Q none = Unit {0}
Holds Q (some e) = Q e.sequence

-- what is true of the sequences in the page's cells in use at a position is true of the live pair there
live-holds : (w : Window) (q : ℕ) (Q : ℕ → Type 0)
    → let p = w.pages (q / 64) in ((c : ℕ) → c < 64 → Used p c → p.sequences c % 64 ≡ q % 64 → Q (p.sequences c)) → Holds Q (live_at w q)
live-holds w q Q h =
    let p = w.pages (q / 64) in
    let c = cell_of p (q % 64) in
    bool (is_retired w (q / 64))
    (λ r. rw r tt)
    (λ r. rw r
    (bool (ltb c 64)
    (λ y. let m = ltb-true c 64 y in let u = cell-used p (q % 64) m in rw y (h c m u.0 u.1))
    (λ y. rw y tt)))

-- what stands at position q is a pair whose sequence has that place, if it is a pair
abbrev pub InPlace : (ℕ → ℕ) → ℕ → Option Pair → Type 0
InPlace place q = Holds (λ (s : ℕ). place s ≡ q)

module _ (w : Window) (ok : Sound w) (q : ℕ) (l : q < capacity_of w) where
  below : q / 64 < pages_of w
  below = omega (arith, l, capacity-pages (size_of w))

  pub live-in-place : InPlace (position (size_of w)) q (live_at w q)
  live-in-place = live-holds w q (λ (s : ℕ). position (size_of w) s ≡ q)
      (λ c m u e. omega (arith, e, (ok.page (q / 64) below).here c m u, position-slot (size_of w) ((w.pages (q / 64)).sequences c)))

  -- document 02, S-3: no live sequence has its top bit set
  pub live-wire : Holds (λ (s : ℕ). s < 2 ^ 31) (live_at w q)
  live-wire = live-holds w q (λ (s : ℕ). s < 2 ^ 31) (λ c m u e. (ok.page (q / 64) below).wire c m u)
