-- On a sound window the sequences that are seen live are the live ones. Assumes nothing.
use mathlib.Core.Path.{◌≡◌, sym, ap, ◌∙◌}
use mathlib.Core.Bool.{Bool, not, ◌&&◌, true≢false}
use mathlib.Core.List.{List}
use Prim.Native.Nat.{ℕ, ◌+◌, ◌*◌, ◌/◌, ◌%◌, ◌≤◌, ◌<◌}
use native.Mathlib.Omega.{arith}
use native.Mathlib.Decide.{ℕ_discrete}
use lib.Dec.{eqb}
use borrow.Author.Tests.{eq-eqb, ne_eqb}
use Rattle.words.proofs.CaseLaws.{bool}
use Rattle.words.specs.Word.{bit_at}
use Rattle.window.specs.declared.AdaptiveReceiverPacketWindow.{AdaptiveReceiverPacketWindow}
use Rattle.window.specs.Memory.{Memory, position}
use Rattle.window.proofs.MemoryLaws.{position-slot}
use Rattle.model.specs.Table.{finds}
use Rattle.model.specs.Point.{is_live}
use Rattle.model.specs.Window.{decode, is_retired, live_at, stands_at}
use Rattle.model.specs.Sound.{Sound}
use Rattle.page_base.specs.declared.PageWords.{PageWords}
use Rattle.page_base.specs.Page.{words_at, part_of, page, Placed}
use Rattle.page_base.proofs.PlaceLaws.{few-cells}
use Rattle.page_base.proofs.LiveLaws.{page-placed, live-none, live-is}
use Rattle.call_base.proofs.FitLaws.{sequence-bounds}
use Rattle.call_base.proofs.ReachLaws.{reached-live}
use Rattle.acknowledge.specs.Promises.{cells_for}
use Rattle.acknowledge.proofs.RunLaws.{stands, stands-not}
use Rattle.loss_stretch.specs.Promises.{holds_in, seen_live}
use Rattle.loss_stretch.proofs.RowLaws.{holds-cell, cell_holds}

-- ---- one page

module _ (n : ℕ) (w : PageWords) (ss vs : List ℕ) (ok : Placed n (page w ss vs)) (few : n ≤ 64) (s : ℕ) where
  -- a page uses only the cells that one of its kind may use
  used-few : (c : ℕ) → c < 64 → bit_at w.filled c ≡ 1 → c < cells_for n w
  used-few c l u = elim (ℕ_discrete w.kind 2) [
    | yes k ↦ rw (eq-eqb w.kind 2 k) l
    | no k ↦ rw (ne_eqb w.kind 2 k) (few-cells n (page w ss vs) ok k c l u)
  ]

  cells-few : cells_for n w ≤ 64
  cells-few = bool (eqb w.kind 2) (λ e. rw e (omega arith)) (λ e. rw e few)

  own : 64 * (s / 64) + s % 64 ≡ s
  own = omega arith

  page-holds : holds_in ss w.filled (cells_for n w) s ≡ finds s (stands_at (page w ss vs) (s % 64))
  page-holds = bool (holds_in ss w.filled (cells_for n w) s)
      (λ t.
      let x = cell_holds ss w.filled (cells_for n w) s t in
      t ∙ sym (ap (λ (y : ℕ). finds y (stands_at (page w ss vs) (s % 64))) (sym own)
      ∙ stands n w ss vs ok (s / 64) x.0 (s % 64) (omega (arith, x.1, cells-few)) (x.2, ap (λ (y : ℕ). y / 64) x.3) (ap (λ (y : ℕ). y % 64) x.3)))
      (λ t.
      t ∙ sym (ap (λ (y : ℕ). finds y (stands_at (page w ss vs) (s % 64))) (sym own)
      ∙ stands-not n w ss vs ok (s / 64) (s % 64) (omega arith) (λ c l i e.
      true≢false (sym (holds-cell ss w.filled (cells_for n w) s c (used-few c l i.0) i.0 (omega (arith, i.1, e))) ∙ t))))

-- ---- the window

pub seen-live : (h : AdaptiveReceiverPacketWindow) (m : Memory) → Sound (decode h m) → (s : ℕ)
    → seen_live h m.sequences m.pages m.blocks s ≡ is_live h.window_size (live_at (decode h m)) s
unfolding seen_live decode
seen-live h m ok s =
    let p = position h.window_size s in
    let g = p / 64 in
    let below = (sequence-bounds h.window_size s).page in
    let w = words_at m.pages g in
    let holds = holds_in (part_of g m.sequences) w.filled (cells_for h.n w) s in
    ap (λ (b : Bool). b && holds) (reached-live h m ok g below)
    ∙ bool (is_retired (decode h m) g)
    (λ r. ap (λ (b : Bool). not b && holds) r ∙ sym (ap (finds s) (live-none h m p r)))
    (λ r. ap (λ (b : Bool). not b && holds) r
    ∙ page-holds h.n w (part_of g m.sequences) (part_of g m.values) (page-placed h m ok g below) (omega (arith, ok.within.n_high)) s
    ∙ sym (ap (finds s) (live-is h m p below r ∙ ap (stands_at (page w (part_of g m.sequences) (part_of g m.values))) (position-slot h.window_size s))))
