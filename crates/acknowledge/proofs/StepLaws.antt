-- The advance page by page, over plain variables: the sequences of one row of 64 have the positions of one page; what a run over a page
-- says of the sequences of its row, and how far the advance is then. Assumes nothing.
use Rattle.std.proofs.Common.{Bool, true, false, ◌≡◌, ℕ, ◌+◌, ◌-◌, ◌*◌, ◌/◌, ◌%◌, ◌<◌, ◌≤◌, List, sym, refl, ap, ◌∙◌, subst, mod-eq_of_lt, arith}
use native.Mathlib.Nat.{div-add-mod, mul-add-mod_self_left}
use Rattle.window.specs.declared.AdaptiveReceiverPacketWindow.{AdaptiveReceiverPacketWindow}
use Rattle.window.specs.Memory.{Memory, memory, capacity, page_count_of, position}
use Rattle.window.proofs.MemoryLaws.{position-slot, position-lt, capacity-pages}
use Rattle.model.specs.Table.{Table, finds, sequence_at_of}
use Rattle.model.specs.Point.{is_live}
use Rattle.model.specs.Window.{decode, live_at, stands_at}
use Rattle.model.specs.Sound.{Sound}
use Rattle.page_base.specs.declared.PageWords.{PageWords}
use Rattle.page_base.specs.Page.{words_at, part_of, page}
use Rattle.page_base.proofs.LiveLaws.{page-placed, live-none, live-is}
use Rattle.call_base.specs.Promises.{Reachable}
use Rattle.call_base.proofs.FitLaws.{sequence-bounds}
use Rattle.call_base.proofs.ReachLaws.{unreachable, is-reachable}
use Rattle.laws_acknowledge.specs.Advance.{advance}
use Rattle.laws_acknowledge.proofs.AdvanceLaws.{advance-over, advance-stop, advance-end}
use Rattle.acknowledge.specs.Promises.{Runs, LiveRun, Advances}

-- ---- positions

-- the sequences of one row of 64: consecutive positions of one page
pub row-position : (size s j : ℕ) → j < 64 → position size (64 * (s / 64) + j) ≡ 64 * (position size s / 64) + j
row-position size s j l =
    let cap = capacity size in
    let p = position size s in
    let e : 64 * (s / 64) + j ≡ cap * (s / cap) + (64 * (p / 64) + j) = omega (arith, div-add-mod s cap, position-slot size s) in
    ap (λ (x : ℕ). x % cap) e ∙ mul-add-mod_self_left cap (s / cap) (64 * (p / 64) + j)
    ∙ mod-eq_of_lt (omega (arith, capacity-pages size, position-lt size s))

-- the sequence k further on, in the row of the one at distance d
pub row-sequence : (base d k : ℕ) → sequence_at_of base d % 64 + k < 64
    → sequence_at_of base (d + k) ≡ 64 * (sequence_at_of base d / 64) + (sequence_at_of base d % 64 + k)
row-sequence base d k l = omega arith

-- ---- the page of a sequence; p is its position, r is what `reachable` says of its page

module _ (h : AdaptiveReceiverPacketWindow) (ss pages blocks : List ℕ) (s p : ℕ) (r : Bool)
    (e : p ≡ position h.window_size s) (reach : Reachable h blocks (p / 64) r) where
  abbrev m : List ℕ → Memory
  m vs = memory ss vs pages blocks

  below : p / 64 < page_count_of h.window_size
  below = rw e (sequence-bounds h.window_size s).page

  -- the position of a sequence of the row
  at_row : (j : ℕ) → j < 64 → position h.window_size (64 * (s / 64) + j) ≡ 64 * (p / 64) + j
  at_row j l = row-position h.window_size s j l ∙ ap (λ (x : ℕ). 64 * (x / 64) + j) (sym e)

  pub run-unreachable : r ≡ false → (q : ℕ) → q ≡ s % 64 → LiveRun h ss pages blocks s q
  run-unreachable z q i = record {
    from = omega arith;
    top = omega arith;
    live = λ vs ok j a b. absurd (omega arith);
    missed = λ vs ok l.
        let k : (64 * (p / 64) + q) / 64 ≡ p / 64 = omega arith in
        let f = at_row q l in
        ap (λ (x : ℕ). finds (64 * (s / 64) + q) (live_at (decode h (m vs)) x)) f
        ∙ ap (finds (64 * (s / 64) + q)) (live-none h (m vs) (64 * (p / 64) + q) (rw k (unreachable h (m vs) ok (p / 64) below r reach z)));
  }

  -- q is what the page gave, by its words and its part of the list
  pub run-reached : r ≡ true → (w : PageWords) (cs : List ℕ) (q : ℕ) → w ≡ words_at pages (p / 64) → cs ≡ part_of (p / 64) ss
      → Runs h.n w cs (s % 64) (s / 64) q → LiveRun h ss pages blocks s q
  run-reached n w cs q ew ec t =
      let u = subst (λ (x : PageWords). Runs h.n x (part_of (p / 64) ss) (s % 64) (s / 64) q) ew (subst (λ (x : List ℕ). Runs h.n w x (s % 64) (s / 64) q) ec t) in
      record {
        from = u.from;
        top = u.top;
        live = λ vs ok j a b. same vs ok j (omega (arith, u.top)) ∙ u.live (part_of (p / 64) vs) (page-placed h (m vs) ok (p / 64) below) j a b;
        missed = λ vs ok l. same vs ok q l ∙ u.missed (part_of (p / 64) vs) (page-placed h (m vs) ok (p / 64) below) l;
      }
    where
      same : (vs : List ℕ) → Sound (decode h (memory ss vs pages blocks)) → (j : ℕ) → j < 64
          → is_live h.window_size (live_at (decode h (memory ss vs pages blocks))) (64 * (s / 64) + j)
          ≡ finds (64 * (s / 64) + j) (stands_at (page (words_at pages (p / 64)) (part_of (p / 64) ss) (part_of (p / 64) vs)) j)
      same vs ok j l =
          let g = p / 64 in
          let x = 64 * (s / 64) + j in
          let k : (64 * g + j) / 64 ≡ g = omega arith in
          let i : (64 * g + j) % 64 ≡ j = omega arith in
          ap (λ (y : ℕ). finds x (live_at (decode h (m vs)) y)) (at_row j l)
          ∙ ap (finds x) (live-is h (m vs) (64 * g + j) (rw k below) (rw k (is-reachable h (m vs) ok g below r reach n)))
          ∙ (rw (k, i) refl)

-- ---- steps of the advance; `end` is what the run over the page of the sequence at distance d gave

module _ (size : ℕ) (t : Table) (base d end : ℕ) (top : end ≤ 64)
    (live : (j : ℕ) → sequence_at_of base d % 64 ≤ j → j < end → is_live size t (64 * (sequence_at_of base d / 64) + j) ≡ true) where
  abbrev s : ℕ
  s = sequence_at_of base d

  -- over the run, or a part of it
  pub step-over : (f : ℕ) → d ≤ f → f ≤ d + (end - sequence_at_of base d % 64) → f ≤ size → advance size t base d ≡ advance size t base f
  step-over f l h u = advance-over size t base d f l u (λ j a b.
      let e : d + (j - d) ≡ j = omega arith in
      let k : s % 64 + (j - d) < 64 = omega arith in
      ap (λ (x : ℕ). is_live size t (sequence_at_of base x)) (sym e) ∙ ap (is_live size t) (row-sequence base d (j - d) k)
      ∙ live (s % 64 + (j - d)) (omega arith) (omega arith))

  -- to window_size
  pub step_end : d ≤ size → size ≤ d + (end - sequence_at_of base d % 64) → advance size t base d ≡ size
  step_end l h = step-over size l h (omega arith) ∙ advance-end size t base

  -- to the end of the run, where the sequence after it is not live
  pub step-stop : d + (end - sequence_at_of base d % 64) ≤ size → sequence_at_of base d % 64 ≤ end → end < 64 → is_live size t (64 * (sequence_at_of base d / 64) + end) ≡ false
      → advance size t base d ≡ d + (end - sequence_at_of base d % 64)
  step-stop l from low missed =
      let next = d + (end - s % 64) in
      let k : s % 64 + (end - s % 64) ≡ end = omega arith in
      step-over next (omega arith) (omega arith) l
      ∙ advance-stop size t base next l (λ h.
      ap (is_live size t) (row-sequence base d (end - s % 64) (omega arith) ∙ ap (λ (x : ℕ). 64 * (s / 64) + x) k) ∙ missed)

-- ---- the loop, on every sound window with this header and these lists

-- the sequences from distance `from` up to d are live
pub record Passed (h : AdaptiveReceiverPacketWindow) (ss pages blocks : List ℕ) (base from d : ℕ) : Type 0 where
  pub least : from ≤ d
  pub most : d ≤ h.window_size
  pub same : (vs : List ℕ) → Sound (decode h (memory ss vs pages blocks))
      → advance h.window_size (live_at (decode h (memory ss vs pages blocks))) base from
      ≡ advance h.window_size (live_at (decode h (memory ss vs pages blocks))) base d

module _ (h : AdaptiveReceiverPacketWindow) (ss pages blocks : List ℕ) (base from : ℕ) where
  pub pass-none : from ≤ h.window_size → Passed h ss pages blocks base from from
  pass-none l = record { least = omega arith; most = l; same = λ vs ok. refl }

  pub pass_all : (d : ℕ) → Passed h ss pages blocks base from d → h.window_size ≤ d → Advances h ss pages blocks base from h.window_size
  pass_all d i l =
      let e : d ≡ h.window_size = omega (arith, i.most) in
      record {
        from = omega (arith, i.least, i.most);
        top = omega arith;
        is = λ vs ok. let t = live_at (decode h (memory ss vs pages blocks)) in
            sym (i.same vs ok ∙ ap (advance h.window_size t base) e ∙ advance-end h.window_size t base);
      }

  -- s is the sequence at distance d, `end` what the run over its page gave
  module _ (d s end : ℕ) (i : Passed h ss pages blocks base from d) (e : s ≡ sequence_at_of base d) (run : LiveRun h ss pages blocks s end) where
    on : LiveRun h ss pages blocks (sequence_at_of base d) end
    on = subst (λ (x : ℕ). LiveRun h ss pages blocks x end) e run

    pub pass-end : h.window_size ≤ d + (end - s % 64) → Advances h ss pages blocks base from h.window_size
    pass-end l = record {
      from = omega (arith, i.least, i.most);
      top = omega arith;
      is = λ vs ok. sym (i.same vs ok
          ∙ step_end h.window_size (live_at (decode h (memory ss vs pages blocks))) base d end on.top (on.live vs ok) i.most (rw e at l));
    }

    pub pass-stop : d + (end - s % 64) ≤ h.window_size → end < 64 → Advances h ss pages blocks base from (d + (end - s % 64))
    pass-stop l low = record {
      from = omega (arith, i.least);
      top = l;
      is = λ vs ok. ap (λ (x : ℕ). d + (end - x % 64)) e ∙ sym (i.same vs ok
          ∙ step-stop h.window_size (live_at (decode h (memory ss vs pages blocks))) base d end on.top (on.live vs ok) (rw e at l) on.from low (on.missed vs ok low));
    }

    pub pass_on : d + (end - s % 64) ≤ h.window_size → Passed h ss pages blocks base from (d + (end - s % 64))
    pass_on l = record {
      least = omega (arith, i.least);
      most = l;
      same = λ vs ok. i.same vs ok
          ∙ step-over h.window_size (live_at (decode h (memory ss vs pages blocks))) base d end on.top (on.live vs ok) (d + (end - s % 64)) (omega arith) (rw e (omega arith)) l;
    }
