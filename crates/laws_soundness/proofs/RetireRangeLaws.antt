-- Pages, stretches and ranges retired, and everything retired. Each leaves a window that is proper once its block marks drop, if
-- nothing is retired then. Assumes nothing.
use mathlib.Core.Path.{◌≡◌, refl, sym, ap, ◌∙◌}
use mathlib.Core.Bool.{Bool, true, cond, not, ◌&&◌, true≢false}
use mathlib.Core.Logic.{inl}
use mathlib.Core.List.{[], ◌++◌}
use Prim.Native.Nat.{ℕ, zero, suc, ◌+◌, ◌-◌, ◌*◌, ◌/◌, ◌%◌, ◌≤◌, ◌<◌}
use native.Mathlib.Omega.{arith}
use native.Mathlib.Decide.{dec_lt}
use lib.Dec.{leb, ltb, eqb}
use borrow.Author.Tests.{eq-eqb, eqb-false, leb-true, leb-false, lt-ltb}
use Rattle.words.proofs.CaseLaws.{bool}
use Rattle.words.specs.Word.{span}
use Rattle.words.proofs.SpanLaws.{span-in, span-above}
use Rattle.window.proofs.MemoryLaws.{capacity-pages}
use Rattle.model.specs.Table.{sum}
use Rattle.model.specs.Window.{Page, Window, window, capacity_of, pages_of, blocks_of, is_retired}
use Rattle.model.specs.Steps.{set_len, set_held, set_retired_blocks, set_live, drop_block_marks, Returned, returned_by, remove_slots_of, retire_in_block, retire_block_of, covers_block, retire_blocks_of, retire_pages_of, retire_stretch, retire_range_of, retire_all_of}
use Rattle.model.specs.Sound.{live_in}
use Rattle.laws_soundness.specs.Change.{Limits, Proper, SameLimits}
use Rattle.laws_soundness.proofs.SumLaws.{sum-none}
use Rattle.laws_soundness.proofs.PageLaws.{cond-holds, retired-counts, marks-in}
use Rattle.laws_soundness.proofs.LimitLaws.{next-limits, first-limits, stretch-limits}
use Rattle.laws_soundness.specs.Retire.{Retiring, Retires, retire_next, inside_page, first_page, last_page}
use Rattle.laws_soundness.proofs.RetireLaws.{same_total, proper-retiring, retiring-drop, retires-retiring}
use Rattle.laws_soundness.proofs.RetireSlotLaws.{retiring-slots}
use Rattle.laws_soundness.proofs.RetireBlockLaws.{retiring-in-block, retiring-block}

pub same_size : (w v : Window) → SameLimits w v → v.header.window_size ≡ w.header.window_size
same_size w v e = ap (λ (l : Limits). l.size) e

-- ---- whole pages

module _ (from to : ℕ) (several : Bool) where
  pub retiring-next : (w : Window) (b : ℕ) → Retiring w → b < blocks_of w → Retiring (retire_next w b from to several)
  retiring-next w b ok l =
      cond-holds Retiring (cond (several && covers_block from to b) (retire_block_of w b) (retire_in_block w from to b)) w (ltb from (64 * b + 64) && ltb (64 * b) to)
      (λ t. cond-holds Retiring (retire_block_of w b) (retire_in_block w from to b) (several && covers_block from to b) (λ s. retiring-block w b ok l) (λ s. retiring-in-block w from to b ok l))
      (λ t. ok)

  pub retiring-blocks : (n b : ℕ) (w : Window) → Retiring w → b + n ≤ blocks_of w → Retiring (retire_blocks_of n b w from to several)
  unfolding retire_blocks_of
  retiring-blocks zero b w ok l = ok
  retiring-blocks (suc n) b w ok l =
      let v = retire_next w b from to several in
      let k : suc b + n ≤ blocks_of v = rw (same_size w v (next-limits w b from to several)) (omega arith) in
      retiring-blocks n (suc b) v (retiring-next w b ok (omega arith)) k

pub retiring-pages : (w : Window) (from to : ℕ) → Retiring w → Retiring (retire_pages_of w from to)
unfolding retire_pages_of
retiring-pages w from to ok =
    let several = not (eqb (from / 64) ((to - 1) / 64)) in
    cond-holds Retiring (retire_blocks_of (blocks_of w) 0 w from to several) w (ltb from to) (λ t. retiring-blocks from to several (blocks_of w) 0 w ok (omega arith)) (λ t. ok)

-- ---- a stretch

module _ (w : Window) (ok : Retiring w) where
  -- a page with positions below the capacity
  page-below : (a : ℕ) → a < capacity_of w → a / 64 < pages_of w
  page-below a l = omega (arith, capacity-pages w.header.window_size)

  pub retiring-first : (a : ℕ) → a < capacity_of w → Retiring (first_page w a).after
  retiring-first a l =
      cond-holds (λ (r : Returned). Retiring r.after) (returned_by w []) (remove_slots_of w (a / 64) (λ (j : ℕ). leb (a % 64) j)) (eqb (a % 64) 0)
      (λ t. ok)
      (λ t. retiring-slots w (a / 64) (λ (j : ℕ). leb (a % 64) j) ok (page-below a l))

  pub retiring-last : (e : ℕ) → e ≤ capacity_of w → Retiring (last_page w e).after
  retiring-last e l =
      cond-holds (λ (r : Returned). Retiring r.after) (returned_by w []) (remove_slots_of w (e / 64) (λ (j : ℕ). ltb j (e % 64))) (eqb (e % 64) 0)
      (λ t. ok)
      (λ t. retiring-slots w (e / 64) (λ (j : ℕ). ltb j (e % 64)) ok (omega (arith, eqb-false (e % 64) 0 t, capacity-pages w.header.window_size)))

pub retiring-stretch : (w : Window) (a e : ℕ) → Retiring w → a < e → e ≤ capacity_of w → Retiring (retire_stretch w a e).after
unfolding retire_stretch
retiring-stretch w a e ok l m =
    let u = first_page w a in
    let v = last_page u.after e in
    let k : e ≤ capacity_of u.after = rw (same_size w u.after (first-limits w a)) m in
    cond-holds (λ (r : Returned). Retiring r.after) (inside_page w a e) (returned_by (retire_pages_of v.after ((a + 63) / 64) (e / 64)) (u.out ++ v.out)) (eqb (a / 64) ((e - 1) / 64))
    (λ t. retiring-slots w (a / 64) _ ok (page-below w ok a (omega arith)))
    (λ t. retiring-pages v.after ((a + 63) / 64) (e / 64) (retiring-last u.after (retiring-first w ok a (omega arith)) e k))

-- ---- a range

pub retiring-range : (w : Window) (start count : ℕ) → Retiring w → start < capacity_of w → 0 < count → count ≤ capacity_of w → Retiring (retire_range_of w start count).after
unfolding retire_range_of
retiring-range w start count ok l some few =
    let u = retire_stretch w start (capacity_of w) in
    let e = start + count - capacity_of w in
    let v = retire_stretch u.after 0 e in
    let k : e ≤ capacity_of u.after = rw (same_size w u.after (stretch-limits w start (capacity_of w))) (omega arith) in
    cond-holds (λ (r : Returned). Retiring r.after) (retire_stretch w start (start + count)) (returned_by v.after (u.out ++ v.out)) (leb (start + count) (capacity_of w))
    (λ t. retiring-stretch w start (start + count) ok (omega arith) (leb-true (start + count) (capacity_of w) t))
    (λ t. retiring-stretch u.after 0 e (retiring-stretch w start (capacity_of w) ok l (omega arith)) (omega (arith, leb-false (start + count) (capacity_of w) t)) k)

-- the block marks drop at the end of the release that follows, unless a value is retired then
pub proper-range : (w : Window) (start count : ℕ) → Proper w → start < capacity_of w → 0 < count → count ≤ capacity_of w → Proper (drop_block_marks (retire_range_of w start count).after)
proper-range w start count ok l some few = retiring-drop (retire_range_of w start count).after (retiring-range w start count (proper-retiring w ok) l some few)

-- ---- everything

module _ (w : Window) (ok : Proper w) where
  abbrev pub everything : Window
  everything =
      window
      (set_retired_blocks (set_held (set_len w.header 0) (w.header.retired_held + w.header.len)) (span 0 (blocks_of w)))
      w.pages
      (λ (b : ℕ). cond (ltb b (blocks_of w)) (set_live (w.blocks b) 0) (w.blocks b))

  same-words : (b : ℕ) → ((everything.blocks b).nonempty ≡ (w.blocks b).nonempty) × ((everything.blocks b).retired ≡ (w.blocks b).retired)
  same-words b = bool (ltb b (blocks_of w)) (λ e. (rw e, rw e)) (λ e. (rw e, rw e))

  pub all-retired : (h : ℕ) → h / 64 < blocks_of w → is_retired everything h ≡ true
  all-retired h l = rw (eq-eqb _ 1 (span-in 0 (blocks_of w) (h / 64) (omega arith) l))

  none-live : (h : ℕ) → h / 64 < blocks_of w → live_in everything h ≡ 0
  none-live h l = (retired-counts everything h (all-retired h l)).0

  all_live : sum (pages_of w) (live_in everything) ≡ 0
  all_live = sum-none (pages_of w) (live_in everything) (λ h l. none-live h (omega arith))

  pub all-retires : Retires w everything
  all-retires = record {
    header = refl;
    pages = refl;
    nonempty = λ b. (same-words b).0;
    status = λ h r. elim (dec_lt h (pages_of w)) [
      | yes l ↦ absurd (true≢false (sym (all-retired h (omega arith)) ∙ r))
      | no l ↦ inl (ap (λ (p : Page). p.occupied) (ok.past h (omega arith)))
    ];
    marks = λ b i l. rw (same-words b).1 (marks-in w ok.sound b i l);
    marks_fit = λ b. rw (same-words b).1 (ok.sound.retired_fits b);
    block_bits = λ b l. span-above 0 (blocks_of w) b l;
    live = λ b l. rw (lt-ltb b (blocks_of w) l) (sym (sum-none 64 (λ (i : ℕ). live_in everything (64 * b + i)) (λ i k. none-live (64 * b + i) (omega arith))));
    len = sym all_live;
    held = omega (arith, all_live, same_total w everything refl (pages_of w), ok.sound.len, ok.sound.held);
  }

  pub proper-all : Proper (retire_all_of w)
  unfolding retire_all_of
  proper-all = retiring-drop everything (retires-retiring w everything ok all-retires)

-- no value is live then
pub all-len : (w : Window) → (retire_all_of w).header.len ≡ 0
unfolding retire_all_of
all-len w = bool (eqb (w.header.retired_held + w.header.len) 0) (λ e. rw e) (λ e. rw e)
