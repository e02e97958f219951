-- How many values retiring returns, on any window: at most 64 from a page, 126 from a stretch and 128 from a range. Assumes nothing.
use mathlib.Core.Path.{◌≡◌, ap}
use mathlib.Core.Bool.{Bool, false, not, ◌&&◌, ◌||◌}
use mathlib.Core.List.{[], ◌++◌}
use Prim.Native.Nat.{ℕ, zero, suc, ◌+◌, ◌-◌, ◌*◌, ◌/◌, ◌%◌, ◌≤◌, ◌<◌, max}
use native.Mathlib.Omega.{arith}
use lib.Dec.{leb, ltb, eqb}
use lib.ListN.{length, length-append}
use borrow.Author.Tests.{eqb-false, lt-leb, le-ltb}
use Rattle.words.proofs.CaseLaws.{bool}
use Rattle.words.specs.Word.{is_set}
use Rattle.window.proofs.MemoryLaws.{capacity-pages}
use Rattle.model.specs.Table.{within}
use Rattle.model.specs.Window.{Page, Window, capacity_of, cell_of, is_retired}
use Rattle.model.specs.Pages.{holds_value, take_cell_of, drain_page, PageDrained}
use Rattle.model.specs.Steps.{Returned, returned_by, remove_slots_of, retire_pages_of, retire_stretch, retire_range_of}
use Rattle.page_remove.proofs.DrainLaws.{drain-span}
use Rattle.laws_soundness.proofs.PageLaws.{cond-holds}
use Rattle.laws_soundness.specs.Retire.{inside_page, first_page, last_page}

-- at most n values are returned
abbrev Few : ℕ → Returned → Type 0
Few n r = length r.out ≤ n

-- ---- a page

-- at most one value for each position
drain-few : (P : ℕ → Bool) (m j k : ℕ) (p : Page) → length (drain_page m j P k p).out ≤ m
unfolding drain_page
drain-few P zero j k p = omega arith
drain-few P (suc m) j zero p = omega arith
drain-few P (suc m) j (suc k) p =
    bool (P j && is_set p.occupied j)
    (λ e. rw (e, drain_page) (omega (arith, drain-few P m (suc j) k (take_cell_of p (cell_of p j)))))
    (λ e. rw (e, drain_page) (omega (arith, drain-few P m (suc j) (suc k) p)))

-- only the positions from a up to e are taken out
pub slots-few : (w : Window) (g : ℕ) (P : ℕ → Bool) (a e : ℕ) → a ≤ e → e ≤ 64 → ((i : ℕ) → i < a → P i ≡ false) → ((i : ℕ) → e ≤ i → i < 64 → P i ≡ false)
    → length (remove_slots_of w g P).out ≤ e - a
unfolding remove_slots_of
slots-few w g P a e l m low high =
    bool (is_retired w g || not (holds_value (w.pages g)))
    (λ t. rw t (omega arith))
    (λ t. rw t (omega (arith, ap (λ (d : PageDrained). length d.out) (drain-span P a e 64 (w.pages g) l m low high), drain-few P (e - a) a 64 (w.pages g))))

pub page-few : (w : Window) (g : ℕ) (P : ℕ → Bool) → length (remove_slots_of w g P).out ≤ 64
page-few w g P = slots-few w g P 0 64 (omega arith) (omega arith) (λ i l. absurd (omega arith)) (λ i l m. absurd (omega arith))

-- ---- a stretch

module _ (w : Window) where
  first-few : (a : ℕ) → length (first_page w a).out ≤ (64 - a % 64) % 64
  first-few a =
      let P : ℕ → Bool = λ j. leb (a % 64) j in
      cond-holds (Few ((64 - a % 64) % 64)) (returned_by w []) (remove_slots_of w (a / 64) P) (eqb (a % 64) 0)
      (λ t. omega arith)
      (λ t. omega (
        arith,
        eqb-false (a % 64) 0 t,
        slots-few w (a / 64) P (a % 64) 64 (omega arith) (omega arith) (λ i l. lt-leb (a % 64) i l) (λ i l m. absurd (omega arith)),
      ))

  last-few : (e : ℕ) → length (last_page w e).out ≤ e % 64
  last-few e =
      let P : ℕ → Bool = λ j. ltb j (e % 64) in
      cond-holds (Few (e % 64)) (returned_by w []) (remove_slots_of w (e / 64) P) (eqb (e % 64) 0)
      (λ t. omega arith)
      (λ t. omega (arith, slots-few w (e / 64) P 0 (e % 64) (omega arith) (omega arith) (λ i l. absurd (omega arith)) (λ i l m. le-ltb i (e % 64) l)))

-- what lies inside one page, or the two partial pages
pub stretch-few : (w : Window) (a e : ℕ) → length (retire_stretch w a e).out ≤ max 64 ((64 - a % 64) % 64 + e % 64)
unfolding retire_stretch
stretch-few w a e =
    let u = first_page w a in
    let v = last_page u.after e in
    cond-holds (Few (max 64 ((64 - a % 64) % 64 + e % 64))) (inside_page w a e) (returned_by (retire_pages_of v.after ((a + 63) / 64) (e / 64)) (u.out ++ v.out)) (eqb (a / 64) ((e - 1) / 64))
    (λ t. omega (arith, page-few w (a / 64) (λ (j : ℕ). within a e (a / 64 * 64 + j))))
    (λ t. omega (arith, length-append u.out v.out, first-few w a, last-few u.after e))

-- any stretch; one that begins or ends with a whole page
pub stretch-few-any : (w : Window) (a e : ℕ) → length (retire_stretch w a e).out ≤ 126
stretch-few-any w a e = omega (arith, stretch-few w a e)

pub stretch-few-begin : (w : Window) (a e : ℕ) → a % 64 ≡ 0 → length (retire_stretch w a e).out ≤ 64
stretch-few-begin w a e z = omega (arith, stretch-few w a e)

pub stretch-few-end : (w : Window) (a e : ℕ) → e % 64 ≡ 0 → length (retire_stretch w a e).out ≤ 64
stretch-few-end w a e z = omega (arith, stretch-few w a e)

-- ---- a range

pub range-few : (w : Window) (start count : ℕ) → length (retire_range_of w start count).out ≤ 128
unfolding retire_range_of
range-few w start count =
    let u = retire_stretch w start (capacity_of w) in
    let e = start + count - capacity_of w in
    let v = retire_stretch u.after 0 e in
    let z : capacity_of w % 64 ≡ 0 = omega (arith, capacity-pages w.header.window_size) in
    cond-holds (Few 128) (retire_stretch w start (start + count)) (returned_by v.after (u.out ++ v.out)) (leb (start + count) (capacity_of w))
    (λ t. omega (arith, stretch-few-any w start (start + count)))
    (λ t. omega (arith, length-append u.out v.out, stretch-few-end w start (capacity_of w) z, stretch-few-begin u.after 0 e (omega arith)))
