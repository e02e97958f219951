-- Releases over several pages: a release visit from the cursor, and one of all pages in their order. Each keeps a window sound
-- and takes out as much as its number says. Assumes nothing.
use mathlib.Core.Path.{◌≡◌, refl, sym, ap, subst, ◌∙◌}
use mathlib.Core.Bool.{Bool, true, false, cond, ◌&&◌, true≢false}
use mathlib.Core.List.{[], ◌++◌}
use mathlib.Core.Logic.{◌⊎◌, ⊎_elim, inl, inr}
use Prim.Native.Nat.{ℕ, zero, suc, ◌+◌, ◌-◌, ◌/◌, ◌%◌, ◌≤◌, ◌<◌}
use native.Mathlib.Omega.{arith}
use native.Mathlib.Nat.{mod-lt}
use native.Mathlib.Decide.{ℕ_discrete, dec_lt, dec_le}
use lib.Dec.{ltb, eqb}
use lib.ListN.{length, length-append}
use borrow.Author.Tests.{eq-eqb, ne_eqb, le-ltb, ltb-true, ltb-false}
use Rattle.words.proofs.CaseLaws.{bool, both}
use Rattle.words.proofs.FirstLaws.{round-le, round-held, round-none}
use Rattle.words.specs.Word.{bit_at, clear_bit, count, lowest}
use Rattle.words.proofs.CountLaws.{count_none}
use Rattle.words.proofs.LowestLaws.{lowest-is, lowest-some}
use Rattle.window.specs.Memory.{page_count_of}
use Rattle.model.specs.Window.{Page, Window, capacity_of, pages_of, cell_of, is_retired}
use Rattle.model.specs.Pages.{values_in_of, holds_value, take_cell_of, unless_emptied_of, drain_page, PageDrained}
use Rattle.model.specs.Steps.{with_header, set_held, set_retired_blocks, note_nonempty, put_page, set_marks, all_positions, drop_block_marks, Returned, returned_by, release_page_of, next_retired_of, move_cursor, Release, release_of, release_units, release, release_pages_of, retire_all_of}
use Rattle.model.specs.Sound.{retired_in, Sound}
use Rattle.page_base.specs.Page.{Placed}
use Rattle.page_base.proofs.PlaceLaws.{placed, cell-some, cell-used, take-placed}
use Rattle.page_remove.proofs.StandLaws.{take_count}
use Rattle.page_remove.proofs.DrainLaws.{drain-zero, drain-first, drain-length}
use Rattle.laws_soundness.specs.Change.{Proper, Limits, SameLimits}
use Rattle.laws_soundness.proofs.SumLaws.{sum-le}
use Rattle.laws_soundness.proofs.PageLaws.{holds-some, holds-occupied, live-counts, empty-counts}
use Rattle.laws_soundness.proofs.BoundLaws.{held-some, live-some}
use Rattle.laws_soundness.proofs.LimitLaws.{release-page-limits}
use Rattle.laws_soundness.proofs.ReleaseLaws.{drain-whole, release-changes, proper-release-page, drop-same, proper-cursor}

-- ---- one page

-- the first value of a page that holds one: its cell, and the page without it
record FirstDrained (n k : ℕ) (p : Page) : Type 0 where
  cell : ℕ
  placed : Placed n (take_cell_of p cell)
  counted : count (take_cell_of p cell).occupied + 1 ≡ count p.occupied
  length-is : length (drain_page 64 0 all_positions (suc k) p).out ≡ suc (length (drain_page 64 0 all_positions k (take_cell_of p cell)).out)

first-drained : (n k : ℕ) (p : Page) → Placed n p → (p.occupied ≡ 0 → ⊥) → FirstDrained n k p
first-drained n k p ok some =
    let q = lowest p.occupied 0 in
    let m = lowest-some p.occupied ok.occupied_fits some in
    let least = lowest-is p.occupied 0 (omega arith) in
    let c = cell-some n p ok q m (least.held m) in
    let u = cell-used p q c in
    record {
      cell = cell_of p q;
      placed = take-placed n p ok (cell_of p q) c u.0;
      counted = omega (arith, take_count n p ok (cell_of p q) c u.0);
      length-is =
          ap (λ (x : PageDrained). length x.out)
          (drain-first all_positions k q p m (eq-eqb (bit_at p.occupied q) 1 (least.held m))
          (λ j y. ne_eqb (bit_at p.occupied j) 1 (λ e. omega (arith, least.none j (omega arith) y))) u.1);
    }

-- with as many values or more, as many as are asked for
drain-full : (n k : ℕ) (p : Page) → Placed n p → k ≤ count p.occupied → length (drain_page 64 0 all_positions k p).out ≡ k
drain-full n zero p ok l = ap (λ (x : PageDrained). length x.out) (drain-zero all_positions 64 0 p)
drain-full n (suc k) p ok l =
    let f = first-drained n k p ok (λ z. omega (arith, ap count z, count_none 64)) in
    let i = drain-full n k (take_cell_of p f.cell) f.placed (omega (arith, f.counted)) in
    omega (arith, f.length-is)

module _ (w : Window) (ok : Proper w) (g k : ℕ) (below : g < pages_of w) where
  page-placed : Placed w.header.n (w.pages g)
  page-placed = placed w.header.n (capacity_of w) g (w.pages g) (ok.sound.page g below)

  pub page-out-le : length (release_page_of w g k).out ≤ k
  unfolding release_page_of
  page-out-le = drain-length all_positions w.header.n 64 0 k (w.pages g) (omega arith) page-placed

  pub page-out-full : k ≤ values_in_of (w.pages g) → length (release_page_of w g k).out ≡ k
  unfolding release_page_of
  page-out-full l = drain-full w.header.n k (w.pages g) page-placed l

  -- a page that holds a value gives one
  pub page-out-some : 1 ≤ k → holds_value (w.pages g) ≡ true → 1 ≤ length (release_page_of w g k).out
  unfolding release_page_of
  page-out-some l h =
      let e : suc (k - 1) ≡ k = omega arith in
      subst (λ (x : ℕ). 1 ≤ length (drain_page 64 0 all_positions x (w.pages g)).out) e
      (omega (arith, (first-drained w.header.n (k - 1) (w.pages g) page-placed (holds-occupied (w.pages g) h)).length-is))

  module _ (retired : is_retired w g ≡ true) where
    -- one that gives fewer than asked for is emptied
    pub page-emptied : length (release_page_of w g k).out < k → holds_value ((release_page_of w g k).after.pages g) ≡ false
    page-emptied l =
        elim (dec_le k (values_in_of (w.pages g))) [
          | yes m ↦ absurd (omega (arith, page-out-full m))
          | no m ↦
              let z = drain-whole w.header.n k (w.pages g) page-placed (omega arith) in
              ap holds_value (release-changes w g k ok below retired).writes.own_page ∙ rw (eq-eqb (drain_page 64 0 all_positions k (w.pages g)).page.occupied 0 z)
        ]

    pub page-others : (h : ℕ) → (h ≡ g → ⊥) → (release_page_of w g k).after.pages h ≡ w.pages h
    page-others = (release-changes w g k ok below retired).writes.other_pages

-- window_size stays, and so do the pages
pub pages-same : (w v : Window) → SameLimits w v → pages_of v ≡ pages_of w
pages-same w v e = ap (λ (l : Limits). page_count_of l.size) e

-- a page inspected: the cursor moves on from an emptied page
pub proper-visit : (w : Window) (g k : ℕ) → Proper w → g < pages_of w → is_retired w g ≡ true → Proper (move_cursor (release_page_of w g k).after g)
proper-visit w g k ok below retired =
    let v = (release_page_of w g k).after in
    let e = pages-same w v (release-page-limits w g k) in
    proper-cursor v (cond (holds_value (v.pages g)) g ((g + 1) % pages_of v)) (proper-release-page w g k ok below retired)
    (bool (holds_value (v.pages g)) (λ h. rw h (omega (arith, e))) (λ h. rw h (mod-lt (g + 1) (omega (arith, e)))))

-- ---- the next page of a sound window

module _ (w : Window) (ok : Sound w) where
  -- page g is one to inspect
  abbrev awaits : ℕ → Bool
  awaits g = is_retired w g && holds_value (w.pages g)

  pub next_le : next_retired_of w ≤ pages_of w
  unfolding next_retired_of
  next_le = round-le awaits (pages_of w) w.header.release_cursor (omega (arith, ok.cursor))

  pub next-is : next_retired_of w < pages_of w → (is_retired w (next_retired_of w) ≡ true) × (holds_value (w.pages (next_retired_of w)) ≡ true)
  unfolding next_retired_of
  next-is l = both _ _ (round-held awaits (pages_of w) w.header.release_cursor (omega (arith, ok.cursor)) l)

  nothing-retired : (g : ℕ) → awaits g ≡ false → retired_in w g ≡ 0
  nothing-retired g e =
      elim (ℕ_discrete (w.pages g).occupied 0) [
        | yes z ↦ (empty-counts w g z).1
        | no z ↦ bool (is_retired w g) (λ r. absurd (true≢false (sym (holds-some (w.pages g) z) ∙ rw r at e))) (λ r. (live-counts w g r).1)
      ]

  -- there is none just if no retired value is held
  pub next-none : ltb (next_retired_of w) (pages_of w) ≡ false → w.header.retired_held ≡ 0
  unfolding next_retired_of
  next-none e =
      let all = round-none awaits (pages_of w) w.header.release_cursor (omega (arith, ok.cursor)) (omega (arith, next_le, ltb-false (next_retired_of w) (pages_of w) e)) in
      omega (arith, ok.held, sum-le 0 (pages_of w) (retired_in w) (λ g m. omega (arith, nothing-retired g (all g m))))

  pub none-next : w.header.retired_held ≡ 0 → ltb (next_retired_of w) (pages_of w) ≡ false
  none-next z =
      elim (dec_lt (next_retired_of w) (pages_of w)) [
        | yes l ↦ absurd (omega (arith, held-some w ok (next_retired_of w) l (next-is l).0 (next-is l).1))
        | no l ↦ le-ltb (next_retired_of w) (pages_of w) (omega arith)
      ]

-- ---- a release, by whether a page is found

module _ (w : Window) where
  pub units-zero : (f : ℕ) → release_units f 0 w ≡ release_of (drop_block_marks w) [] 0
  unfolding release_units
  units-zero zero = refl
  units-zero (suc f) = refl

  pub units-none : (f b : ℕ) → ltb (next_retired_of w) (pages_of w) ≡ false → release_units f b w ≡ release_of (drop_block_marks w) [] 0
  unfolding release_units
  units-none zero b e = refl
  units-none (suc f) zero e = refl
  units-none (suc f) (suc b) e = rw (e, release_units)

  pub units-visits : (f b : ℕ) → ltb (next_retired_of w) (pages_of w) ≡ true →
      let p = release_page_of w (next_retired_of w) b in
      let r = release_units f (b - length p.out) (move_cursor p.after (next_retired_of w)) in
      release_units (suc f) (suc b) w ≡ release_of r.after (p.out ++ r.out) (1 + length p.out + r.units)
  unfolding release_units
  units-visits f b e = rw (e, release_units)

-- fuel of the budget, or more, gives the same
pub fuel-enough : (f e b : ℕ) (w : Window) → b ≤ f → b ≤ e → release_units f b w ≡ release_units e b w
fuel-enough zero e zero w l m = units-zero w 0 ∙ sym (units-zero w e)
fuel-enough zero e (suc b) w l m = absurd (omega arith)
fuel-enough (suc f) e zero w l m = units-zero w (suc f) ∙ sym (units-zero w e)
fuel-enough (suc f) zero (suc b) w l m = absurd (omega arith)
fuel-enough (suc f) (suc e) (suc b) w l m =
    let p = release_page_of w (next_retired_of w) b in
    bool (ltb (next_retired_of w) (pages_of w))
    (λ i. units-visits w f b i
    ∙ ap (λ (r : Release). release_of r.after (p.out ++ r.out) (1 + length p.out + r.units))
    (fuel-enough f e (b - length p.out) (move_cursor p.after (next_retired_of w)) (omega arith) (omega arith))
    ∙ sym (units-visits w e b i))
    (λ i. units-none w (suc f) (suc b) i ∙ sym (units-none w (suc e) (suc b) i))

-- a page inspected, and then a release with what is left of the budget
pub release-visits : (b : ℕ) (w : Window) → ltb (next_retired_of w) (pages_of w) ≡ true →
    let p = release_page_of w (next_retired_of w) b in
    let r = release (b - length p.out) (move_cursor p.after (next_retired_of w)) in
    release (suc b) w ≡ release_of r.after (p.out ++ r.out) (1 + length p.out + r.units)
release-visits b w e =
    let p = release_page_of w (next_retired_of w) b in
    let left = b - length p.out in
    units-visits w b b e
    ∙ ap (λ (r : Release). release_of r.after (p.out ++ r.out) (1 + length p.out + r.units))
    (fuel-enough b left left (move_cursor p.after (next_retired_of w)) (omega arith) (omega arith))

-- ---- what a release leaves and takes out

pub record Released (b : ℕ) (w : Window) (r : Release) : Type 0 where
  pub proper : Proper r.after
  pub units : r.units ≤ b
  pub values : length r.out ≤ r.units
  -- Each page inspected holds a value, so it gives one unless the budget is spent: half the budget comes out, or all.
  pub halves : (b / 2 ≤ length r.out) ⊎ (r.after.header.retired_held ≡ 0)

-- nothing more to release
stops : (b : ℕ) (w : Window) → Proper w → (b / 2 ≤ 0) ⊎ (w.header.retired_held ≡ 0) → Released b w (release_of (drop_block_marks w) [] 0)
stops b w ok h = record {
  proper = subst Proper (sym (drop-same w ok.sound)) ok;
  units = omega arith;
  values = omega arith;
  halves = ⊎_elim (λ l. inl l) (λ z. inr (ap (λ (v : Window). v.header.retired_held) (drop-same w ok.sound) ∙ z)) h;
}

-- a page more
goes_on : (b g : ℕ) (w : Window) → Proper w → g < pages_of w → is_retired w g ≡ true → holds_value (w.pages g) ≡ true → (r : Release)
    → Released (b - length (release_page_of w g b).out) (move_cursor (release_page_of w g b).after g) r
    → Released (suc b) w (release_of r.after ((release_page_of w g b).out ++ r.out) (1 + length (release_page_of w g b).out + r.units))
goes_on b g w ok below retired holds r t =
    let p = release_page_of w g b in
    let most = page-out-le w ok g b below in
    let long = length-append p.out r.out in
    record {
      proper = t.proper;
      units = omega (arith, t.units);
      values = omega (arith, t.values);
      halves = ⊎_elim
          (λ l. inl (elim (ℕ_discrete b 0) [ yes z ↦ omega arith | no z ↦ omega (arith, page-out-some w ok g b below (omega arith) holds) ]))
          (λ z. inr z)
          t.halves;
    }

units-released : (f b : ℕ) (w : Window) → b ≤ f → Proper w → Released b w (release_units f b w)
units-released zero zero w l ok = subst (Released 0 w) (sym (units-zero w 0)) (stops 0 w ok (inl (omega arith)))
units-released zero (suc b) w l ok = absurd (omega arith)
units-released (suc f) zero w l ok = subst (Released 0 w) (sym (units-zero w (suc f))) (stops 0 w ok (inl (omega arith)))
units-released (suc f) (suc b) w l ok =
    bool (ltb (next_retired_of w) (pages_of w))
    (λ i.
    let g = next_retired_of w in
    let m = ltb-true g (pages_of w) i in
    let n = next-is w ok.sound m in
    let v = move_cursor (release_page_of w g b).after g in
    subst (Released (suc b) w) (sym (units-visits w f b i))
    (goes_on b g w ok m n.0 n.1 _ (units-released f (b - length (release_page_of w g b).out) v (omega arith) (proper-visit w g b ok m n.0))))
    (λ i. subst (Released (suc b) w) (sym (units-none w (suc f) (suc b) i)) (stops (suc b) w ok (inr (next-none w ok.sound i))))

module _ (b : ℕ) (w : Window) (ok : Proper w) where
  pub release-released : Released b w (release b w)
  release-released = units-released b b w (omega arith) ok

  pub proper-release : Proper (release b w).after
  proper-release = release-released.proper

  pub units-le : (release b w).units ≤ b
  units-le = release-released.units

  pub values-units : length (release b w).out ≤ (release b w).units
  values-units = release-released.values

  pub release-halves : (b / 2 ≤ length (release b w).out) ⊎ ((release b w).after.header.retired_held ≡ 0)
  release-halves = release-released.halves

-- ---- all pages in their order, by whether a page holds a value

module _ (w : Window) (g : ℕ) where
  pub pages-end : (k : ℕ) → release_pages_of 0 g k w ≡ returned_by w []
  unfolding release_pages_of
  pages-end k = refl

  pub pages-spent : (n : ℕ) → release_pages_of n g 0 w ≡ returned_by w []
  unfolding release_pages_of
  pages-spent zero = refl
  pages-spent (suc n) = refl

  pub pages_past : (n k : ℕ) → holds_value (w.pages g) ≡ false → release_pages_of (suc n) g (suc k) w ≡ release_pages_of n (suc g) (suc k) w
  unfolding release_pages_of
  pages_past n k e = let z : suc k - 0 ≡ suc k = omega arith in rw (e, release_pages_of) (ap (λ (x : ℕ). release_pages_of n (suc g) x w) z)

  pub pages-next : (n k : ℕ) → holds_value (w.pages g) ≡ true →
      let p = release_page_of w g (suc k) in
      let r = release_pages_of n (suc g) (suc k - length p.out) p.after in
      release_pages_of (suc n) g (suc k) w ≡ returned_by r.after (p.out ++ r.out)
  unfolding release_pages_of
  pages-next n k e = rw (e, release_pages_of)

-- m pages that hold no value are passed over
pub pages-skip : (m n g k : ℕ) (w : Window) → ((h : ℕ) → g ≤ h → h < m + g → holds_value (w.pages h) ≡ false)
    → (t e : ℕ) → t ≡ m + n → e ≡ m + g → release_pages_of t g k w ≡ release_pages_of n e k w
pages-skip m n g zero w empty t e a b = pages-spent w g t ∙ sym (pages-spent w e n)
pages-skip zero n g (suc k) w empty t e a b = λ i. release_pages_of (count i) (from i) (suc k) w
  where
    count : t ≡ n
    count = omega arith

    from : g ≡ e
    from = omega arith
pages-skip (suc m) n g (suc k) w empty t e a b =
    let q : t ≡ suc (m + n) = omega arith in
    ap (λ (x : ℕ). release_pages_of x g (suc k) w) q ∙ pages_past w g (m + n) k (empty g (omega arith) (omega arith))
    ∙ pages-skip m n (suc g) (suc k) w (λ h x y. empty h (omega arith) (omega arith)) (m + n) e refl (omega arith)

-- ---- what it leaves and takes out, of a window with no live value

len-either : (u v : Window) (b : Bool) (len : ℕ) → u.header.len ≡ len → v.header.len ≡ len → (cond b u v).header.len ≡ len
len-either u v true len l r = l
len-either u v false len l r = r

drop_len : (w : Window) → (drop_block_marks w).header.len ≡ w.header.len
drop_len w = len-either (with_header w (set_retired_blocks w.header 0)) w (eqb w.header.retired_held 0) w.header.len refl refl

pub page-len : (w : Window) (g k : ℕ) → (release_page_of w g k).after.header.len ≡ w.header.len
unfolding release_page_of note_nonempty
page-len w g k =
    let d = drain_page 64 0 all_positions k (w.pages g) in
    let v = put_page (with_header w (set_held w.header (w.header.retired_held - length d.out))) g (unless_emptied_of d.page) in
    let u = set_marks v (g / 64) (clear_bit (v.blocks (g / 64)).retired (g % 64)) in
    len-either v (drop_block_marks u) (holds_value d.page) w.header.len refl (drop_len u)

-- once everything is retired, no value is live
pub retired-len : (w : Window) → (retire_all_of w).header.len ≡ 0
unfolding retire_all_of
retired-len w = bool (eqb (w.header.retired_held + w.header.len) 0) (λ e. rw e) (λ e. rw e)

-- every page that holds a value is retired
pub all-retired : (w : Window) → Sound w → w.header.len ≡ 0 → (g : ℕ) → g < pages_of w → holds_value (w.pages g) ≡ true → is_retired w g ≡ true
all-retired w ok none g l h = bool (is_retired w g) (λ e. e) (λ e. absurd (omega (arith, (live-some w ok g l e h).1)))

-- with no retired value either, no page holds one
pub none-held : (w : Window) → Sound w → w.header.len ≡ 0 → w.header.retired_held ≡ 0 → (g : ℕ) → g < pages_of w → holds_value (w.pages g) ≡ false
none-held w ok none held g l =
    bool (holds_value (w.pages g)) (λ h. absurd (omega (arith, held-some w ok g l (all-retired w ok none g l h) h))) (λ h. h)

pub record PagesReleased (k : ℕ) (w : Window) (r : Returned) : Type 0 where
  pub proper : Proper r.after
  pub none-live : r.after.header.len ≡ 0
  pub few : length r.out ≤ k

as_before : (k : ℕ) (w : Window) → Proper w → w.header.len ≡ 0 → PagesReleased k w (returned_by w [])
as_before k w ok none = record { proper = ok; none-live = none; few = omega arith }

pub pages-released : (n g k : ℕ) (w : Window) → Proper w → w.header.len ≡ 0 → g + n ≤ pages_of w → PagesReleased k w (release_pages_of n g k w)
pages-released zero g k w ok none l = subst (PagesReleased k w) (sym (pages-end w g k)) (as_before k w ok none)
pages-released (suc n) g zero w ok none l = subst (PagesReleased 0 w) (sym (pages-spent w g (suc n))) (as_before 0 w ok none)
pages-released (suc n) g (suc k) w ok none l =
    bool (holds_value (w.pages g))
    (λ h.
    let p = release_page_of w g (suc k) in
    let left = suc k - length p.out in
    let below : g < pages_of w = omega arith in
    let t = pages-released n (suc g) left p.after (proper-release-page w g (suc k) ok below (all-retired w ok.sound none g below h)) (page-len w g (suc k) ∙ none)
    (omega (arith, pages-same w p.after (release-page-limits w g (suc k)))) in
    subst (PagesReleased (suc k) w) (sym (pages-next w g n k h)) (record {
      proper = t.proper;
      none-live = t.none-live;
      few = omega (arith, t.few, length-append p.out (release_pages_of n (suc g) left p.after).out, page-out-le w ok g (suc k) below);
    }))
    (λ h. subst (PagesReleased (suc k) w) (sym (pages_past w g n k h)) (pages-released n (suc g) (suc k) w ok none (omega arith)))

pub proper-release-pages : (k : ℕ) (w : Window) → Proper w → w.header.len ≡ 0 → Proper (release_pages_of (pages_of w) 0 k w).after
proper-release-pages k w ok none = (pages-released (pages_of w) 0 k w ok none (omega arith)).proper
