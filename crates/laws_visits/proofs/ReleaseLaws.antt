-- A release over positions is a visit to the queue of its table: it releases and costs what `visit` says, and the queue of what is
-- left, from where the cursor then stands, is what `visit` leaves. Assumes nothing.
use mathlib.Core.Path.{◌≡◌, refl, ap, ◌∙◌}
use mathlib.Core.Bool.{true}
use mathlib.Core.List.{List, ◌++◌}
use Prim.Native.Nat.{ℕ, zero, suc, ◌+◌, ◌-◌, ◌*◌, ◌≤◌, ◌<◌}
use native.Mathlib.Omega.{arith}
use lib.Dec.{ltb}
use lib.ListN.{length, take, drop}
use borrow.Author.Tests.{ltb-true}
use Rattle.words.proofs.CaseLaws.{bool}
use Rattle.words.proofs.FirstLaws.{round-held}
use Rattle.model.specs.Table.{Table}
use Rattle.model.specs.Positions.{drain, page_holds, next_page, cursor_after, Released, release}
use Rattle.model.proofs.ReleaseLaws.{cursor-le, release-stops, release-visits}
use Rattle.laws_visits.specs.Queue.{page_values, queued, queue_of, Visited, visited, units_left, visit}
use Rattle.laws_visits.proofs.VisitLaws.{visit-none, visit-zero, visit-page, queued-some, visit-left}
use Rattle.laws_visits.proofs.ValueLaws.{drain-brings, drain-leaves, page-some, page-other}
use Rattle.laws_visits.proofs.QueueLaws.{pages-same, queue-next, queue-empty, queue-cursor, others, queue-head}

-- r, over so many pages, releases, costs and leaves waiting what s says
pub record VisitsQueue (pages : ℕ) (r : Released) (s : Visited) : Type 0 where
  pub out : r.out ≡ s.out
  pub units : r.units ≡ s.units
  pub rest : queue_of pages r.retired r.cursor ≡ s.rest

-- ---- a page inspected

-- what waits once page g gave its first b values
queue-drained : (pages : ℕ) (t : Table) (g b : ℕ) (l : g < pages) →
    let left = (drain 64 (64 * g) b t).left in
    queue_of pages left (cursor_after pages left g) ≡ queued (drop b (page_values t g)) (others pages t g l)
queue-drained pages t g b l =
    let left = (drain 64 (64 * g) b t).left in
    let after = pages-same (pages - suc g) (suc g) left t (λ h x y. page-other g b t h (λ e. omega arith)) in
    let before = pages-same (g - 0) 0 left t (λ h x y. page-other g b t h (λ e. omega arith)) in
    queue-cursor pages left g l ∙ queue-head pages left g l ∙ (λ i. queued (drain-leaves 64 (64 * g) b t i) (after i ++ before i))

-- ---- the whole release

module _ (pages b : ℕ) (t : Table) (c : ℕ) (l : c ≤ pages) (i : ltb (next_page pages t c) pages ≡ true) where
  abbrev g : ℕ
  g = next_page pages t c

  abbrev p : List ℕ
  p = page_values t g

  below : g < pages
  below = ltb-true g pages i

  abbrev s : Visited
  s = visit (units_left b p) (others pages t g below)

  -- the release inspects the first page of the queue
  visits-first : visit (suc b) (queue_of pages t c) ≡ visited (take b p ++ s.out) (1 + length (take b p) + s.units) (queued (drop b p) s.rest)
  visits-first =
      ap (visit (suc b))
      (queue-next pages t c l below ∙ queue-head pages t g below
      ∙ queued-some p (others pages t g below) (page-some t g (round-held (page_holds t) pages c l below)))
      ∙ visit-page b p (others pages t g below)

  -- and goes on with what it left of the queue and of the budget
  visits-next : let d = drain 64 (64 * g) b t in
      visit (b - length d.out) (queue_of pages d.left (cursor_after pages d.left g)) ≡ visited s.out s.units (queued (drop b p) s.rest)
  visits-next =
      (λ j. visit (b - length (drain-brings 64 (64 * g) b t j)) (queue-drained pages t g b below j)) ∙ visit-left b p (others pages t g below)

pub release-as-visit : (pages f b : ℕ) (t : Table) (c : ℕ) → c ≤ pages → b ≤ f → VisitsQueue pages (release pages f b t c) (visit b (queue_of pages t c))
unfolding release
release-as-visit pages zero zero t c l h = rw (visit-zero (queue_of pages t c)) (record { out = refl; units = refl; rest = refl })
release-as-visit pages zero (suc b) t c l h = absurd (omega arith)
release-as-visit pages (suc f) zero t c l h = rw (visit-zero (queue_of pages t c)) (record { out = refl; units = refl; rest = refl })
release-as-visit pages (suc f) (suc b) t c l h =
    bool (ltb (next_page pages t c) pages)
    (λ i.
    let x = next_page pages t c in
    let d = drain 64 (64 * x) b t in
    let y = visits-first pages b t c l i in
    let z = visits-next pages b t c l i in
    let r = release-as-visit pages f (b - length d.out) d.left (cursor_after pages d.left x) (cursor-le pages d.left x (ltb-true x pages i)) (omega arith) in
    let o = drain-brings 64 (64 * x) b t in
    rw (release-visits pages f b t c i, y) (record {
      out = λ j. o j ++ (r.out ∙ ap (λ (e : Visited). e.out) z) j;
      units = λ j. 1 + length (o j) + (r.units ∙ ap (λ (e : Visited). e.units) z) j;
      rest = r.rest ∙ ap (λ (e : Visited). e.rest) z;
    }))
    (λ i. rw (release-stops pages f b t c i, queue-empty pages t c l i, visit-none (suc b)) (record { out = refl; units = refl; rest = queue-empty pages t c l i }))
