-- Laws of `release`: nothing is lost, a budget takes out half its number of values at least or all, its units are never more than
-- the budget, and its cursor is at most the number of pages. Assumes nothing.
use mathlib.Core.Path.{◌≡◌, ap, subst}
use mathlib.Core.Bool.{true, false}
use mathlib.Core.Option.{none}
use mathlib.Core.List.{[], ◌++◌}
use Prim.Native.Nat.{ℕ, zero, suc, ◌+◌, ◌-◌, ◌*◌, ◌/◌, ◌%◌, ◌≤◌, ◌<◌}
use native.Mathlib.Omega.{arith}
use native.Mathlib.Nat.{mod-lt, le_of_lt}
use native.Mathlib.Decide.{ℕ_discrete}
use lib.Dec.{ltb}
use lib.ListN.{length}
use borrow.Author.Tests.{ltb-true, ltb-false}
use Rattle.words.proofs.CaseLaws.{bool}
use Rattle.words.proofs.FirstLaws.{round-le, round-held, round-none}
use Rattle.model.specs.Table.{Table, sum, held}
use Rattle.model.specs.Positions.{drain, in_page, page_holds, next_page, cursor_after, released_of, release}
use Rattle.model.proofs.SumLaws.{case, sum-zero, sum-find, sum-pick, weight, total, total-append, held-le}
use Rattle.model.proofs.DrainLaws.{drain-keeps, drain-count, drain-none, drain-most, drain-least}

-- ---- the next page

-- a position's pair is counted in its page
pub in-page : (t : Table) (q : ℕ) → held (t q) ≤ in_page t (q / 64)
unfolding in_page
in-page t q =
    let e : 64 * (q / 64) + q % 64 ≡ q = omega arith in
    subst (λ (x : ℕ). held (t x) ≤ in_page t (q / 64)) e (sum-pick 64 (λ (j : ℕ). held (t (64 * (q / 64) + j))) (q % 64) (omega arith))

pub page-held : (t : Table) (g : ℕ) → page_holds t g ≡ true → (j : ℕ) × (j < 64) × (0 < held (t (64 * g + j)))
unfolding in_page
page-held t g h = sum-find 64 (λ (j : ℕ). held (t (64 * g + j))) (ltb-true 0 (in_page t g) h)

-- where no page is found, no position holds a pair
pub no-page : (pages : ℕ) (t : Table) (c : ℕ) → c ≤ pages → ltb (next_page pages t c) pages ≡ false → (q : ℕ) → q < 64 * pages → held (t q) ≡ 0
no-page pages t c l i q h =
    let e : next_page pages t c ≡ pages = omega (arith, ltb-false (next_page pages t c) pages i, round-le (page_holds t) pages c l) in
    omega (arith, in-page t q, ltb-false 0 (in_page t (q / 64)) (round-none (page_holds t) pages c l e (q / 64) (omega arith)))

pub cursor-le : (pages : ℕ) (t : Table) (g : ℕ) → g < pages → cursor_after pages t g ≤ pages
cursor-le pages t g h = bool (page_holds t g) (λ i. rw i (omega arith)) (λ i. rw i (le_of_lt (mod-lt (g + 1) (omega arith))))

-- ---- one page more, by whether one is found

pub release-stops : (pages f b : ℕ) (t : Table) (c : ℕ) → ltb (next_page pages t c) pages ≡ false → release pages (suc f) (suc b) t c ≡ released_of t c [] 0
unfolding release
release-stops pages f b t c i = rw (i, release)

pub release-visits : (pages f b : ℕ) (t : Table) (c : ℕ) → ltb (next_page pages t c) pages ≡ true
    → let g = next_page pages t c in
    let d = drain 64 (64 * g) b t in
    let r = release pages f (b - length d.out) d.left (cursor_after pages d.left g) in
    release pages (suc f) (suc b) t c ≡ released_of r.retired r.cursor (d.out ++ r.out) (1 + length d.out + r.units)
unfolding release
release-visits pages f b t c i = rw (i, release)

-- ---- nothing is lost

-- what is left and what is taken out weigh what was there
pub release-keeps : (pages : ℕ) (g : ℕ → ℕ) (f b : ℕ) (t : Table) (c : ℕ) → c ≤ pages
    → weight (64 * pages) g (release pages f b t c).retired + total g (release pages f b t c).out ≡ weight (64 * pages) g t
unfolding release
release-keeps pages g zero b t c l = omega arith
release-keeps pages g (suc f) zero t c l = omega arith
release-keeps pages g (suc f) (suc b) t c l =
    bool (ltb (next_page pages t c) pages)
    (λ i.
    let x = next_page pages t c in
    let d = drain 64 (64 * x) b t in
    let n = cursor_after pages d.left x in
    let r = release pages f (b - length d.out) d.left n in
    let h : x < pages = ltb-true x pages i in
    rw (release-visits pages f b t c i) (omega (
      arith,
      total-append g d.out r.out,
      drain-keeps (64 * pages) g 64 (64 * x) b t (omega arith),
      release-keeps pages g f (b - length d.out) d.left n (cursor-le pages d.left x h),
    )))
    (λ i. rw (release-stops pages f b t c i) (omega arith))

-- what is free stays free
pub release-none : (pages f b : ℕ) (t : Table) (c q : ℕ) → t q ≡ none → (release pages f b t c).retired q ≡ none
unfolding release
release-none pages zero b t c q h = h
release-none pages (suc f) zero t c q h = h
release-none pages (suc f) (suc b) t c q h =
    bool (ltb (next_page pages t c) pages)
    (λ i.
    let x = next_page pages t c in
    let d = drain 64 (64 * x) b t in
    rw (release-visits pages f b t c i)
    (release-none pages f (b - length d.out) d.left (cursor_after pages d.left x) q (drain-none 64 (64 * x) b t q h)))
    (λ i. rw (release-stops pages f b t c i) h)

pub release-less : (pages f b : ℕ) (t : Table) (c q : ℕ) → held ((release pages f b t c).retired q) ≤ held (t q)
release-less pages f b t c q =
    case (t q)
    (λ e. omega (arith, ap held (release-none pages f b t c q e)))
    (λ x e. omega (arith, held-le ((release pages f b t c).retired q), ap held e))

-- ---- how much

-- A page costs one unit and gives a value at least, unless the budget is 1: so half the budget, or all, comes out.
pub release-halves : (pages f b : ℕ) (t : Table) (c : ℕ) → c ≤ pages → b ≤ f
    → sum (64 * pages) (λ (q : ℕ). held ((release pages f b t c).retired q)) ≤ sum (64 * pages) (λ (q : ℕ). held (t q)) - b / 2
unfolding release
release-halves pages zero b t c l h = omega arith
release-halves pages (suc f) zero t c l h = omega arith
release-halves pages (suc f) (suc b) t c l h =
    bool (ltb (next_page pages t c) pages)
    (λ i.
    let x = next_page pages t c in
    let d = drain 64 (64 * x) b t in
    let n = cursor_after pages d.left x in
    let y : x < pages = ltb-true x pages i in
    let a = drain-count (64 * pages) 64 (64 * x) b t (omega arith) in
    let z = release-halves pages f (b - length d.out) d.left n (cursor-le pages d.left x y) (omega arith) in
    let j = page-held t x (round-held (page_holds t) pages c l y) in
    let m = drain-most 64 (64 * x) b t in
    rw (release-visits pages f b t c i) (elim (ℕ_discrete b 0) [
      | yes p ↦ omega (arith, a, z, m)
      | no p ↦ let k = drain-least 64 (64 * x) b t (64 * x + j.0) (omega arith) (omega (arith, j.1)) j.2 (omega arith) in omega (arith, a, z, m, k)
    ]))
    (λ i. rw (release-stops pages f b t c i) (omega (arith, sum-zero (64 * pages) (λ (q : ℕ). held (t q)) (no-page pages t c l i))))

-- each page inspected and each value taken out is paid from the budget
pub release-units : (pages f b : ℕ) (t : Table) (c : ℕ) → (release pages f b t c).units ≤ b
unfolding release
release-units pages zero b t c = omega arith
release-units pages (suc f) zero t c = omega arith
release-units pages (suc f) (suc b) t c =
    bool (ltb (next_page pages t c) pages)
    (λ i.
    let x = next_page pages t c in
    let d = drain 64 (64 * x) b t in
    rw (release-visits pages f b t c i)
    (omega (arith, drain-most 64 (64 * x) b t, release-units pages f (b - length d.out) d.left (cursor_after pages d.left x))))
    (λ i. rw (release-stops pages f b t c i) (omega arith))

pub release-cursor : (pages f b : ℕ) (t : Table) (c : ℕ) → c ≤ pages → (release pages f b t c).cursor ≤ pages
unfolding release
release-cursor pages zero b t c l = l
release-cursor pages (suc f) zero t c l = l
release-cursor pages (suc f) (suc b) t c l =
    bool (ltb (next_page pages t c) pages)
    (λ i.
    let x = next_page pages t c in
    let d = drain 64 (64 * x) b t in
    let n = cursor_after pages d.left x in
    rw (release-visits pages f b t c i) (release-cursor pages f (b - length d.out) d.left n (cursor-le pages d.left x (ltb-true x pages i))))
    (λ i. rw (release-stops pages f b t c i) l)
