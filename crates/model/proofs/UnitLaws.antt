-- What a release costs. Document 01: "Each page inspected and each value released costs one unit". No page is inspected twice: with
-- pairs left the whole budget is used, and with none left one unit for each page that held a pair and one for each pair. Assumes nothing.
use mathlib.Core.Path.{◌≡◌, ap, sym, ◌∙◌}
use mathlib.Core.Bool.{true, false}
use mathlib.Core.List.{List, ◌++◌}
use Prim.Native.Nat.{ℕ, zero, suc, ◌+◌, ◌-◌, ◌*◌, ◌≤◌, ◌<◌}
use native.Mathlib.Omega.{arith}
use native.Mathlib.Decide.{dec_lt}
use lib.Dec.{ltb}
use lib.ListN.{length}
use borrow.Author.Tests.{ltb-true, le-ltb}
use Rattle.words.proofs.CaseLaws.{bool}
use Rattle.words.proofs.FirstLaws.{round-held}
use Rattle.model.specs.Table.{Table, sum, held}
use Rattle.model.specs.Demand3.{one}
use Rattle.model.specs.Positions.{drain, in_page, page_holds, next_page, cursor_after, Released, release}
use Rattle.model.proofs.SumLaws.{sum-ext, sum-zero, sum-point, sum-pick, total-append, total-length, each}
use Rattle.model.proofs.DrainLaws.{drain-other-page, drain-most, drain_rest}
use Rattle.model.proofs.ReleaseLaws.{no-page, cursor-le, release-stops, release-visits}

-- the pages that hold a pair
abbrev pub pages_held : ℕ → Table → ℕ
pages_held pages t = sum pages (λ (g : ℕ). one (page_holds t g))

-- how many pairs the pages hold
abbrev pub pairs_held : ℕ → Table → ℕ
pairs_held pages t = sum (64 * pages) (λ (q : ℕ). held (t q))

-- ---- pages that hold none

page-empty : (t : Table) (g : ℕ) → ((j : ℕ) → j < 64 → held (t (64 * g + j)) ≡ 0) → page_holds t g ≡ false
unfolding in_page
page-empty t g h = le-ltb 0 (in_page t g) (omega (arith, sum-zero 64 (λ (j : ℕ). held (t (64 * g + j))) h))

none-in-page : (pages : ℕ) (t : Table) → pairs_held pages t ≡ 0 → (g : ℕ) → g < pages → page_holds t g ≡ false
none-in-page pages t z g l =
    page-empty t g (λ j k. omega (arith, z, sum-pick (64 * pages) (λ (q : ℕ). held (t q)) (64 * g + j) (omega arith)))

no-pages-held : (pages : ℕ) (t : Table) → pairs_held pages t ≡ 0 → pages_held pages t ≡ 0
no-pages-held pages t z = sum-zero pages (λ (g : ℕ). one (page_holds t g)) (λ g l. ap one (none-in-page pages t z g l))

-- ---- one page inspected

module _ (pages x b : ℕ) (t : Table) (l : x < pages) where
  abbrev left : Table
  left = (drain 64 (64 * x) b t).left

  other-page : (g : ℕ) → (g ≡ x → ⊥) → page_holds left g ≡ page_holds t g
  unfolding in_page
  other-page g n = ap (ltb 0) (sum-ext 64 (λ (j : ℕ). held (left (64 * g + j))) (λ (j : ℕ). held (t (64 * g + j))) (λ j k.
      ap held (drain-other-page x g b t (64 * g + j) n (omega arith) (omega arith))))

  -- it was one of those that held a pair
  one-page-less : page_holds t x ≡ true → page_holds left x ≡ false → pages_held pages t ≡ 1 + pages_held pages left
  one-page-less h e =
      let s = sum-point pages (λ (g : ℕ). one (page_holds t g)) (λ (g : ℕ). one (page_holds left g)) x l (λ g k n. ap one (sym (other-page g n))) in
      omega (arith, s, ap one h, ap one e)

  -- the budget was not spent on it: it is emptied
  emptied : length (drain 64 (64 * x) b t).out < b → page_holds left x ≡ false
  emptied s = page-empty left x (λ j k. ap held (drain_rest 64 (64 * x) b t (64 * x + j) s (omega arith) (omega arith)))

-- ---- the whole release

length-append : (xs ys : List ℕ) → length (xs ++ ys) ≡ length xs + length ys
length-append xs ys = omega (arith, total-append each xs ys, total-length (xs ++ ys), total-length xs, total-length ys)

-- no more pairs come out than the budget has units
pub release-few : (pages f b : ℕ) (t : Table) (c : ℕ) → length (release pages f b t c).out ≤ b
unfolding release
release-few pages zero b t c = omega arith
release-few pages (suc f) zero t c = omega arith
release-few pages (suc f) (suc b) t c =
    bool (ltb (next_page pages t c) pages)
    (λ i.
    let x = next_page pages t c in
    let d = drain 64 (64 * x) b t in
    let n = cursor_after pages d.left x in
    let r = release pages f (b - length d.out) d.left n in
    rw (release-visits pages f b t c i)
    (omega (arith, length-append d.out r.out, drain-most 64 (64 * x) b t, release-few pages f (b - length d.out) d.left n)))
    (λ i. rw (release-stops pages f b t c i) (omega arith))

pub record Costs (pages b : ℕ) (t : Table) (r : Released) : Type 0 where
  pub spent : 0 < pairs_held pages r.retired → r.units ≡ b
  pub all : pairs_held pages r.retired ≡ 0 → r.units ≡ pages_held pages t + length r.out

without-budget : (pages f : ℕ) (t : Table) (c : ℕ) → (release pages f 0 t c).retired ≡ t
unfolding release
without-budget pages zero t c = λ i. t
without-budget pages (suc f) t c = λ i. t

pub release-costs : (pages f b : ℕ) (t : Table) (c : ℕ) → c ≤ pages → b ≤ f → Costs pages b t (release pages f b t c)
unfolding release
release-costs pages zero b t c l h = record { spent = λ s. omega arith; all = λ z. omega (arith, no-pages-held pages t z) }
release-costs pages (suc f) zero t c l h = record { spent = λ s. omega arith; all = λ z. omega (arith, no-pages-held pages t z) }
release-costs pages (suc f) (suc b) t c l h =
    bool (ltb (next_page pages t c) pages)
    (λ i.
    let x = next_page pages t c in
    let d = drain 64 (64 * x) b t in
    let n = cursor_after pages d.left x in
    let r = release pages f (b - length d.out) d.left n in
    let y : x < pages = ltb-true x pages i in
    let m = drain-most 64 (64 * x) b t in
    let k = release-costs pages f (b - length d.out) d.left n (cursor-le pages d.left x y) (omega arith) in
    -- with no pair left this page holds none: either it was emptied, or the budget was spent on it and nothing came after it
    let empty : pairs_held pages r.retired ≡ 0 → page_holds d.left x ≡ false =
    λ z. elim (dec_lt (length d.out) b) [
      | yes s ↦ emptied pages x b t y s
      | no s ↦
          let e : b - length d.out ≡ 0 = omega arith in
          let same : r.retired ≡ d.left = ap (λ (a : ℕ). (release pages f a d.left n).retired) e ∙ without-budget pages f d.left n in
          none-in-page pages d.left (ap (pairs_held pages) (sym same) ∙ z) x y
    ] in
    rw (release-visits pages f b t c i) (record {
      spent = λ s. omega (arith, m, k.spent s);
      all = λ z. omega (arith, k.all z, length-append d.out r.out, one-page-less pages x b t y (round-held (page_holds t) pages c l y) (empty z));
    }))
    (λ i. rw (release-stops pages f b t c i) (record {
      spent = λ s. absurd (omega (arith, sum-zero (64 * pages) (λ (q : ℕ). held (t q)) (no-page pages t c l i)));
      all = λ z. omega (arith, no-pages-held pages t z);
    }))
