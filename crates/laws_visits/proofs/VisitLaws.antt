-- Laws of `visit`: one page more, by whether the budget is enough for it; one unit more, which releases one value more at most; and two
-- visits against one. The second of two visits pays once more for the page at which the first one stopped: that is the one value that
-- can be missing. Assumes nothing.
use mathlib.Core.Path.{◌≡◌, refl, sym, ap, ◌∙◌}
use mathlib.Core.List.{List, [], ◌∷◌, ◌++◌, append-nil, append_assoc}
use Prim.Native.Nat.{ℕ, zero, suc, ◌+◌, ◌-◌, ◌≤◌, ◌<◌}
use native.Mathlib.Omega.{arith}
use native.Mathlib.Decide.{dec_le}
use lib.ListN.{length, get_or, take, drop, length-append, length-take, length-drop, drop_of_length-le}
use lib.Seq.{take_all, take-suc, take-add}
use Rattle.laws_visits.specs.Queue.{queued, visited, units_left, visit}
use Rattle.laws_visits.specs.TwoVisits.{Begins, LacksAtMostOne}

-- ---- one page more

pub visit-none : (b : ℕ) → visit b [] ≡ visited [] 0 []
unfolding visit
visit-none b = refl

pub visit-zero : (q : List (List ℕ)) → visit 0 q ≡ visited [] 0 q
unfolding visit
visit-zero [] = refl
visit-zero (p ∷ q) = refl

pub visit-page : (b : ℕ) (p : List ℕ) (q : List (List ℕ)) →
    let r = visit (units_left b p) q in
    visit (suc b) (p ∷ q) ≡ visited (take b p ++ r.out) (1 + length (take b p) + r.units) (queued (drop b p) r.rest)
unfolding visit
visit-page b p q = refl

pub queued-some : (p : List ℕ) (q : List (List ℕ)) → 0 < length p → queued p q ≡ p ∷ q
queued-some [] q l = absurd (omega arith)
queued-some (v ∷ p) q l = refl

-- the budget is enough for the page: it is emptied
visit-whole : (b : ℕ) (p : List ℕ) (q : List (List ℕ)) → length p ≤ b →
    let r = visit (units_left b p) q in
    visit (suc b) (p ∷ q) ≡ visited (p ++ r.out) (1 + length p + r.units) r.rest
visit-whole b p q l =
    let r = visit (units_left b p) q in
    visit-page b p q ∙ (λ i. visited (take_all b p l i ++ r.out) (1 + length (take_all b p l i) + r.units) (queued (drop_of_length-le p l i) r.rest))

-- it is not: the visit ends at this page
visit-part : (b : ℕ) (p : List ℕ) (q : List (List ℕ)) → b < length p → visit (suc b) (p ∷ q) ≡ visited (take b p) (1 + b) (drop b p ∷ q)
visit-part b p q l =
    let none : units_left b p ≡ 0 = omega arith in
    let cost : 1 + length (take b p) + 0 ≡ 1 + b = omega (arith, length-take b p) in
    let ends : visit (units_left b p) q ≡ visited [] 0 q = ap (λ (k : ℕ). visit k q) none ∙ visit-zero q in
    visit-page b p q
    ∙ (λ i. visited (take b p ++ (ends i).out) (1 + length (take b p) + (ends i).units) (queued (drop b p) (ends i).rest))
    ∙ (λ i. visited (append-nil (take b p) i) (cost i) (queued-some (drop b p) q (omega (arith, length-drop b p)) i))

-- after the page a visit goes on with the budget less what was released: the inspection is paid
pub visit-left : (b : ℕ) (p : List ℕ) (q : List (List ℕ)) →
    let r = visit (units_left b p) q in
    visit (b - length (take b p)) (queued (drop b p) q) ≡ visited r.out r.units (queued (drop b p) r.rest)
visit-left b p q = elim (dec_le (length p) b) [
  | yes l ↦ rw (take_all b p l, drop_of_length-le p l)
  | no l ↦
      let none : units_left b p ≡ 0 = omega arith in
      let spent_all : b - length (take b p) ≡ 0 = omega (arith, length-take b p) in
      rw (none, spent_all, visit-zero q, visit-zero (queued (drop b p) q))
]

-- ---- lists of which one lacks at most one value

lacks-none : (xs : List ℕ) → LacksAtMostOne xs xs
lacks-none xs = (record { rest = []; whole = append-nil xs }, omega arith)

-- the same values before both
lacks-after : (zs xs ys : List ℕ) → LacksAtMostOne xs ys → LacksAtMostOne (zs ++ xs) (zs ++ ys)
lacks-after zs xs ys h =
    let r = h.0.rest in (
      record { rest = r; whole = append_assoc zs xs r ∙ ap (λ (l : List ℕ). zs ++ l) h.0.whole },
      omega (arith, h.1, length-append zs xs, length-append zs ys),
    )

-- one value more of a list
lacks-last : (b : ℕ) (p : List ℕ) → b < length p → LacksAtMostOne (take b p) (take (suc b) p)
lacks-last b p l =
    (record { rest = get_or p b 0 ∷ []; whole = sym (take-suc p b 0 l) }, omega (arith, length-take b p, length-take (suc b) p))

-- ---- one unit more

one_more : (b : ℕ) (q : List (List ℕ)) → LacksAtMostOne (visit b q).out (visit (suc b) q).out
one_more b [] = rw (visit-none b, visit-none (suc b)) (lacks-none [])
one_more zero (p ∷ q) =
    let none : units_left 0 p ≡ 0 = omega arith in
    rw (visit-zero (p ∷ q), visit-page 0 p q, none, visit-zero q) (lacks-none [])
one_more (suc b) (p ∷ q) = elim (dec_le (length p) b) [
  | yes l ↦
      let less : units_left (suc b) p ≡ suc (units_left b p) = omega arith in
      rw (visit-whole b p q l, visit-whole (suc b) p q (omega arith), less)
      (lacks-after p (visit (units_left b p) q).out (visit (suc (units_left b p)) q).out (one_more (units_left b p) q))
  | no l ↦
      let none : units_left (suc b) p ≡ 0 = omega arith in
      rw (visit-part b p q (omega arith), visit-page (suc b) p q, none, visit-zero q, append-nil (take (suc b) p))
      (lacks-last b p (omega arith))
]

-- ---- two visits

-- a visit that stops within a page, and one that goes on there without paying for the page again
goes_on : (a b : ℕ) (p : List ℕ) (q : List (List ℕ)) → a < length p
    → (visit (suc (a + b)) (p ∷ q)).out ≡ take a p ++ (visit (suc b) (drop a p ∷ q)).out
goes_on a b p q l =
    let left : units_left (a + b) p ≡ units_left b (drop a p) = omega (arith, length-drop a p) in
    rw (visit-page (a + b) p q, visit-page b (drop a p) q, left, take-add a b p)
    (append_assoc (take a p) (take b (drop a p)) (visit (units_left b (drop a p)) q).out)

pub two-visits : (a b : ℕ) (q : List (List ℕ)) → LacksAtMostOne ((visit a q).out ++ (visit b (visit a q).rest).out) (visit (a + b) q).out
two-visits a b [] = rw (visit-none a, visit-none b, visit-none (a + b)) (lacks-none [])
two-visits zero b (p ∷ q) =
    let same : 0 + b ≡ b = omega arith in
    rw (visit-zero (p ∷ q), same) (lacks-none (visit b (p ∷ q)).out)
two-visits (suc a) b (p ∷ q) =
    let sum : suc a + b ≡ suc (a + b) = omega arith in
    elim (dec_le (length p) a) [
      | yes l ↦
          let r = visit (units_left a p) q in
          let left : units_left (a + b) p ≡ units_left a p + b = omega arith in
          rw (sum, visit-whole a p q l, visit-whole (a + b) p q (omega arith), left, append_assoc p r.out (visit b r.rest).out)
          (lacks-after p (r.out ++ (visit b r.rest).out) (visit (units_left a p + b) q).out (two-visits (units_left a p) b q))
      | no l ↦
          rw (sum, visit-part a p q (omega arith), goes_on a b p q (omega arith))
          (lacks-after (take a p) (visit b (drop a p ∷ q)).out (visit (suc b) (drop a p ∷ q)).out (one_more b (drop a p ∷ q)))
    ]

-- ---- a larger budget: what is released is that of the smaller one, and of a visit of the difference after it

pub larger-budget : (a b : ℕ) (q : List (List ℕ)) → a ≤ b → Begins (visit a q).out (visit b q).out
larger-budget a b q l =
    let h = (two-visits a (b - a) q).0 in
    let sum : a + (b - a) ≡ b = omega arith in
    let x = visit a q in
    let y = visit (b - a) x.rest in
    record {
      rest = y.out ++ h.rest;
      whole = sym (append_assoc x.out y.out h.rest) ∙ h.whole ∙ ap (λ (k : ℕ). (visit k q).out) sum;
    }
