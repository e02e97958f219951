-- The queue of a table's pages: the pages in a row, the same queue from another cursor where no page that holds a value is passed, and
-- its first page. Assumes nothing.
use mathlib.Core.Path.{◌≡◌, refl, sym, ap, ◌∙◌}
use mathlib.Core.Bool.{false}
use mathlib.Core.List.{List, [], ◌∷◌, ◌++◌, append-nil}
use Prim.Native.Nat.{ℕ, zero, suc, ◌+◌, ◌-◌, ◌%◌, ◌≤◌, ◌<◌}
use native.Mathlib.Omega.{arith}
use native.Mathlib.Nat.{mod-eq_of_lt, mod_self}
use native.Mathlib.Decide.{ℕ_discrete}
use lib.Dec.{ltb}
use borrow.Author.Tests.{ltb-true, ltb-false}
use Rattle.words.specs.First.{first_from_of}
use Rattle.words.proofs.CaseLaws.{bool}
use Rattle.words.proofs.FirstLaws.{first-is, round_up, round-low, round-end, round-le, round-none}
use Rattle.model.specs.Table.{Table}
use Rattle.model.specs.Positions.{page_holds, next_page, cursor_after}
use Rattle.laws_visits.specs.Queue.{page_values, queued, pages_from, pages_between, queue_of}
use Rattle.laws_visits.proofs.ValueLaws.{page-none}

-- ---- pages in a row

queued-append : (p : List ℕ) (q r : List (List ℕ)) → queued p q ++ r ≡ queued p (q ++ r)
queued-append [] q r = refl
queued-append (v ∷ p) q r = refl

pages-end : (g : ℕ) (t : Table) → pages_from 0 g t ≡ []
unfolding pages_from
pages-end g t = refl

pages-next : (n g : ℕ) (t : Table) → pages_from (suc n) g t ≡ queued (page_values t g) (pages_from n (suc g) t)
unfolding pages_from
pages-next n g t = refl

pages-append : (m n g e s : ℕ) (t : Table) → s ≡ m + n → e ≡ m + g → pages_from s g t ≡ pages_from m g t ++ pages_from n e t
pages-append zero n g e s t a b =
    let count : s ≡ n = omega arith in
    let from : g ≡ e = omega arith in
    rw (pages-end g t) (λ i. pages_from (count i) (from i) t)
pages-append (suc m) n g e s t a b =
    let count : s ≡ suc (m + n) = omega arith in
    rw (count, pages-next (m + n) g t, pages-next m g t, queued-append (page_values t g) (pages_from m (suc g) t) (pages_from n e t))
    (ap (queued (page_values t g)) (pages-append m n (suc g) e (m + n) t refl (omega arith)))

pages-none : (n g : ℕ) (t : Table) → ((h : ℕ) → g ≤ h → h < g + n → page_holds t h ≡ false) → pages_from n g t ≡ []
pages-none zero g t h = pages-end g t
pages-none (suc n) g t h =
    rw (pages-next n g t, page-none t g (h g (omega arith) (omega arith))) (pages-none n (suc g) t (λ x a b. h x (omega arith) (omega arith)))

pub pages-same : (n g : ℕ) (s t : Table) → ((h : ℕ) → g ≤ h → h < g + n → page_values s h ≡ page_values t h) → pages_from n g s ≡ pages_from n g t
pages-same zero g s t h = pages-end g s ∙ sym (pages-end g t)
pages-same (suc n) g s t h =
    rw (pages-next n g s, pages-next n g t)
    (λ i. queued (h g (omega arith) (omega arith) i) (pages-same n (suc g) s t (λ x a b. h x (omega arith) (omega arith)) i))

-- ---- from another cursor

module _ (pages : ℕ) (t : Table) where
  between_none : (a e : ℕ) → ((h : ℕ) → a ≤ h → h < e → page_holds t h ≡ false) → pages_between a e t ≡ []
  between_none a e h = pages-none (e - a) a t (λ g x y. h g x (omega arith))

  between_split : (a m e : ℕ) → a ≤ m → m ≤ e → pages_between a e t ≡ pages_between a m t ++ pages_between m e t
  between_split a m e l k = pages-append (m - a) (e - m) a m (e - a) t (omega arith) (omega arith)

  -- pages that hold no value may be passed
  queue-passes : (c g : ℕ) → c ≤ g → g ≤ pages → ((h : ℕ) → c ≤ h → h < g → page_holds t h ≡ false) → queue_of pages t c ≡ queue_of pages t g
  queue-passes c g l k h =
      let none = between_none c g h in
      let upper : pages_between c pages t ≡ pages_between g pages t = between_split c g pages l k ∙ ap (λ (q : List (List ℕ)). q ++ pages_between g pages t) none in
      let lower : pages_between 0 g t ≡ pages_between 0 c t =
      between_split 0 c g (omega arith) l ∙ ap (λ (q : List (List ℕ)). pages_between 0 c t ++ q) none ∙ append-nil (pages_between 0 c t) in
      rw (upper, lower)

  -- past the last page comes the first
  queue-round : queue_of pages t pages ≡ queue_of pages t 0
  queue-round =
      let last = between_none pages pages (λ h a b. absurd (omega arith)) in
      let first = between_none 0 0 (λ h a b. absurd (omega arith)) in
      rw (last, first, append-nil (pages_between 0 pages t))

  -- the queue from the next page is that from the cursor
  pub queue-next : (c : ℕ) → c ≤ pages → next_page pages t c < pages → queue_of pages t c ≡ queue_of pages t (next_page pages t c)
  queue-next c l =
      let up = first_from_of (page_holds t) (pages - c) c in
      let low = first_from_of (page_holds t) c 0 in
      let a = first-is (page_holds t) (pages - c) c in
      let b = first-is (page_holds t) c 0 in
      bool (ltb up pages)
      (λ i. rw (round_up (page_holds t) pages c i) (λ k. queue-passes c up a.from (omega (arith, ltb-true up pages i)) a.none))
      (λ i. bool (ltb low c)
      (λ j. rw (round-low (page_holds t) pages c i j) (λ k.
      queue-passes c pages l (omega arith) (λ h x y. a.none h x (omega (arith, ltb-false up pages i)))
      ∙ queue-round ∙ queue-passes 0 low (omega arith) (omega (arith, ltb-true low c j)) b.none))
      (λ j. rw (round-end (page_holds t) pages c i j) (λ k. absurd (omega arith))))

  -- where no page is found nothing waits
  pub queue-empty : (c : ℕ) → c ≤ pages → ltb (next_page pages t c) pages ≡ false → queue_of pages t c ≡ []
  queue-empty c l i =
      let e : next_page pages t c ≡ pages = omega (arith, ltb-false (next_page pages t c) pages i, round-le (page_holds t) pages c l) in
      let none = round-none (page_holds t) pages c l e in
      rw (between_none c pages (λ h a b. none h b), between_none 0 c (λ h a b. none h (omega arith)))

  module _ (g : ℕ) (below : g < pages) where
    -- "An emptied page moves the cursor to the next page, another keeps it": the queue is the same
    pub queue-cursor : queue_of pages t (cursor_after pages t g) ≡ queue_of pages t g
    queue-cursor =
        bool (page_holds t g)
        (λ i. rw i)
        (λ i. rw i (
        let on = queue-passes g (g + 1) (omega arith) (omega arith) (λ h a b. let e : h ≡ g = omega arith in rw e i) in
        elim (ℕ_discrete (g + 1) pages) [
          | yes e ↦ let z : (g + 1) % pages ≡ 0 = ap (λ (n : ℕ). n % pages) e ∙ mod_self pages in
              rw z (sym (on ∙ ap (queue_of pages t) e ∙ queue-round))
          | no e ↦ let z : (g + 1) % pages ≡ g + 1 = mod-eq_of_lt (omega arith) in rw z (sym on)
        ]))

    -- the pages after it and before it
    abbrev pub others : List (List ℕ)
    others = pages_between (suc g) pages t ++ pages_between 0 g t

    pub queue-head : queue_of pages t g ≡ queued (page_values t g) others
    queue-head =
        let n : pages - g ≡ suc (pages - suc g) = omega arith in
        rw (n, pages-next (pages - suc g) g t) (queued-append (page_values t g) (pages_between (suc g) pages t) (pages_between 0 g t))
