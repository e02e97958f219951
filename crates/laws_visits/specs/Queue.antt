-- The values that wait for release as a queue: a list of values for each retired page that holds one, in the order in which visits
-- come to the pages; and what a visit does to it. Definitions only. Assumes nothing.
use Rattle.std.proofs.Math.Option.{none, some}
use Rattle.std.specs.Prelude.{List, [], ◌∷◌, ◌++◌, ℕ, zero, suc, ◌+◌, ◌-◌, ◌*◌, length, take, drop}
use Rattle.model.specs.Table.{Table}
use Rattle.model.specs.Positions.{Positions}

-- ---- the queue of a table of retired pairs

-- the values at the n positions from p upwards: "values by rising position"
unfoldable pub values_from : ℕ → ℕ → Table → List ℕ
values_from zero p t = []
values_from (suc n) p t = elim (t p) [ none ↦ values_from n (suc p) t | some e ↦ e.value ∷ values_from n (suc p) t ]

abbrev pub page_values : Table → ℕ → List ℕ
page_values t g = values_from 64 (64 * g) t

-- a page's values before a queue: "Only retired pages that hold a value are inspected", so a page without one is not in it
abbrev pub queued : List ℕ → List (List ℕ) → List (List ℕ)
queued [] q = q
queued (v ∷ p) q = (v ∷ p) ∷ q

-- the queue of the n pages from g upwards, and of the pages from a up to e
unfoldable pub pages_from : ℕ → ℕ → Table → List (List ℕ)
pages_from zero g t = []
pages_from (suc n) g t = queued (page_values t g) (pages_from n (suc g) t)

abbrev pub pages_between : ℕ → ℕ → Table → List (List ℕ)
pages_between a e t = pages_from (e - a) a t

-- "Pages come from release_cursor upwards, then round"
abbrev pub queue_of : ℕ → Table → ℕ → List (List ℕ)
queue_of pages t cursor = pages_between cursor pages t ++ pages_between 0 cursor t

-- what waits at a window's positions
abbrev pub waiting : ℕ → Positions → List (List ℕ)
waiting pages x = queue_of pages x.retired x.cursor

-- ---- a visit to a queue

-- the values released, the units used, and the queue after it
pub record Visited : Type 0 where
  pub out : List ℕ
  pub units : ℕ
  pub rest : List (List ℕ)

abbrev pub visited : List ℕ → ℕ → List (List ℕ) → Visited
visited out units rest = record { out = out; units = units; rest = rest }

-- what is left of b units when they have paid for a page's values
abbrev pub units_left : ℕ → List ℕ → ℕ
units_left b p = b - length p

-- "Each page inspected and each value released costs one unit": a unit for the first page, one for each of its values as far as the
-- budget goes, and what is left for the pages after it
unfoldable pub visit : ℕ → List (List ℕ) → Visited
visit b [] = visited [] 0 []
visit zero (p ∷ q) = visited [] 0 (p ∷ q)
visit (suc b) (p ∷ q) =
    let r = visit (units_left b p) q in
    visited (take b p ++ r.out) (1 + length (take b p) + r.units) (queued (drop b p) r.rest)
