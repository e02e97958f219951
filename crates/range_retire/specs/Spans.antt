-- Stretches of positions: the partial pages at either end, and how many values they can return. Definitions only. Assumes nothing.
use Rattle.std.specs.Prelude.{cond, ◌++◌, ℕ, ◌+◌, ◌-◌, ◌/◌, ◌%◌, eqb}
use Rattle.model.specs.Window.{Window}
use Rattle.model.specs.Steps.{Returned, returned_by, retire_stretch}
use Rattle.laws_soundness.specs.Retire.{first_page, last_page}

-- one step after another: what both return
abbrev pub and_then : (Window → Returned) → (Window → Returned) → Window → Returned
and_then f g w = returned_by (g (f w).after).after ((f w).out ++ (g (f w).after).out)

-- the partial pages at either end of the stretch from a up to e
abbrev pub end_pages : Window → ℕ → ℕ → Returned
end_pages w a e = and_then (λ (v : Window). first_page v a) (λ (v : Window). last_page v e) w

-- the values that a partial page at a position can return: none at a page's beginning
unfoldable pub partial : ℕ → ℕ
partial q = cond (eqb (q % 64) 0) 0 64

-- and the stretch from a up to e
unfoldable pub span_most : ℕ → ℕ → ℕ
span_most a e = cond (eqb (a / 64) ((e - 1) / 64)) 64 (partial a + partial e)

-- the stretch from a up to e, and then that from 0 up to rest
abbrev pub two_stretches : ℕ → ℕ → ℕ → Window → Returned
two_stretches a e rest = and_then (λ (v : Window). retire_stretch v a e) (λ (v : Window). retire_stretch v 0 rest)
