-- The acknowledge point, and what calls and a base set make of it, worked out. By computation on the definitions. Assumes nothing.
use mathlib.Core.Path.{◌≡◌, refl}
use mathlib.Core.Bool.{true, false, cond}
use mathlib.Core.Option.{none, some}
use mathlib.Core.List.{List, [], ◌∷◌}
use Prim.Native.Nat.{ℕ, ◌+◌, ◌-◌, ◌%◌}
use lib.Dec.{ltb}
use Rattle.words.specs.First.{first_from_of}
use Rattle.window.specs.Memory.{capacity}
use Rattle.model.specs.Table.{Table, pair_of, fresh, sequence_at_of, distance}
use Rattle.model.specs.Point.{is_live, reach, point_of}
use Rattle.laws_acknowledge.specs.Advance.{advance}
use Rattle.laws_acknowledge.specs.Increments.{inserted, removed, after_insert_of, after_remove_of, after_range_of, after_set_base}

-- a table into which these sequences were inserted, the last first
abbrev with : ℕ → List ℕ → Table
with size [] = fresh
with size (s ∷ ss) = inserted size (with size ss) s 7

-- a table of capacity 128 with n sequences in a row from s, and nothing else
abbrev row : ℕ → ℕ → Table
row s n q =
    let d = (q + 128 - s % 128) % 128 in
    cond (ltb d n) (some (pair_of (sequence_at_of s d) 7)) none

-- ---- the point

-- through 2147483647 to 0
wraps : point_of 64 (with 64 (2147483647 ∷ [])) 2147483647 ≡ 0
unfolding reach first_from_of capacity
wraps = refl

-- window_size sequences are looked at: the point may itself be live
window-one : (point_of 1 (with 1 (0 ∷ 1 ∷ [])) 0 ≡ 1) × (is_live 1 (with 1 (0 ∷ 1 ∷ [])) 1 ≡ true)
unfolding reach first_from_of capacity
window-one = (refl, refl)

-- another sequence at the position does not count: one capacity on, or with the top bit
alias : (point_of 64 (with 64 (64 ∷ [])) 0 ≡ 0) × (point_of 64 (with 64 (2147483648 ∷ [])) 0 ≡ 0)
    -- and an insert at the point that it refuses changes nothing
    × (point_of 64 (inserted 64 (with 64 (64 ∷ [])) 0 7) 0 ≡ 0)
unfolding reach first_from_of capacity
alias = (refl, refl, refl)

-- window_size 65 has 128 positions; all 65 live, from a base that wraps: the point is 65 on, live or not; 64 live: it is 64 on
all_live : (point_of 65 (row 2147483600 65) 2147483600 ≡ 17) × (point_of 65 (row 2147483600 66) 2147483600 ≡ 17)
    × (point_of 65 (row 2147483600 64) 2147483600 ≡ 16)
unfolding reach first_from_of capacity
all_live = (refl, refl, refl)

-- ---- after a call

-- a hole filled; an insert away from the point; one that is not new; one at base plus window_size
inserts :
    (let t = with 64 (0 ∷ 1 ∷ 3 ∷ []) in after_insert_of 64 (inserted 64 t 2 7) 0 2 2 true ≡ 4)
    × (let t = with 64 (0 ∷ 1 ∷ 3 ∷ []) in after_insert_of 64 (inserted 64 t 4 7) 0 2 4 true ≡ 2)
    × (let t = with 64 (64 ∷ []) in after_insert_of 64 (inserted 64 t 0 7) 0 0 0 false ≡ 0)
    × (after_insert_of 65 (row 2147483600 66) 2147483600 17 17 true ≡ 17)
unfolding advance first_from_of capacity distance
inserts = (refl, refl, refl, refl)

-- before the point, after it, absent
removals : (after_remove_of 0 4 1 true ≡ 1) × (after_remove_of 0 4 9 true ≡ 4) × (after_remove_of 0 4 1 false ≡ 4)
unfolding distance
removals = (refl, refl, refl)

-- two positions each: round to the base's own, before the point, from the point on, and from a base that wraps
ranges : (after_range_of 128 127 2 0 5 ≡ 0) × (after_range_of 128 3 2 0 5 ≡ 3) × (after_range_of 128 5 2 0 5 ≡ 5) × (after_range_of 128 1 2 2147483647 5 ≡ 1)
unfolding distance
ranges = (refl, refl, refl, refl)

-- ---- the base set

-- 0, 1, 3, 4 live, base 0, point 2: to 1 and to the point itself the point stays; past it, to a live sequence and to one that is not
set_on :
    (let t = with 64 (0 ∷ 1 ∷ 3 ∷ 4 ∷ []) in
    (after_set_base 64 t 0 2 1 ≡ 2) × (after_set_base 64 t 0 2 2 ≡ 2) × (after_set_base 64 t 0 2 3 ≡ 5) × (after_set_base 64 t 0 2 6 ≡ 6))
unfolding advance first_from_of capacity distance
set_on = (refl, refl, refl, refl)

-- all 65 live and 5 more: the point goes on past the old limit; past all of them it is the new base
set-past-the-limit : (after_set_base 65 (row 2147483600 70) 2147483600 17 2147483610 ≡ 22) × (after_set_base 65 (row 2147483600 70) 2147483600 17 23 ≡ 23)
unfolding advance first_from_of capacity distance
set-past-the-limit = (refl, refl)

-- backwards: by 10 over live sequences, where window_size ends before the old point; by 1 to a sequence that is not live
set_back : (after_set_base 65 (row 2147483590 70) 2147483600 12 2147483590 ≡ 7) × (after_set_base 65 (row 2147483600 10) 2147483600 2147483610 2147483599 ≡ 2147483599)
unfolding advance first_from_of capacity distance
set_back = (refl, refl)

-- a point further than window_size from its base, as no table has: the advance from the new base
set-from-no-point : (let t = with 64 (0 ∷ 1 ∷ 3 ∷ 4 ∷ []) in after_set_base 64 t 0 100 80 ≡ 80) × (let t = with 64 (0 ∷ 1 ∷ 3 ∷ 4 ∷ []) in after_set_base 64 t 0 100 3 ≡ 5)
unfolding advance first_from_of capacity distance
set-from-no-point = (refl, refl)

-- the front taken: where all 65 were live, with and without the sequence past them; with window_size 1
front :
    (let t = row 2147483600 66 in after_set_base 65 (removed 65 t 2147483600) 2147483600 17 2147483601 ≡ 18)
    × (let t = row 2147483600 65 in after_set_base 65 (removed 65 t 2147483600) 2147483600 17 2147483601 ≡ 17)
    × (let t = with 1 (0 ∷ 1 ∷ []) in after_set_base 1 (removed 1 t 0) 0 1 1 ≡ 2)
unfolding advance first_from_of capacity distance
front = (refl, refl, refl)
