-- What each call, and a base set, makes of the acknowledge point before it: a few comparisons, and an advance where the point may go
-- on. That each is the point worked out afresh: IncrementLaws, RangeLaws and BaseLaws. Definitions only. Assumes nothing.
use Rattle.std.specs.Prelude.{Bool, cond, ◌&&◌, ℕ, ◌+◌, ◌-◌, ◌%◌, eqb, ltb, leb}
use Rattle.window.specs.Memory.{position}
use Rattle.model.specs.Table.{Table, at, put_at, exchange_at, remove_at, sequence_at_of, covers, distance}
use Rattle.laws_acknowledge.specs.Advance.{advance}

-- ---- the table after insert, exchange and remove, as the plain table has them

abbrev pub inserted : ℕ → Table → ℕ → ℕ → Table
inserted size t s v = at t (position size s) (put_at s v (t (position size s)))

abbrev pub exchanged : ℕ → Table → ℕ → ℕ → Table
exchanged size t s v = at t (position size s) (exchange_at s v (t (position size s)))

abbrev pub removed : ℕ → Table → ℕ → Table
removed size t s = at t (position size s) (remove_at s (t (position size s)))

-- ---- the point after each call; t is the table after it, `base` and `point` are those before it

-- insert: `new` says that nothing stood at the position. Only a new value at the point itself moves the point, and not where the point
-- is base plus window_size: then the advance from the distance after it.
abbrev pub moves_point : ℕ → (base point s : ℕ) → Bool → Bool
moves_point size base point s new = new && (eqb s point && ltb (distance base point) size)

abbrev pub after_insert_of : ℕ → Table → (base point s : ℕ) → Bool → ℕ
after_insert_of size t base point s new = cond (moves_point size base point s new) (sequence_at_of base (advance size t base (distance base point + 1))) point

-- remove: a sequence that was found before the point is the point after it
abbrev pub after_remove_of : (base point s : ℕ) → Bool → ℕ
after_remove_of base point s found = cond (found && ltb (distance base s) (distance base point)) s point

-- the least distance from a base at position b whose position is in a range: 0 if b is in it, else how far its start is
abbrev pub least_covered : (cap start count b : ℕ) → ℕ
least_covered cap start count b = cond (covers cap start count b) 0 ((start + cap - b) % cap)

-- remove_range: the sequence at that distance, if it is before the point
abbrev pub after_range_of : (cap start count base point : ℕ) → ℕ
after_range_of cap start count base point =
    let d = least_covered cap start count (base % cap) in
    cond (ltb d (distance base point)) (sequence_at_of base d) point

-- s is in base .. point. (A point further than window_size from its base is no table's; the test for it keeps `size - distance base s`
-- from falling below 0 whatever a header holds.)
abbrev pub up_to_point : ℕ → (base point s : ℕ) → Bool
up_to_point size base point s = leb (distance base s) (distance base point) && leb (distance base point) size

-- The base set to s, which changes no value. If s is in base .. point, all from s up to the point are live, and the point stays; but a
-- point that was base plus window_size may go on, by the advance from there. Else the advance from s.
-- Taking the front is a removal of the base, and then the base set to the next sequence.
abbrev pub after_set_base : ℕ → Table → (base point s : ℕ) → ℕ
after_set_base size t base point s =
    cond (up_to_point size base point s)
    (cond (ltb (distance base point) size) point (sequence_at_of s (advance size t s (size - distance base s))))
    (sequence_at_of s (advance size t s 0))
