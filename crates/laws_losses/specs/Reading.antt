-- A loss list read mark by mark, with the next distance that no mark has decided and what stands before it. Definitions only. Assumes
-- nothing.
use Rattle.std.specs.Prelude.{Bool, true, false, cond, ◌&&◌, List, [], ◌∷◌, ◌++◌, map, ℕ, ◌+◌, ◌-◌, leb, ltb, eqb}
use Rattle.std.proofs.Math.Option.{Option, none, some}
use Rattle.laws_losses.specs.Marks.{Mark, single, opens, stray, mark_of, falses, trues}

-- what stands before the next distance: nothing that is lost; a run of one word; a longer run; or at that distance the first word of a run
-- whose second has not come
pub data Phase : Type 0 where
  clear : Phase
  alone : Phase
  ended : Phase
  opened : Phase

-- how many sequences must not be lost before the next run: runs do not touch
abbrev pub least_gap_of : Phase → ℕ
least_gap_of clear = 0
least_gap_of alone = 1
least_gap_of ended = 1
least_gap_of opened = 0

abbrev pub is_opened_of : Phase → Bool
is_opened_of clear = false
is_opened_of alone = false
is_opened_of ended = false
is_opened_of opened = true

pub record Place : Type 0 where
  pub at : ℕ
  pub phase : Phase

abbrev pub place : ℕ → Phase → Place
place a p = record { at = a; phase = p }

-- what a mark says: so many that are not lost, then so many that are, and the place after them
pub record Turn : Type 0 where
  pub gap : ℕ
  pub lost : ℕ
  pub next : Place

abbrev pub turn_to : ℕ → ℕ → Place → Turn
turn_to gap lost next = record { gap = gap; lost = lost; next = next }

abbrev pub allow : Bool → Turn → Option Turn
allow b t = cond b (some t) none

-- a run of one word, and a first word, that touch no run before them
abbrev pub alone_at : (n a o : ℕ) → Bool → Option Turn
alone_at n a o after = allow (after && ltb o n) (turn_to (o - a) 1 (place (o + 1) alone))

abbrev pub opened_at : (n a o : ℕ) → Bool → Option Turn
opened_at n a o after = allow (after && ltb o n) (turn_to (o - a) 0 (place o opened))

-- a mark met at a place, in a range of n sequences; none if no list has it there
abbrev pub turn : ℕ → ℕ → Phase → Mark → Option Turn
turn n a clear (single o) = alone_at n a o (leb a o)
turn n a clear (opens o) = opened_at n a o (leb a o)
turn n a clear (stray w) = none
turn n a alone (single o) = cond (eqb o a) (allow (ltb o n) (turn_to 0 1 (place (o + 1) ended))) (alone_at n a o (ltb a o))
turn n a alone (opens o) = opened_at n a o (ltb a o)
turn n a alone (stray w) = none
turn n a ended (single o) = alone_at n a o (ltb a o)
turn n a ended (opens o) = opened_at n a o (ltb a o)
turn n a ended (stray w) = none
turn n a opened (single o) = allow (leb (a + 2) o && ltb o n) (turn_to 0 ((o + 1) - a) (place (o + 1) ended))
turn n a opened (opens o) = none
turn n a opened (stray w) = none

-- ---- the whole list

-- flags before those that are read after them
abbrev pub onto : List Bool → Option (List Bool) → Option (List Bool)
onto f none = none
onto f (some g) = some (f ++ g)

abbrev pub said_by : Turn → List Bool
said_by t = falses t.gap ++ trues t.lost

abbrev pub go_on : Option Turn → (Place → Option (List Bool)) → Option (List Bool)
go_on none rest = none
go_on (some t) rest = onto (said_by t) (rest t.next)

-- the flags from a place on; past the last mark nothing is lost
unfoldable pub read_from : ℕ → Place → List Mark → Option (List Bool)
read_from n p [] = cond (is_opened_of p.phase) none (some (falses (n - p.at)))
read_from n p (m ∷ l) = go_on (turn n p.at p.phase m) (λ (q : Place). read_from n q l)

-- the losses of the range of n sequences from first, if some set of them has this list
abbrev pub read_list : ℕ → ℕ → List ℕ → Option (List Bool)
read_list first n l = read_from n (place 0 clear) (map (mark_of first) l)

abbrev pub is_taken : Option (List Bool) → Bool
is_taken none = false
is_taken (some f) = true
