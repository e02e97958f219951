-- Demands 2 and 3 of document 00, as one type about whole histories of two heads. What a head is stays open here: its states, which
-- step may follow which, and what is seen of a state. Definitions and statements only. Assumes nothing.
use Rattle.std.specs.Prelude.{◌≡◌, Bool, true, false, cond, ◌&&◌, List, [], ◌∷◌, ◌++◌, ℕ, zero, suc, ◌+◌, ◌/◌, ◌≤◌, eqb, length, take}
use Rattle.std.proofs.Math.Option.{Option, none, some}
use Rattle.window.specs.Memory.{capacity}
use Rattle.model.specs.Calls.{Call, release_retired, Answer}
use Rattle.model.specs.Table.{Pair, Table, TableState, fresh_table, table_step}
use Rattle.model.specs.Point.{point_of}
use Rattle.model.specs.Roles.{role_of, told_of}

-- ---- counting with repeats

abbrev pub one : Bool → ℕ
one true = 1
one false = 0

-- how often v stands in a list
abbrev pub times : ℕ → List ℕ → ℕ
times v [] = 0
times v (x ∷ xs) = one (eqb x v) + times v xs

-- how often a pair of this sequence and value stands in a list
abbrev pub copies : ℕ → ℕ → List Pair → ℕ
copies s v [] = 0
copies s v (x ∷ xs) = one (eqb x.sequence s && eqb x.value v) + copies s v xs

-- the same pairs, each as often
unfoldable pub SamePairs : List Pair → List Pair → Type 0
SamePairs xs ys = (s v : ℕ) → copies s v xs ≡ copies s v ys

abbrev pub values : List Pair → List ℕ
values [] = []
values (x ∷ xs) = x.value ∷ values xs

-- ---- the plain table over a list of calls

-- the table's pairs at the positions below n
abbrev pub also : Option Pair → List Pair → List Pair
also none l = l
also (some e) l = e ∷ l

abbrev pub pairs_below : ℕ → Table → List Pair
pairs_below zero t = []
pairs_below (suc n) t = also (t n) (pairs_below n t)

-- the values at positions below n that t holds and u does not
abbrev pub lose : Option Pair → Option Pair → List ℕ → List ℕ
lose none u l = l
lose (some e) none l = e.value ∷ l
lose (some e) (some d) l = l

abbrev pub lost : ℕ → Table → Table → List ℕ
lost zero t u = []
lost (suc n) t u = lose (t n) (u n) (lost n t u)

-- the table after the calls; what it tells of each answer; the values that emptying calls emptied
abbrev pub table_after : ℕ → TableState → List Call → TableState
table_after size t [] = t
table_after size t (c ∷ cs) = table_after size (table_step size t c).after cs

abbrev pub table_answers : ℕ → TableState → List Call → List (Option Answer)
table_answers size t [] = []
table_answers size t (c ∷ cs) = told_of (role_of c) (table_step size t c).answer ∷ table_answers size (table_step size t c).after cs

abbrev pub table_emptied : ℕ → TableState → List Call → List ℕ
table_emptied size t [] = []
table_emptied size t (c ∷ cs) =
    cond (role_of c).emptying (lost (capacity size) t.pairs (table_step size t c).after.pairs) [] ++ table_emptied size (table_step size t c).after cs

-- ---- a head's history

-- one call of a head: its answer, and the values in its return list
pub record Entry : Type 0 where
  pub call : Call
  pub answer : Answer
  pub returned : List ℕ

abbrev pub calls_of : List Entry → List Call
calls_of [] = []
calls_of (e ∷ es) = e.call ∷ calls_of es

-- "one common list of calls": what is left without the calls of release_retired
abbrev pub common : List Call → List Call
common [] = []
common (c ∷ cs) = cond (role_of c).release [] (c ∷ []) ++ common cs

-- what the table tells of each answer, as the head gave it; the same of the calls of the common list
abbrev pub answers_of : List Entry → List (Option Answer)
answers_of [] = []
answers_of (e ∷ es) = (role_of e.call).told e.answer ∷ answers_of es

abbrev pub shared_of : List Entry → List (Option Answer)
shared_of [] = []
shared_of (e ∷ es) = cond (role_of e.call).release [] ((role_of e.call).told e.answer ∷ []) ++ shared_of es

abbrev pub accepted_of : List Entry → List ℕ
accepted_of [] = []
accepted_of (e ∷ es) = (role_of e.call).accepted e.answer ++ accepted_of es

abbrev pub handed_back_of : List Entry → List ℕ
handed_back_of [] = []
handed_back_of (e ∷ es) = (role_of e.call).handed_back e.answer ++ handed_back_of es

abbrev pub returned_of : List Entry → List ℕ
returned_of [] = []
returned_of (e ∷ es) = e.returned ++ returned_of es

-- "Calls of release_retired made next with no other call between, each with a long enough return list and a budget of at most 256",
-- and "the budgets' halves rounded down" added up
pub data Visits : List Entry → ℕ → Type 0 where
  no_visit : Visits [] 0
  visit : {e : Entry} {es : List Entry} {halves : ℕ} (budget : ℕ) → e.call ≡ release_retired budget true → budget ≤ 256
      → Visits es halves → Visits (e ∷ es) (budget / 2 + halves)

-- What a head is: its states, which call may be made in which and what it leaves, which states are sound, and what is seen of a state.
pub record Head : Type 1 where
  pub State : Type 0
  -- a call in state u may give this entry and leave state v
  pub Met : State → Entry → State → Type 0
  pub Sound : State → Type 0
  -- "Live pairs are those iter gives from 0 until done"
  pub pairs : State → List Pair
  -- "Retired are the values in cells in use that iter does not reach"
  pub retired : State → List ℕ
  pub retired_values_held : State → ℕ
  pub len : State → ℕ
  -- document 02, S-1: "Keep in the header a base .. and a point"
  pub base : State → ℕ
  pub point : State → ℕ

module _ (H : Head) where
  -- "Each call gets header and memory as the last left them; nobody else writes them."
  pub data History : H.State → List Entry → H.State → Type 0 where
    begun : {u : H.State} → History u [] u
    goes_on : {u v w : H.State} {e : Entry} {es : List Entry} → H.Met u e v → History v es w → History u (e ∷ es) w

  -- the state after the first k calls
  abbrev pub state_after : {u w : H.State} {es : List Entry} → ℕ → History u es w → H.State
  state_after {u} k begun = u
  state_after {u} zero (goes_on m h) = u
  state_after (suc k) (goes_on m h) = state_after k h

  module _ (size : ℕ) where
    -- what holds of one head, in state w after the entries es
    pub record After (w : H.State) (es : List Entry) : Type 0 where
      -- "Every call keeps a sound state sound"
      pub sound : H.Sound w
      -- "after each call the live pairs: those of the plain table"; "each once"; "len is their number"
      pub live : SamePairs (H.pairs w) (pairs_below (capacity size) (table_after size fresh_table (calls_of es)).pairs)
      pub once : (s v : ℕ) → copies s v (H.pairs w) ≤ 1
      pub count : H.len w ≡ length (H.pairs w)
      -- "the answers are proved to be those of document 01's plain table" (demand 2): of each call what the table tells
      pub answers : answers_of es ≡ table_answers size fresh_table (calls_of es)
      -- "the accepted values, counted with repeats, are exactly the live, the retired and the handed back"
      pub whole : (v : ℕ) → times v (accepted_of es) ≡ times v (values (H.pairs w)) + times v (H.retired w) + times v (handed_back_of es) + times v (returned_of es)
      -- "and retired_held counts the retired"
      pub held : H.retired_values_held w ≡ length (H.retired w)
      -- "with those in all return lists they are exactly the values that remove_range, clear and clear_bounded emptied in the table"
      pub emptied : (v : ℕ) → times v (H.retired w) + times v (returned_of es) ≡ times v (table_emptied size fresh_table (calls_of es))
      -- document 02, S-1: "the plain table .., which keeps the base too"; "After every call on a sound state the point equals one worked
      -- out afresh"
      pub base : H.base w ≡ (table_after size fresh_table (calls_of es)).base
      pub point : H.point w ≡ point_of size (table_after size fresh_table (calls_of es)).pairs (table_after size fresh_table (calls_of es)).base
      -- "the budgets' halves rounded down adding up to at least the retired count, leave none retired"
      pub drained : (visits : List Entry) (halves : ℕ) (z : H.State) → Visits visits halves → History w visits z → length (H.retired w) ≤ halves → H.retired z ≡ []

    -- two heads, in states v and w after the entries xs and ys
    pub record Agree (v w : H.State) (xs ys : List Entry) : Type 0 where
      pub first : After v xs
      pub second : After w ys
      -- "A and B share each answer of the first seven named, and after each call the live pairs"; also the answers of clear and check,
      -- and whether stranger gives a pair
      pub same_answers : shared_of xs ≡ shared_of ys
      pub same_pairs : SamePairs (H.pairs v) (H.pairs w)
      pub same_base : H.base v ≡ H.base w
      pub same_point : H.point v ≡ H.point w

    -- two histories of one common list: at their ends, and after each call of either. For each place in the one there is a place in
    -- the other where the same calls of the common list were made, and at any two such places the heads agree.
    pub record Demand3 {a b v w : H.State} {xs ys : List Entry} (g : History a xs v) (h : History b ys w) : Type 0 where
      pub ends : Agree v w xs ys
      pub each_first : (k : ℕ) → (j : ℕ) × (common (calls_of (take k xs)) ≡ common (calls_of (take j ys)))
      pub each_second : (j : ℕ) → (k : ℕ) × (common (calls_of (take k xs)) ≡ common (calls_of (take j ys)))
      pub each : (k j : ℕ) → common (calls_of (take k xs)) ≡ common (calls_of (take j ys)) → Agree (state_after k g) (state_after j h) (take k xs) (take j ys)
