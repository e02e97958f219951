-- What is asked of a call besides what it does, one row for each: the arguments that a refusal looks at, its return list, what the
-- plain table tells of its answer, and what demand 3 counts of it. Definitions only. Assumes nothing.
use Rattle.std.specs.Prelude.{Bool, true, false, List, [], ◌∷◌, ℕ}
use Rattle.std.proofs.Math.Option.{Option, none, some}
use Rattle.model.specs.Calls.{Query, get, successor_after, first_from, iter, stranger, check, write_losses, read_losses, Call, insert, exchange, remove, remove_range, clear, clear_bounded, release_retired, set_base, take_front, ask, Answer, done, new, replaced, absent, found, pair, ended, released, refused}

-- ---- the arguments that a refusal looks at

pub data Arguments : Type 0 where
  no_argument : Arguments
  sequence_argument : ℕ → Arguments
  range_argument : (first last : ℕ) → Arguments
  number_argument : ℕ → Arguments
  base_argument : ℕ → Arguments
  -- a range, a loss list, and how many places there are for its bytes
  report_argument : (first last : ℕ) (words : List ℕ) (places : ℕ) → Arguments

-- ---- what an answer says of values

-- the value that it gives
abbrev pub given : Answer → List ℕ
given done = []
given new = []
given (replaced v) = v ∷ []
given absent = []
given (found v) = v ∷ []
given (pair s v next reads) = []
given (ended reads) = []
given (released values units) = []
given (refused k) = []

-- v, unless it is a refusal
abbrev pub unless_refused : ℕ → Answer → List ℕ
unless_refused v done = v ∷ []
unless_refused v new = v ∷ []
unless_refused v (replaced old) = v ∷ []
unless_refused v absent = v ∷ []
unless_refused v (found n) = v ∷ []
unless_refused v (pair s w next reads) = v ∷ []
unless_refused v (ended reads) = v ∷ []
unless_refused v (released values units) = v ∷ []
unless_refused v (refused k) = []

-- v, if it found something
abbrev pub if_found : ℕ → Answer → List ℕ
if_found v done = []
if_found v new = []
if_found v (replaced old) = []
if_found v absent = []
if_found v (found n) = v ∷ []
if_found v (pair s w next reads) = []
if_found v (ended reads) = []
if_found v (released values units) = []
if_found v (refused k) = []

abbrev pub nothing : Answer → List ℕ
nothing a = []

-- ---- what the plain table tells of an answer

-- all of it
abbrev pub whole : Answer → Option Answer
whole a = some a

-- "which pair stranger gives" is free; whether it gives one is told
abbrev pub whether : Answer → Option Answer
whether done = some done
whether new = some new
whether (replaced v) = some (replaced v)
whether absent = some absent
whether (found n) = some (found n)
whether (pair s v next reads) = some (pair 0 0 0 0)
whether (ended reads) = some (ended reads)
whether (released values units) = some (released values units)
whether (refused k) = some (refused k)

-- "Not in the table ..: what release_retired answers, the number clear_bounded released, .. iteration order": a refusal alone
abbrev pub if_refused : Answer → Option Answer
if_refused done = none
if_refused new = none
if_refused (replaced v) = none
if_refused absent = none
if_refused (found n) = none
if_refused (pair s v next reads) = none
if_refused (ended reads) = none
if_refused (released values units) = none
if_refused (refused k) = some (refused k)

-- ---- roles

pub record Role : Type 0 where
  pub arguments : Arguments
  -- whether its return list has 384 places; none for a call that takes no list
  pub listed : Option Bool
  -- what the plain table tells of its answer
  pub told : Answer → Option Answer
  -- "Accepted in demand 3 are the values of inserts not refused and of exchanges that found their sequence"
  pub accepted : Answer → List ℕ
  -- "handed back are old values given by insert and exchange, values given by remove" (and all return lists); of take_front: "its
  -- value is handed back"
  pub handed_back : Answer → List ℕ
  -- "the values that remove_range, clear and clear_bounded emptied in the table"
  pub emptying : Bool
  -- a call of release_retired, which the common list does not hold
  pub release : Bool
  -- "check: then 7, exactly if not sound"
  pub checks : Bool

abbrev pub role : Arguments → Option Bool → (Answer → Option Answer) → (accepted handed_back : Answer → List ℕ) → (emptying release checks : Bool) → Role
role arguments listed told accepted handed_back emptying release checks = record {
  arguments = arguments;
  listed = listed;
  told = told;
  accepted = accepted;
  handed_back = handed_back;
  emptying = emptying;
  release = release;
  checks = checks;
}

-- of a call that changes nothing only this is asked
pub record Asked : Type 0 where
  pub arguments : Arguments
  pub told : Answer → Option Answer
  pub checks : Bool

abbrev pub asked : Arguments → (Answer → Option Answer) → Bool → Asked
asked arguments told checks = record { arguments = arguments; told = told; checks = checks }

-- arguments, told, check
abbrev pub asked_of : Query → Asked
asked_of (get s) = asked (sequence_argument s) whole false
asked_of (successor_after s) = asked (sequence_argument s) whole false
asked_of (first_from s) = asked (sequence_argument s) whole false
asked_of (iter cell) = asked no_argument if_refused false
asked_of (stranger a b) = asked (range_argument a b) whether false
asked_of check = asked no_argument whole true
asked_of (write_losses a b places) = asked (range_argument a b) whole false
asked_of (read_losses a b words places) = asked (report_argument a b words places) whole false

-- arguments, return list, told, accepted, handed back; emptying, release, check
abbrev pub role_of : Call → Role
role_of (insert s v listed) = role (sequence_argument s) (some listed) whole (unless_refused v) given false false false
role_of (exchange s v) = role (sequence_argument s) none whole (if_found v) given false false false
role_of (remove s) = role (sequence_argument s) none whole nothing given false false false
role_of (remove_range a b listed) = role (range_argument a b) (some listed) whole nothing nothing true false false
role_of (clear listed) = role no_argument (some listed) whole nothing nothing true false false
role_of (clear_bounded n listed) = role (number_argument n) (some listed) if_refused nothing nothing true false false
role_of (release_retired b listed) = role (number_argument b) (some listed) if_refused nothing nothing false true false
role_of (set_base s) = role (base_argument s) none whole nothing nothing false false false
role_of take_front = role no_argument none whole nothing given false false false
role_of (ask q) = role (asked_of q).arguments none (asked_of q).told nothing nothing false false (asked_of q).checks

-- what is told of an answer that may not be in the table
abbrev pub told_of : Role → Option Answer → Option Answer
told_of r none = none
told_of r (some a) = r.told a
