-- Document 02, S-4: the loss report. Which sequences of a range are lost, the draft's loss list of them, and what a list says. A
-- sequence of the range is given by its distance from first. Definitions only. Assumes nothing.
use Rattle.std.specs.Prelude.{Bool, true, false, cond, not, ◌&&◌, ◌||◌, List, [], ◌∷◌, ◌++◌, map, ℕ, zero, suc, ◌+◌, ◌-◌, ◌/◌, ◌^◌, leb, eqb, length, drop}
use Rattle.std.proofs.Math.Option.{Option, none, some}
use Rattle.window.specs.Refusals.{is_wire_number_of}
use Rattle.model.specs.Sequences.{sequence_at_of, distance}

-- ---- which sequences are lost

-- whether P holds, at each of the n distances from d on
unfoldable pub flags_from : (ℕ → Bool) → (d n : ℕ) → List Bool
flags_from P d zero = []
flags_from P d (suc n) = P d ∷ flags_from P (suc d) n

-- "all sequences there that are not live"; "Order is circular from first": of the n sequences from first on, whether each is lost
abbrev pub loss_flags : (live : ℕ → Bool) → (first n : ℕ) → List Bool
loss_flags live first n = flags_from (λ (d : ℕ). not (live (sequence_at_of first d))) 0 n

-- ---- their list

-- "A run of three or more is two words, the first with its top bit set; a shorter run is single words": the run of the k sequences from
-- distance s on
unfoldable pub run_words : (first s k : ℕ) → List ℕ
run_words first s zero = []
run_words first s (suc zero) = sequence_at_of first s ∷ []
run_words first s (suc (suc zero)) = sequence_at_of first s ∷ sequence_at_of first (s + 1) ∷ []
run_words first s (suc (suc (suc k))) = (2 ^ 31 + sequence_at_of first s) ∷ sequence_at_of first (s + (k + 2)) ∷ []

-- the words of the flags from distance s + k on and of the run before them, so far k sequences from distance s on: a sequence that is
-- lost lengthens it, one that is not ends it
unfoldable pub words_from : (first s k : ℕ) → List Bool → List ℕ
words_from first s k [] = run_words first s k
words_from first s k (true ∷ f) = words_from first s (suc k) f
words_from first s k (false ∷ f) = run_words first s k ++ words_from first (suc (s + k)) 0 f

-- "the draft's loss list"
abbrev pub loss_words : ℕ → List Bool → List ℕ
loss_words first f = words_from first 0 0 f

-- how many words a list for n sequences has at the most: a third of them must be live for so many runs of two
abbrev pub most_words_of : ℕ → ℕ
most_words_of n = n - n / 3

-- ---- what a list says

-- Whether the sequence at distance d is named. By the draft a word names its sequence; one with its top bit set, here at distance `begun`,
-- and the word after it name all from the one to the other.
unfoldable pub names_after : (first : ℕ) (begun : Option ℕ) → List ℕ → ℕ → Bool
names_after first begun [] d = false
names_after first none (w ∷ l) d =
    cond (is_wire_number_of w) (eqb d (distance first w) || names_after first none l d) (names_after first (some (distance first w)) l d)
names_after first (some s) (w ∷ l) d = (leb s d && leb d (distance first w)) || names_after first none l d

-- of the n sequences from first on, whether each is named
abbrev pub named_flags : (first n : ℕ) → List ℕ → List Bool
named_flags first n words = flags_from (names_after first none words) 0 n

unfoldable pub same : List ℕ → List ℕ → Bool
same [] [] = true
same [] (y ∷ ys) = false
same (x ∷ xs) [] = false
same (x ∷ xs) (y ∷ ys) = eqb x y && same xs ys

-- "It takes exactly such lists for a stated first and last, so one set of losses has one list": a list that is the writer's for the losses
-- that it names
abbrev pub is_loss_list_of : (first n : ℕ) → List ℕ → Bool
is_loss_list_of first n words = same words (loss_words first (named_flags first n words))

-- ---- what the reader writes and answers

-- "1 if lost and 0 if not"
abbrev pub loss_byte : Bool → ℕ
loss_byte true = 1
loss_byte false = 0

abbrev pub loss_bytes : List Bool → List ℕ
loss_bytes f = map loss_byte f

-- "how many are lost"
unfoldable pub lost_count : List Bool → ℕ
lost_count [] = 0
lost_count (b ∷ f) = loss_byte b + lost_count f

-- ---- a written list

-- a list with these entries at its beginning: "Entries past those written stay"
abbrev pub over : (entries list : List ℕ) → List ℕ
over entries list = entries ++ drop (length entries) list
