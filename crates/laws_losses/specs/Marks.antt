-- A loss list by distances from its first sequence: a word is a mark at a distance. Definitions only. Assumes nothing.
use Rattle.std.specs.Prelude.{Bool, true, false, cond, List, [], ◌∷◌, ◌++◌, ℕ, zero, suc, ◌+◌, ◌^◌, ◌≤◌, ◌<◌, ltb, replicate}
use Rattle.model.specs.Table.{sequence_at_of, distance}

-- a word: the sequence at a distance; that with its top bit set; or a number that has no 32 bits, which is no word
pub data Mark : Type 0 where
  single : ℕ → Mark
  opens : ℕ → Mark
  stray : ℕ → Mark

abbrev pub word_of : ℕ → Mark → ℕ
word_of first (single d) = sequence_at_of first d
word_of first (opens d) = 2 ^ 31 + sequence_at_of first d
word_of first (stray w) = w

abbrev pub mark_of : ℕ → ℕ → Mark
mark_of first w = cond (ltb w (2 ^ 31)) (single (distance first w)) (cond (ltb w (2 ^ 32)) (opens (distance first w)) (stray w))

-- ---- the marks of a set of losses, as `run_words` and `words_from` have its words

unfoldable pub run_marks : ℕ → ℕ → List Mark
run_marks s zero = []
run_marks s (suc zero) = single s ∷ []
run_marks s (suc (suc zero)) = single s ∷ single (s + 1) ∷ []
run_marks s (suc (suc (suc k))) = opens s ∷ single (s + (k + 2)) ∷ []

unfoldable pub marks_from : ℕ → ℕ → List Bool → List Mark
marks_from s k [] = run_marks s k
marks_from s k (true ∷ f) = marks_from s (suc k) f
marks_from s k (false ∷ f) = run_marks s k ++ marks_from (suc (s + k)) 0 f

abbrev pub loss_marks : List Bool → List Mark
loss_marks f = marks_from 0 0 f

-- so many sequences that are not lost, or are
abbrev pub falses : ℕ → List Bool
falses n = replicate n false

abbrev pub trues : ℕ → List Bool
trues n = replicate n true

-- ---- where the marks of a list stand

abbrev pub mark_at : Mark → ℕ
mark_at (single d) = d
mark_at (opens d) = d
mark_at (stray w) = w

-- the first of them at distance a or after it
abbrev pub Ahead : ℕ → List Mark → Type 0
Ahead a [] = Unit
Ahead a (m ∷ l) = a ≤ mark_at m

-- each is that of a sequence at a distance below n
abbrev pub Below : ℕ → Mark → Type 0
Below n (single d) = d < n
Below n (opens d) = d < n
Below n (stray w) = ⊥

abbrev pub AllBelow : ℕ → List Mark → Type 0
AllBelow n [] = Unit
AllBelow n (m ∷ l) = Below n m × AllBelow n l
