-- A list's words and their marks, and so lists of words: reading takes exactly the lists of sets of losses, and gives the set. Assumes
-- nothing.
use mathlib.Core.Path.{◌≡◌, refl, sym, ap, ◌∙◌}
use mathlib.Core.Bool.{Bool, true, false}
use mathlib.Core.Option.{some}
use mathlib.Core.List.{List, [], ◌∷◌, ◌++◌, map}
use Prim.Native.Nat.{ℕ, zero, suc, ◌+◌, ◌^◌, ◌≤◌, ◌<◌}
use native.Mathlib.Omega.{arith}
use lib.Dec.{ltb}
use lib.ListN.{length}
use borrow.Author.Tests.{ltb-true, ltb-false, lt-ltb, le-ltb}
use Rattle.words.proofs.CaseLaws.{bool}
use Rattle.model.specs.Table.{sequence_at_of, distance}
use Rattle.model.specs.Losses.{run_words, words_from, loss_words}
use Rattle.laws_acknowledge.proofs.DistanceLaws.{sequence-lt, distance-at, at-distance, at-distance-own}
use Rattle.laws_losses.specs.Marks.{Mark, single, opens, stray, word_of, mark_of, run_marks, marks_from, loss_marks, Below, AllBelow}
use Rattle.laws_losses.specs.Reading.{clear, place, read_from, read_list}
use Rattle.laws_losses.proofs.MarkLaws.{marks-below}
use Rattle.laws_losses.proofs.ReadLaws.{read-sound, read-complete}

-- ---- the words of a set of losses are those of its marks

pub run-marks : (first s k : ℕ) → run_words first s k ≡ map (word_of first) (run_marks s k)
unfolding run_words run_marks
run-marks first s zero = refl
run-marks first s (suc zero) = refl
run-marks first s (suc (suc zero)) = refl
run-marks first s (suc (suc (suc k))) = refl

pub marks-append : (first : ℕ) (a b : List Mark) → map (word_of first) (a ++ b) ≡ map (word_of first) a ++ map (word_of first) b
marks-append first [] b = refl
marks-append first (m ∷ a) b = ap (λ (l : List ℕ). word_of first m ∷ l) (marks-append first a b)

pub words-marks : (first : ℕ) (f : List Bool) (s k : ℕ) → words_from first s k f ≡ map (word_of first) (marks_from s k f)
unfolding words_from marks_from
words-marks first [] s k = run-marks first s k
words-marks first (true ∷ f) s k = words-marks first f s (suc k)
words-marks first (false ∷ f) s k =
    (λ i. run-marks first s k i ++ words-marks first f (suc (s + k)) 0 i) ∙ sym (marks-append first (run_marks s k) (marks_from (suc (s + k)) 0 f))

-- ---- a word and its mark

-- the top bit does not count in a distance
pub distance-top : (first d : ℕ) → first < 2 ^ 31 → d < 2 ^ 31 → distance first (2 ^ 31 + sequence_at_of first d) ≡ d
unfolding distance
distance-top first d h l = omega arith

module _ (first : ℕ) (h : first < 2 ^ 31) where
  -- each number is the word of its mark
  mark-word : (w : ℕ) → word_of first (mark_of first w) ≡ w
  mark-word w =
      bool (ltb w (2 ^ 31))
      (λ t. rw t (at-distance-own first w h (ltb-true w (2 ^ 31) t)))
      (λ t. let low = ltb-false w (2 ^ 31) t in
      bool (ltb w (2 ^ 32))
      (λ u. let up = ltb-true w (2 ^ 32) u in rw (t, u) (omega (arith, at-distance first w h)))
      (λ u. rw (t, u)))

  -- each mark at a distance of 31 bits is that of its word
  word-mark : (m : Mark) → Below (2 ^ 31) m → mark_of first (word_of first m) ≡ m
  word-mark (single d) l = rw (lt-ltb (sequence_at_of first d) (2 ^ 31) (sequence-lt first d), distance-at first d h l)
  word-mark (opens d) l =
      let q = sequence_at_of first d in
      rw (le-ltb (2 ^ 31 + q) (2 ^ 31) (omega arith), lt-ltb (2 ^ 31 + q) (2 ^ 32) (omega (arith, sequence-lt first d)), distance-top first d h l)
  word-mark (stray w) l = absurd l

  all_words : (l : List ℕ) → map (word_of first) (map (mark_of first) l) ≡ l
  all_words [] = refl
  all_words (w ∷ l) = λ i. mark-word w i ∷ all_words l i

  all-marks : (l : List Mark) → AllBelow (2 ^ 31) l → map (mark_of first) (map (word_of first) l) ≡ l
  all-marks [] a = refl
  all-marks (m ∷ l) a = λ i. word-mark m a.0 i ∷ all-marks l a.1 i

  -- ---- one set, one list

  -- what is written is read
  pub read_written : (f : List Bool) → length f ≤ 2 ^ 31 → read_list first (length f) (loss_words first f) ≡ some f
  read_written f l =
      ap (λ (words : List ℕ). read_from (length f) (place 0 clear) (map (mark_of first) words)) (words-marks first f 0 0)
      ∙ ap (read_from (length f) (place 0 clear)) (all-marks (loss_marks f) (marks-below f (2 ^ 31) 0 0 (omega arith)))
      ∙ read-complete f (length f) 0 0 (omega arith)

  -- what is read was written
  pub written_read : (n : ℕ) (l : List ℕ) (f : List Bool) → read_list first n l ≡ some f → (length f ≡ n) × (loss_words first f ≡ l)
  written_read n l f e =
      let x = read-sound n (map (mark_of first) l) 0 clear f (omega arith) e in
      (omega (arith, x.0), words-marks first f 0 0 ∙ ap (map (word_of first)) x.1 ∙ all_words l)
