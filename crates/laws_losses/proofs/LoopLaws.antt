-- What is left to write and to read, over plain variables: a run's words in a lent list, a stretch of sequences that are all lost or all
-- live, a word taken or not, and the bytes. Assumes nothing.
use mathlib.Core.Path.{◌≡◌, refl, sym, ap, ◌∙◌}
use mathlib.Core.Bool.{Bool, true, false, cond}
use mathlib.Core.Option.{Option, none, some}
use mathlib.Core.List.{List, [], ◌∷◌, ◌++◌, map, append_assoc}
use Prim.Native.Nat.{ℕ, zero, suc, ◌+◌, ◌-◌, ◌^◌, ◌≤◌, ◌<◌}
use native.Mathlib.Omega.{arith}
use lib.ListN.{length, replicate, drop, get_or, set, drop_of_length-le}
use lib.Seq.{drop-cons, set_at, sets}
use borrow.Author.Tests.{le-ltb}
use Rattle.model.specs.Table.{sequence_at_of}
use Rattle.model.specs.Losses.{flags_from, run_words, words_from, loss_byte, loss_bytes, lost_count}
use Rattle.laws_losses.specs.Marks.{word_of, mark_of, run_marks, marks_from, falses, trues}
use Rattle.laws_losses.specs.Reading.{Place, Turn, turn, is_opened_of, onto, said_by, go_on, read_from, is_taken}
use Rattle.laws_losses.specs.Loops.{run_count_of, first_word, words_left, rest_read}
use Rattle.laws_losses.proofs.MarkLaws.{marks-gap, marks-run}
use Rattle.laws_losses.proofs.WordLaws.{run-marks, marks-append, words-marks}

-- ---- the words of a run

run-words-one : (first s k : ℕ) → k ≡ 1 → run_words first s k ≡ first_word first s k ∷ []
unfolding run_words
run-words-one first s k e = rw e refl

-- the first word, and the second of two
run-words-two : (first s k : ℕ) → 2 ≤ k → run_words first s k ≡ first_word first s k ∷ sequence_at_of first (s + (k - 1)) ∷ []
unfolding run_words
run-words-two first s zero l = absurd (omega arith)
run-words-two first s (suc zero) l = absurd (omega arith)
run-words-two first s (suc (suc zero)) l = refl
run-words-two first s (suc (suc (suc k))) l =
    let e : s + (k + 2) ≡ s + (suc (suc (suc k)) - 1) = omega arith in
    rw (le-ltb (suc (suc (suc k))) 3 (omega arith)) (ap (λ (x : ℕ). (2 ^ 31 + sequence_at_of first s) ∷ sequence_at_of first x ∷ []) e)

pub run-words-count : (first s k : ℕ) → length (run_words first s k) ≡ run_count_of k
unfolding run_words
run-words-count first s zero = refl
run-words-count first s (suc zero) = refl
run-words-count first s (suc (suc zero)) = refl
run-words-count first s (suc (suc (suc k))) = refl

pub run-count-small : (k : ℕ) → k < 2 → k ≡ run_count_of k
run-count-small zero l = refl
run-count-small (suc zero) l = refl
run-count-small (suc (suc k)) l = absurd (omega arith)

pub run-count-large : (k : ℕ) → 2 ≤ k → 2 ≡ run_count_of k
run-count-large zero h = absurd (omega arith)
run-count-large (suc zero) h = absurd (omega arith)
run-count-large (suc (suc k)) h = refl

pub run-count-le : (k : ℕ) → run_count_of k ≤ 2
run-count-le zero = omega arith
run-count-le (suc zero) = omega arith
run-count-le (suc (suc k)) = omega arith

pub run-count-some : (k : ℕ) → (k ≡ 0 → ⊥) → 1 ≤ run_count_of k
run-count-some zero h = absurd (h refl)
run-count-some (suc zero) h = omega arith
run-count-some (suc (suc k)) h = omega arith

-- ---- put into a list: no store, one or two

module _ (out : List ℕ) (i first s k : ℕ) where
  pub put-none : k ≡ 0 → (i ≡ i + run_count_of k) × (out ≡ sets out i (run_words first s k))
  unfolding run_words
  put-none e = rw e (omega arith, refl)

  pub put_one : (x : ℕ) → k ≡ 1 → x ≡ first_word first s k → (i + 1 ≡ i + run_count_of k) × (set out i x ≡ sets out i (run_words first s k))
  put_one x e h = (
    ap (λ (m : ℕ). i + run_count_of m) (sym e),
    ap (set out i) h ∙ ap (sets out i) (sym (run-words-one first s k e)),
  )

  pub put_both : (x y : ℕ) → 2 ≤ k → x ≡ first_word first s k → y ≡ sequence_at_of first (s + (k - 1))
      → (i + 2 ≡ i + run_count_of k) × (set (set out i x) (i + 1) y ≡ sets out i (run_words first s k))
  put_both x y l g h =
      let one : i + 1 ≡ suc i = omega arith in (
        ap (λ (m : ℕ). i + m) (run-count-large k l),
        (λ t. set (set out i (g t)) (one t) (h t)) ∙ ap (sets out i) (sym (run-words-two first s k l)),
      )

-- one more entry is put after those written; the entries past it stay
pub put_next : (ws out : List ℕ) (x : ℕ) → length ws < length out → set (ws ++ drop (length ws) out) (length ws) x ≡ (ws ++ (x ∷ [])) ++ drop (length ws + 1) out
put_next ws out x l =
    let one : suc (length ws) ≡ length ws + 1 = omega arith in
    ap (λ (r : List ℕ). set (ws ++ r) (length ws) x) (drop-cons out (length ws) 0 l)
    ∙ set_at ws (get_or out (length ws) 0) (drop (suc (length ws)) out) x (length ws) refl
    ∙ ap (λ (j : ℕ). ws ++ (x ∷ drop j out)) one ∙ sym (append_assoc ws (x ∷ []) (drop (length ws + 1) out))

-- ---- what is left to write, over a stretch of x sequences from distance d on

module _ (lost : ℕ → Bool) where
  flags-split : (b : Bool) (x d n : ℕ) → d + x ≤ n → ((j : ℕ) → d ≤ j → j < d + x → lost j ≡ b)
      → flags_from lost d (n - d) ≡ replicate x b ++ flags_from lost (d + x) (n - (d + x))
  unfolding flags_from
  flags-split b zero d n l h = let e : d ≡ d + 0 = omega arith in ap (λ (y : ℕ). flags_from lost y (n - y)) e
  flags-split b (suc x) d n l h =
      let e : n - d ≡ suc (n - suc d) = omega arith in
      let s : suc d + x ≡ d + suc x = omega arith in
      ap (flags_from lost d) e
      ∙ (λ i. h d (omega arith) (omega arith) i ∷ (flags-split b x (suc d) n (omega arith) (λ j p q. h j (omega arith) (omega arith)) ∙ ap (λ (y : ℕ). replicate x b ++ flags_from lost y (n - y)) s) i)

  module _ (first n : ℕ) where
    -- at the range's end the run that is on
    pub left_end : (s k : ℕ) → words_left lost first n s k n ≡ run_words first s k
    unfolding flags_from words_from
    left_end s k = let e : n - n ≡ 0 = omega arith in ap (λ (m : ℕ). words_from first s k (flags_from lost n m)) e

    -- sequences that are lost lengthen the run
    pub left-lost : (s k d x : ℕ) → d + x ≤ n → ((j : ℕ) → d ≤ j → j < d + x → lost j ≡ true)
        → words_left lost first n s k d ≡ words_left lost first n s (k + x) (d + x)
    left-lost s k d x l h =
        let f = flags_from lost (d + x) (n - (d + x)) in
        ap (words_from first s k) (flags-split true x d n l h) ∙ words-marks first (trues x ++ f) s k ∙ ap (map (word_of first)) (marks-run x s k f)
        ∙ sym (words-marks first f s (k + x))

    -- some that are not end it
    pub left-kept : (s k d x : ℕ) → s + k ≡ d → 0 < x → d + x ≤ n → ((j : ℕ) → d ≤ j → j < d + x → lost j ≡ false)
        → words_left lost first n s k d ≡ run_words first s k ++ words_left lost first n (d + x) 0 (d + x)
    left-kept s k d x e p l h =
        let f = flags_from lost (d + x) (n - (d + x)) in
        let at : s + k + x ≡ d + x = omega arith in
        ap (words_from first s k) (flags-split false x d n l h) ∙ words-marks first (falses x ++ f) s k ∙ ap (map (word_of first)) (marks-gap x s k f p)
        ∙ marks-append first (run_marks s k) (marks_from (s + k + x) 0 f)
        ∙ (λ i. sym (run-marks first s k) i ++ sym (words-marks first f (s + k + x) 0) i)
        ∙ ap (λ (y : ℕ). run_words first s k ++ words_from first y 0 f) at

-- ---- what is left to read, at an index

module _ (first n : ℕ) (p : Place) (i : ℕ) (l : List ℕ) where
  rest-next : i < length l → rest_read first n p i l ≡ go_on (turn n p.at p.phase (mark_of first (get_or l i 0))) (λ (q : Place). rest_read first n q (i + 1) l)
  unfolding read_from
  rest-next h =
      let one : suc i ≡ i + 1 = omega arith in
      ap (λ (r : List ℕ). read_from n p (map (mark_of first) r)) (drop-cons l i 0 h)
      ∙ ap (λ (j : ℕ). go_on (turn n p.at p.phase (mark_of first (get_or l i 0))) (λ (q : Place). rest_read first n q j l)) one

  -- a word that is taken
  pub rest-taken : (t : Turn) → i < length l → turn n p.at p.phase (mark_of first (get_or l i 0)) ≡ some t
      → rest_read first n p i l ≡ onto (said_by t) (rest_read first n t.next (i + 1) l)
  rest-taken t h e = rest-next h ∙ ap (λ (x : Option Turn). go_on x (λ (q : Place). rest_read first n q (i + 1) l)) e

  -- one that is not
  pub rest-refused : i < length l → turn n p.at p.phase (mark_of first (get_or l i 0)) ≡ none → rest_read first n p i l ≡ none
  rest-refused h e = rest-next h ∙ ap (λ (x : Option Turn). go_on x (λ (q : Place). rest_read first n q (i + 1) l)) e

  -- past the last word
  pub rest_end : length l ≤ i → is_opened_of p.phase ≡ false → rest_read first n p i l ≡ some (falses (n - p.at))
  unfolding read_from
  rest_end h e = ap (λ (r : List ℕ). read_from n p (map (mark_of first) r)) (drop_of_length-le l h) ∙ ap (λ (b : Bool). cond b none (some (falses (n - p.at)))) e

  pub rest-dangling : length l ≤ i → is_opened_of p.phase ≡ true → rest_read first n p i l ≡ none
  unfolding read_from
  rest-dangling h e = ap (λ (r : List ℕ). read_from n p (map (mark_of first) r)) (drop_of_length-le l h) ∙ ap (λ (b : Bool). cond b none (some (falses (n - p.at)))) e

-- whether a list is taken needs no flags
pub taken-onto : (f : List Bool) (x : Option (List Bool)) → is_taken (onto f x) ≡ is_taken x
taken-onto f none = refl
taken-onto f (some g) = refl

-- ---- bytes and their number

pub bytes-append : (f g : List Bool) → loss_bytes (f ++ g) ≡ loss_bytes f ++ loss_bytes g
bytes-append [] g = refl
bytes-append (b ∷ f) g = ap (λ (l : List ℕ). loss_byte b ∷ l) (bytes-append f g)

pub bytes-alike : (x : ℕ) (b : Bool) → loss_bytes (replicate x b) ≡ replicate x (loss_byte b)
bytes-alike zero b = refl
bytes-alike (suc x) b = ap (λ (l : List ℕ). loss_byte b ∷ l) (bytes-alike x b)

pub count_none : 0 ≡ lost_count []
unfolding lost_count
count_none = refl

pub count-append : (f g : List Bool) → lost_count (f ++ g) ≡ lost_count f + lost_count g
unfolding lost_count
count-append [] g = omega arith
count-append (b ∷ f) g = omega (arith, count-append f g)

pub count-falses : (x : ℕ) → lost_count (falses x) ≡ 0
unfolding lost_count
count-falses zero = refl
count-falses (suc x) = omega (arith, count-falses x)

pub count-trues : (x : ℕ) → lost_count (trues x) ≡ x
unfolding lost_count
count-trues zero = refl
count-trues (suc x) = omega (arith, count-trues x)

-- a turn's share of either
pub said-bytes : (t : Turn) → loss_bytes (said_by t) ≡ replicate t.gap 0 ++ replicate t.lost 1
said-bytes t = bytes-append (falses t.gap) (trues t.lost) ∙ (λ i. bytes-alike t.gap false i ++ bytes-alike t.lost true i)

pub said-count : (t : Turn) → lost_count (said_by t) ≡ t.lost
said-count t = omega (arith, count-append (falses t.gap) (trues t.lost), count-falses t.gap, count-trues t.lost)
