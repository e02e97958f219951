-- What is stated of loss lists: the definition of a right list and reading word by word agree. Assumes nothing.
use mathlib.Core.Path.{◌≡◌, refl, sym, ap, ◌∙◌}
use mathlib.Core.Bool.{Bool, true, false, true≢false}
use mathlib.Core.Option.{Option, none, some, none-ne-some}
use mathlib.Core.List.{List, [], ◌∷◌}
use Prim.Native.Nat.{ℕ, zero, suc, ◌+◌, ◌*◌, ◌^◌, ◌≤◌, ◌<◌}
use native.Mathlib.Omega.{arith}
use lib.Dec.{eqb}
use lib.ListN.{length, length-append}
use borrow.Author.Tests.{eqb-true, eq-eqb}
use Rattle.words.proofs.CaseLaws.{bool, both}
use Rattle.model.specs.Losses.{flags_from, run_words, words_from, loss_words, most_words_of, names_after, named_flags, same, is_loss_list_of, lost_count}
use Rattle.model.specs.Reports.{LossesReadAndWritten}
use Rattle.laws_losses.specs.Reading.{read_list, is_taken}
use Rattle.laws_losses.proofs.WordLaws.{read_written, written_read}
use Rattle.laws_losses.proofs.NameLaws.{losses-named, named-flags}

-- ---- lists that are the same

same_refl : (l : List ℕ) → same l l ≡ true
unfolding same
same_refl [] = refl
same_refl (x ∷ l) = rw (eq-eqb x x refl) (same_refl l)

same-is : (a b : List ℕ) → same a b ≡ true → a ≡ b
unfolding same
same-is [] [] e = refl
same-is [] (y ∷ b) e = absurd (true≢false (sym e))
same-is (x ∷ a) [] e = absurd (true≢false (sym e))
same-is (x ∷ a) (y ∷ b) e = let t = both (eqb x y) (same a b) e in λ i. eqb-true x y t.0 i ∷ same-is a b t.1 i

pub flags-length : (P : ℕ → Bool) (d n : ℕ) → length (flags_from P d n) ≡ n
unfolding flags_from
flags-length P d zero = refl
flags-length P d (suc n) = ap suc (flags-length P (suc d) n)

-- ---- right lists

module _ (first : ℕ) (low : first < 2 ^ 31) where
  -- the list of a set is right, and names the set
  set-taken : (n : ℕ) (words : List ℕ) (f : List Bool) → n ≤ 2 ^ 31 → length f ≡ n → loss_words first f ≡ words
      → (is_loss_list_of first n words ≡ true) × (named_flags first n words ≡ f)
  set-taken n words f u e w =
      let fits : length f ≤ 2 ^ 31 = omega arith in
      let named : named_flags first n words ≡ f = sym (λ i. named_flags first (e i) (w i)) ∙ named-flags first low f fits in
      (ap (λ (g : List Bool). same words (loss_words first g)) named ∙ ap (same words) w ∙ same_refl words, named)

  -- a right list is that of what it names
  taken-set : (n : ℕ) (words : List ℕ) → is_loss_list_of first n words ≡ true → loss_words first (named_flags first n words) ≡ words
  taken-set n words t = sym (same-is words (loss_words first (named_flags first n words)) t)

  -- reading takes just the right lists, and gives what they name
  pub read_taken : (n : ℕ) (words : List ℕ) (f : List Bool) → n ≤ 2 ^ 31 → read_list first n words ≡ some f
      → (is_loss_list_of first n words ≡ true) × (named_flags first n words ≡ f)
  read_taken n words f u e = let x = written_read first low n words f e in set-taken n words f u x.0 x.1

  taken-read : (n : ℕ) (words : List ℕ) → n ≤ 2 ^ 31 → is_loss_list_of first n words ≡ true → read_list first n words ≡ some (named_flags first n words)
  taken-read n words u t =
      let f = named_flags first n words in
      let long : length f ≡ n = flags-length (names_after first none words) 0 n in
      sym (λ i. read_list first (long i) (taken-set n words t i)) ∙ read_written first low f (omega (arith, long))

  pub taken_is : (n : ℕ) (words : List ℕ) → n ≤ 2 ^ 31 → is_taken (read_list first n words) ≡ is_loss_list_of first n words
  taken_is n words u = decided (read_list first n words) refl
    where
      decided : (x : Option (List Bool)) → read_list first n words ≡ x → is_taken x ≡ is_loss_list_of first n words
      decided none e = bool (is_loss_list_of first n words) (λ t. absurd (none-ne-some (named_flags first n words) (sym e ∙ taken-read n words u t))) (λ t. sym t)
      decided (some f) e = sym (read_taken n words f u e).0

-- ---- how many words

module _ (first : ℕ) where
  run-few : (s k : ℕ) → length (run_words first s k) ≤ k
  unfolding run_words
  run-few s zero = omega arith
  run-few s (suc zero) = omega arith
  run-few s (suc (suc zero)) = omega arith
  run-few s (suc (suc (suc k))) = omega arith

  run-most : (s k : ℕ) → 3 * length (run_words first s k) ≤ 2 * k + 2
  unfolding run_words
  run-most s zero = omega arith
  run-most s (suc zero) = omega arith
  run-most s (suc (suc zero)) = omega arith
  run-most s (suc (suc (suc k))) = omega arith

  words-few : (f : List Bool) (s k : ℕ) → length (words_from first s k f) ≤ k + lost_count f
  unfolding words_from lost_count
  words-few [] s k = omega (arith, run-few s k)
  words-few (true ∷ f) s k = omega (arith, words-few f s (suc k))
  words-few (false ∷ f) s k = omega (arith, length-append (run_words first s k) (words_from first (suc (s + k)) 0 f), run-few s k, words-few f (suc (s + k)) 0)

  words-most : (f : List Bool) (s k : ℕ) → 3 * length (words_from first s k f) ≤ 2 * (k + length f) + 2
  unfolding words_from
  words-most [] s k = omega (arith, run-most s k)
  words-most (true ∷ f) s k = omega (arith, words-most f s (suc k))
  words-most (false ∷ f) s k = omega (arith, length-append (run_words first s k) (words_from first (suc (s + k)) 0 f), run-most s k, words-most f (suc (s + k)) 0)

  pub list-most : (f : List Bool) → length (loss_words first f) ≤ most_words_of (length f)
  list-most f = omega (arith, words-most f 0 0)

-- ---- the statement

pub losses-read-and-written : LossesReadAndWritten
unfolding LossesReadAndWritten
losses-read-and-written first low = record {
  named = losses-named first low;
  read_written = λ f u. set-taken first low (length f) (loss_words first f) f u refl refl;
  taken = λ n words u. (
    (λ t. (named_flags first n words, flags-length (names_after first none words) 0 n, taken-set first low n words t)),
    (λ x. (set-taken first low n words x.0 u x.1 x.2).0),
  );
  not_taken = λ n words u. (
    (λ t f e w. true≢false (sym (set-taken first low n words f u e w).0 ∙ t)),
    (λ none_has. bool (is_loss_list_of first n words)
        (λ t. absurd (none_has (named_flags first n words) (flags-length (names_after first none words) 0 n) (taken-set first low n words t)))
        (λ t. t)),
  );
  one_set = λ f g u e w. sym (named-flags first low f u) ∙ (λ i. named_flags first (e i) (w i)) ∙ named-flags first low g (omega (arith, e));
  few = λ f. omega (arith, words-few first f 0 0);
  most = list-most first;
}
