-- How often a byte stands in a line, and which fault each test of the code shows. Assumes nothing.
use mathlib.Core.Path.{◌≡◌, refl, sym, ap, ◌∙◌}
use mathlib.Core.Bool.{cond}
use Rattle.std.specs.Prelude.{Option, None, Some}
use mathlib.Core.List.{List, [], ◌∷◌}
use Prim.Native.Nat.{ℕ, suc, ◌+◌, ◌≤◌, ◌<◌}
use native.Mathlib.Omega.{arith}
use lib.ListN.{length, get_or}
use borrow.Author.Tests.{eq-eqb, ne_eqb, lt-ltb, le-ltb}
use Rattle.std.specs.Prelude.{◌==◌, count_by}
use Rattle.std.proofs.lemmas.List.Recursion.{is_count_by}
use Rattle.line_text.specs.Lines.{fields_of_letter, line_of}
use Rattle.line_faults.specs.declared.Fault.TheVariants.{CarriageReturn, Space, Letter, FieldCount}
use Rattle.line_faults.specs.Faults.{occurrences, letter_count_of, fault_of_parsed, fault_of_fields, fault_of_text}

-- with one byte before the others
pub hit : (b c : ℕ) (cs : List ℕ) → c ≡ b → occurrences b (c ∷ cs) ≡ suc (occurrences b cs)
unfolding occurrences
hit b c cs e = rw (eq-eqb c b e) refl

pub miss : (b c : ℕ) (cs : List ℕ) → (c ≡ b → ⊥) → occurrences b (c ∷ cs) ≡ occurrences b cs
unfolding occurrences
miss b c cs e = rw (ne_eqb c b e) refl

-- in the library's words
pub counted : (b : ℕ) (bs : List ℕ) → occurrences b bs ≡ count_by (λ c. c == b) bs
unfolding occurrences
counted b bs =
    is_count_by (occurrences b) (λ c. c == b) refl
    (λ x xs. let e : suc (occurrences b xs) ≡ 1 + occurrences b xs = omega arith in ap (λ (n : ℕ). cond (x == b) n (occurrences b xs)) e) bs

-- the letter: none, alone, before a tab, or not
pub no-letter : (bs : List ℕ) → length bs ≡ 0 → letter_count_of bs ≡ None
unfolding letter_count_of
no-letter [] e = refl
no-letter (b ∷ bs) e = absurd (omega arith)

pub letter-alone : (bs : List ℕ) → length bs ≡ 1 → letter_count_of bs ≡ fields_of_letter (get_or bs 0 0)
unfolding letter_count_of
letter-alone [] e = absurd (omega arith)
letter-alone (b ∷ []) e = refl
letter-alone (b ∷ c ∷ bs) e = absurd (omega arith)

pub letter-more : (bs : List ℕ) → (length bs ≡ 0 → ⊥) → (length bs ≡ 1 → ⊥) → (get_or bs 1 0 ≡ 9 → ⊥) → letter_count_of bs ≡ None
unfolding letter_count_of
letter-more [] z o e = absurd (z refl)
letter-more (b ∷ []) z o e = absurd (o refl)
letter-more (b ∷ c ∷ bs) z o e = rw (ne_eqb c 9 e) refl

pub letter-tab : (bs : List ℕ) → (length bs ≡ 0 → ⊥) → (length bs ≡ 1 → ⊥) → get_or bs 1 0 ≡ 9 → letter_count_of bs ≡ fields_of_letter (get_or bs 0 0)
unfolding letter_count_of
letter-tab [] z o e = absurd (z refl)
letter-tab (b ∷ []) z o e = absurd (o refl)
letter-tab (b ∷ c ∷ bs) z o e = rw (eq-eqb c 9 e) refl

-- a line's bytes: the first fault that applies
pub carriage-return : (bs : List ℕ) → 0 < occurrences 13 bs → CarriageReturn ≡ fault_of_text bs
unfolding fault_of_text
carriage-return bs r = rw (lt-ltb 0 (occurrences 13 bs) r) refl

pub space : (bs : List ℕ) → occurrences 13 bs ≤ 0 → 0 < occurrences 32 bs → Space ≡ fault_of_text bs
unfolding fault_of_text
space bs r s = rw (le-ltb 0 (occurrences 13 bs) r, lt-ltb 0 (occurrences 32 bs) s) refl

pub neither : (bs : List ℕ) → occurrences 13 bs ≤ 0 → occurrences 32 bs ≤ 0 → fault_of_fields (letter_count_of bs) bs ≡ fault_of_text bs
unfolding fault_of_text
neither bs r s = rw (le-ltb 0 (occurrences 13 bs) r, le-ltb 0 (occurrences 32 bs) s) refl

other-count : (k : ℕ) (o : Option ℕ) (bs : List ℕ) → o ≡ Some k → (occurrences 9 bs ≡ k → ⊥) → FieldCount ≡ fault_of_fields o bs
other-count k o bs s e = rw (s, ne_eqb (occurrences 9 bs) k e) refl

own-count : (k : ℕ) (o : Option ℕ) (bs : List ℕ) → o ≡ Some k → occurrences 9 bs ≡ k → fault_of_parsed (line_of bs) ≡ fault_of_fields o bs
own-count k o bs s e = rw (s, eq-eqb (occurrences 9 bs) k e) refl

module _ (bs : List ℕ) (r : occurrences 13 bs ≤ 0) (s : occurrences 32 bs ≤ 0) where
  pub another-letter : None ≡ letter_count_of bs → Letter ≡ fault_of_text bs
  another-letter l = ap (λ (o : Option ℕ). fault_of_fields o bs) l ∙ neither bs r s

  pub field-count : (k : ℕ) → Some k ≡ letter_count_of bs → (occurrences 9 bs ≡ k → ⊥) → FieldCount ≡ fault_of_text bs
  field-count k l e = other-count k (letter_count_of bs) bs (sym l) e ∙ neither bs r s

  pub of-call : (k : ℕ) → Some k ≡ letter_count_of bs → occurrences 9 bs ≡ k → fault_of_parsed (line_of bs) ≡ fault_of_text bs
  of-call k l e = own-count k (letter_count_of bs) bs (sym l) e ∙ neither bs r s

-- what the tactics know of a line's letter and faults
pub ruleset telling = (no-letter, letter-alone, letter-more, letter-tab, carriage-return, space, another-letter, field-count, of-call)
