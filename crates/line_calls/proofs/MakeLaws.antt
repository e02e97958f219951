-- Which call each letter makes, and that a call made is what its letter says. Assumes nothing.
use mathlib.Core.Path.{◌≡◌, refl, sym, subst}
use mathlib.Core.Bool.{Bool}
use Rattle.std.specs.Prelude.{Option, None, Some}
use mathlib.Core.List.{List}
use Prim.Native.Nat.{ℕ}
use borrow.Author.Tests.{ne_eqb}
use Rattle.line_text.specs.declared.Fields.{Fields}
use Rattle.line_text.specs.Lines.{fields_of_letter, among}
use Rattle.line_text.specs.Promises.{said_by}
use Rattle.window.specs.declared.answers.Step.{Step}
use Rattle.window.specs.Memory.{Memory}
use Rattle.model.specs.Calls.{Call, insert, exchange, remove, remove_range, clear, clear_bounded, release_retired, set_base, take_front, ask, get, successor_after, first_from, stranger}
use Rattle.model.specs.Contract.{State}
use Rattle.line_calls.specs.Calls.{range_call_of, base_call_of, call_of, Made}

-- a letter that makes none
pub none_made : (o : Option Call) (u : State) (l : List ℕ) → o ≡ None → Made o u l None u.memory l
none_made o u l e = subst (λ (x : Option Call). Made x u l None u.memory l) (sym e) (refl, refl)

-- two letters' calls that are one
pub made-same : (o o' : Option Call) (u : State) (l : List ℕ) (r : Option Step) (m : Memory) (l' : List ℕ) → o ≡ o' → Made o' u l r m l' → Made o u l r m l'
made-same o o' u l r m l' e t = subst (λ (x : Option Call). Made x u l r m l') (sym e) t

module _ (f : Fields) (b : Bool) where
  pub is-d : f.letter ≡ 100 → range_call_of (said_by f) b ≡ Some (remove_range f.first f.second b)
  unfolding range_call_of fields_of_letter among
  is-d e = rw e refl

  pub is_b : f.letter ≡ 98 → range_call_of (said_by f) b ≡ Some (clear_bounded f.first b)
  unfolding range_call_of fields_of_letter among
  is_b e = rw e refl

  pub is-v : f.letter ≡ 118 → range_call_of (said_by f) b ≡ Some (release_retired f.first b)
  unfolding range_call_of fields_of_letter among
  is-v e = rw e refl

  pub is_c : f.letter ≡ 99 → range_call_of (said_by f) b ≡ Some (clear b)
  unfolding range_call_of fields_of_letter among
  is_c e = rw e refl

  pub is_none : (f.letter ≡ 100 → ⊥) → (f.letter ≡ 98 → ⊥) → (f.letter ≡ 118 → ⊥) → (f.letter ≡ 99 → ⊥) → range_call_of (said_by f) b ≡ None
  unfolding range_call_of fields_of_letter among
  is_none d n v c = simp (ne_eqb f.letter 100 d, ne_eqb f.letter 98 n, ne_eqb f.letter 118 v, ne_eqb f.letter 99 c)

  pub is-a : f.letter ≡ 97 → base_call_of (said_by f) b ≡ Some (set_base f.first)
  unfolding base_call_of fields_of_letter among
  is-a x = rw x refl

  pub is-t : f.letter ≡ 116 → base_call_of (said_by f) b ≡ Some take_front
  unfolding base_call_of fields_of_letter among
  is-t x = rw x refl

  pub is-range : (f.letter ≡ 97 → ⊥) → (f.letter ≡ 116 → ⊥) → base_call_of (said_by f) b ≡ range_call_of (said_by f) b
  unfolding base_call_of fields_of_letter among
  is-range a t = simp (ne_eqb f.letter 97 a, ne_eqb f.letter 116 t)

  pub is-i : f.letter ≡ 105 → call_of (said_by f) b ≡ Some (insert f.first f.second b)
  unfolding call_of fields_of_letter among
  is-i x = rw x refl

  pub is-g : f.letter ≡ 103 → call_of (said_by f) b ≡ Some (ask (get f.first))
  unfolding call_of fields_of_letter among
  is-g x = rw x refl

  pub is-r : f.letter ≡ 114 → call_of (said_by f) b ≡ Some (remove f.first)
  unfolding call_of fields_of_letter among
  is-r x = rw x refl

  pub is-s : f.letter ≡ 115 → call_of (said_by f) b ≡ Some (ask (successor_after f.first))
  unfolding call_of fields_of_letter among
  is-s x = rw x refl

  pub is_f : f.letter ≡ 102 → call_of (said_by f) b ≡ Some (ask (first_from f.first))
  unfolding call_of fields_of_letter among
  is_f x = rw x refl

  pub is-e : f.letter ≡ 101 → call_of (said_by f) b ≡ Some (exchange f.first f.second)
  unfolding call_of fields_of_letter among
  is-e x = rw x refl

  pub is-q : f.letter ≡ 113 → call_of (said_by f) b ≡ Some (ask (stranger f.first f.second))
  unfolding call_of fields_of_letter among
  is-q x = rw x refl

  pub is_base : (f.letter ≡ 105 → ⊥) → (f.letter ≡ 103 → ⊥) → (f.letter ≡ 114 → ⊥) → (f.letter ≡ 115 → ⊥) → (f.letter ≡ 102 → ⊥) → (f.letter ≡ 101 → ⊥)
      → (f.letter ≡ 113 → ⊥) → call_of (said_by f) b ≡ base_call_of (said_by f) b
  unfolding call_of fields_of_letter among
  is_base i g r s t e q =
      simp (
        ne_eqb f.letter 105 i,
        ne_eqb f.letter 103 g,
        ne_eqb f.letter 114 r,
        ne_eqb f.letter 115 s,
        ne_eqb f.letter 102 t,
        ne_eqb f.letter 101 e,
        ne_eqb f.letter 113 q,
      )
