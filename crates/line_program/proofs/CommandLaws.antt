-- What a line asks for, by its letter. Assumes nothing.
use Rattle.std.proofs.Common.{◌≡◌, ℕ, ◌<◌, true, refl, ap, ◌∙◌, arith, le-ltb, lt-ltb, ne_eqb}
use Rattle.std.specs.Prelude.{Option, None, Some}
use native.Mathlib.Decide.{ℕ_discrete}
use Rattle.line_text.specs.declared.Fields.{Fields}
use Rattle.line_text.specs.Lines.{fields_of_letter, among}
use Rattle.line_text.specs.Promises.{said_by}
use Rattle.model.specs.Calls.{Call}
use Rattle.model.specs.Window.{Window, size_of}
use Rattle.line_calls.specs.Calls.{create, listing, call_of, called, command_of}
use Rattle.line_program.specs.Program.{unknown_line, new_line, list_line, command_line}

module _ (f : Fields) where
  is-new : f.letter ≡ 110 → command_of (said_by f) ≡ create f.first f.second f.third
  unfolding command_of fields_of_letter among
  is-new e = rw e refl

  is-list : f.letter ≡ 108 → command_of (said_by f) ≡ listing
  unfolding command_of
  is-list e = rw e refl

  is_call : (f.letter ≡ 110 → ⊥) → (f.letter ≡ 108 → ⊥) → command_of (said_by f) ≡ called (call_of (said_by f) true)
  unfolding command_of
  is_call n l = rw (ne_eqb f.letter 110 n, ne_eqb f.letter 108 l) refl

-- ---- the line of it, on what is kept

module _ (k : Window) (f : Fields) where
  pub new_line_lem : f.letter ≡ 110 → command_line k f.letter (command_of (said_by f)) ≡ new_line k f.first f.second f.third
  new_line_lem e = ap (command_line k f.letter) (is-new f e)

  pub list-line : f.letter ≡ 108 → 0 < size_of k → command_line k f.letter (command_of (said_by f)) ≡ list_line k
  list-line e l = ap (command_line k f.letter) (is-list f e) ∙ rw (lt-ltb 0 (size_of k) l) refl

  pub call_line_lem : (f.letter ≡ 110 → ⊥) → (f.letter ≡ 108 → ⊥) → command_line k f.letter (command_of (said_by f)) ≡ command_line k f.letter (called (call_of (said_by f) true))
  call_line_lem n l = ap (command_line k f.letter) (is_call f n l)

-- before an accepted n
no_call : (k : Window) (letter : ℕ) (o : Option Call) → size_of k ≡ 0 → command_line k letter (called o) ≡ unknown_line k
no_call k letter None e = refl
no_call k letter (Some c) e = rw (le-ltb 0 (size_of k) (omega arith)) refl

pub no-window : (k : Window) (f : Fields) → (f.letter ≡ 110 → ⊥) → size_of k ≡ 0 → command_line k f.letter (command_of (said_by f)) ≡ unknown_line k
no-window k f n e = elim (ℕ_discrete f.letter 108) [
  | yes l ↦ ap (command_line k f.letter) (is-list f l) ∙ rw (le-ltb 0 (size_of k) (omega arith)) refl
  | no l ↦ ap (command_line k f.letter) (is_call f n l) ∙ no_call k f.letter (call_of (said_by f) true) e
]
