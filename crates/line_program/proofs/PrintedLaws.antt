-- Every line prints a byte at least, and the first stands where the line was put. Assumes nothing.
use Rattle.std.proofs.Common.{◌≡◌, ℕ, zero, suc, ◌+◌, ◌<◌, ◌≤◌, Bool, true, false, cond, ltb, List, ◌++◌, length, get_or, take, sym, ap, ◌∙◌, arith, length-take-le, get_or-take, get_or-append-add}
use Rattle.std.specs.Prelude.{Option, None, Some}
use Rattle.window.specs.Refusals.{limits}
use Rattle.line_text.specs.Lines.{Line, line_of}
use Rattle.line_text.specs.PrintContracts.{Puts}
use Rattle.model.specs.Window.{Window, size_of}
use Rattle.model.specs.Calls.{Call}
use Rattle.line_calls.specs.Calls.{Command, create, listing, make, nothing, command_of}
use Rattle.line_program.specs.Program.{Printed, with_new, unknown_line, new_or, new_line, call_line, list_line, command_line, said_line, line_does}

abbrev HasBytes : Printed → Type 0
HasBytes p = 0 < length p.bytes

-- one or the other
either : (b : Bool) (p q : Printed) → HasBytes p → HasBytes q → HasBytes (cond b p q)
either true p q s t = s
either false p q s t = t

new-some : (r : ℕ) (k v : Window) → HasBytes (new_or r k v)
new-some zero k v = omega arith
new-some (suc r) k v = omega arith

module _ (k : Window) where
  n-some : (size n d : ℕ) → HasBytes (new_line k size n d)
  unfolding new_line
  n-some size n d = either (ltb 4096 size) (unknown_line k) (new_or (limits size n d) k (with_new k size n d)) (omega arith) (new-some (limits size n d) k (with_new k size n d))

  list-some : HasBytes (list_line k)
  unfolding list_line
  list-some = omega arith

  call-some : (letter : ℕ) (c : Call) → HasBytes (call_line k letter c)
  unfolding call_line
  call-some letter c = omega arith

  command-some : (letter : ℕ) (c : Command) → HasBytes (command_line k letter c)
  command-some letter (create size n d) = n-some size n d
  command-some letter listing = either (ltb 0 (size_of k)) (list_line k) (unknown_line k) list-some (omega arith)
  command-some letter (make c) = either (ltb 0 (size_of k)) (call_line k letter c) (unknown_line k) (call-some letter c) (omega arith)
  command-some letter nothing = omega arith

  said-some : (o : Option Line) → HasBytes (said_line k o)
  said-some None = omega arith
  said-some (Some l) = command-some l.letter (command_of l)

  pub prints-some : (bytes : List ℕ) → HasBytes (line_does k bytes)
  unfolding line_does
  prints-some bytes = said-some (line_of bytes)

-- ---- where it was put

pub first-put : (at : ℕ) (bytes out : List ℕ) (r : ℕ) (out' : List ℕ) → Puts at bytes out r out' → 0 < length bytes → at ≤ length out → get_or out' at 0 ≡ get_or bytes 0 0
first-put at bytes out r out' p l room =
    let e : at ≡ length (take at out) + 0 = omega (arith, length-take-le at out room) in
    sym (get_or-take r out' at 0 (omega (arith, p.end))) ∙ ap (λ (xs : List ℕ). get_or xs at 0) p.filled
    ∙ ap (λ (n : ℕ). get_or (take at out ++ bytes) n 0) e ∙ get_or-append-add (take at out) bytes 0 0
