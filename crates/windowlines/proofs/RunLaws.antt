-- What a run keeps, from turn to turn. Assumes nothing.
use mathlib.Core.Path.{◌≡◌, refl, sym, ap, subst, ◌∙◌}
use mathlib.Core.Bool.{Bool, true, false}
use mathlib.Core.List.{List}
use Prim.Native.Nat.{ℕ}
use native.Mathlib.Omega.{arith}
use lib.Dec.{ltb}
use borrow.Author.Tests.{ltb-true, ltb-false}
use Rattle.window.specs.Memory.{Memory}
use Rattle.call_base.specs.Answers.{state_of}
use Rattle.line_program.specs.declared.Program.{Program}
use Rattle.line_program.specs.Promises.{Kept, Stops}
use Rattle.windowlines.specs.declared.run.Run.{Run}
use Rattle.windowlines.specs.Run.{Going, Refilled, Written}

-- by whether bytes of the part before are left
refilled_by : (r : Run) (input : List ℕ) (s : Run) (input' : List ℕ) (m : Memory) → Going r m → Refilled r input s input' → (left : Bool) → ltb r.program.from r.n ≡ left → Going s m
refilled_by r input s input' m g t true l = subst (λ (x : Run). Going x m) (sym (t.stays (ltb-true r.program.from r.n l))) g
refilled_by r input s input' m g t false l =
    let e = t.program (ltb-false r.program.from r.n l) in
    record {
      kept = subst (λ (p : Program). Kept (state_of p.window m)) (sym e) g.kept;
      from_le = omega (arith, ap (λ (p : Program). p.from) e);
      few = t.few g.few;
      nothing_waits = ap (λ (p : Program). p.at) e ∙ g.nothing_waits;
    }

pub refilled : (r : Run) (input : List ℕ) (s : Run) (input' : List ℕ) (m : Memory) → Going r m → Refilled r input s input' → Going s m
refilled r input s input' m g t = refilled_by r input s input' m g t (ltb r.program.from r.n) refl

pub written : (r : Run) (m : Memory) (p : Program) (out : List ℕ) (s : Run) (m' : Memory) → Going r m → Stops r.program r.n p → Kept (state_of p.window m') → Written r p out s → Going s m'
written r m p out s m' g k l t = record {
  kept = subst (λ (q : Program). Kept (state_of q.window m')) (sym t.program) l;
  from_le = omega (arith, k.le_end, ap (λ (q : Program). q.from) t.program, t.n);
  few = omega (arith, g.few, t.n);
  nothing_waits = ap (λ (q : Program). q.at) t.program;
}
