-- Every call does to a proper window what `step` does at its positions. Assumes nothing.
use mathlib.Core.Path.{◌≡◌, refl}
use Prim.Native.Nat.{ℕ, zero, suc}
use Rattle.model.specs.Calls.{Call, insert, exchange, remove, remove_range, clear, clear_bounded, release_retired, set_base, take_front, ask}
use Rattle.model.specs.Table.{argument_refusal}
use Rattle.model.specs.Window.{Window, size_of}
use Rattle.model.specs.Positions.{Result, does, unless_refused as unless_at_positions}
use Rattle.model.specs.Steps.{Effect, unless_refused, known_by, window_acts}
use Rattle.model.proofs.RefusalLaws.{range-taken}
use Rattle.laws_soundness.specs.Change.{Proper}
use Rattle.laws_refinement.specs.Seen.{positions_of, Alike, Follows, StepFollows}
use Rattle.laws_refinement.proofs.PointLaws.{insert-follows, exchange-follows, remove-follows, base-follows, front-follows, ask-follows}
use Rattle.laws_refinement.proofs.VisitLaws.{release-follows}
use Rattle.laws_refinement.proofs.RangeLaws.{range-follows}
use Rattle.laws_refinement.proofs.ClearLaws.{clear-follows}
use Rattle.laws_refinement.proofs.ClearBoundedLaws.{clear-bounded-follows}

pub does-follows : (w : Window) → Proper w → (c : Call) → argument_refusal (known_by w.header) c ≡ 0 → Follows w c
does-follows w ok (insert s v listed) z = insert-follows w s ok.sound ok.past v listed
does-follows w ok (exchange s v) z = exchange-follows w s ok.sound v
does-follows w ok (remove s) z = remove-follows w s ok.sound
does-follows w ok (remove_range a b listed) z = range-follows w ok a b listed (range-taken (known_by w.header) a b listed z)
does-follows w ok (clear listed) z = clear-follows w ok listed
does-follows w ok (clear_bounded n listed) z = clear-bounded-follows w ok n listed
does-follows w ok (release_retired b listed) z = release-follows w ok b listed
does-follows w ok (set_base s) z = base-follows w s
does-follows w ok take_front z = front-follows w ok.sound
does-follows w ok (ask q) z = ask-follows w q

-- refused or not: a refusal changes nothing in either
unless-follows : (w : Window) (c : Call) (k : ℕ) (e : Effect) (r : Result) → (k ≡ 0 → Alike w c e r) → Alike w c (unless_refused k w e) (unless_at_positions k (positions_of w) r)
unless-follows w c zero e r h = h refl
unless-follows w c (suc k) e r h = record { after = refl; answer = refl; returned = refl }

-- the point is no part of the positions
acts-follows : (w : Window) → Proper w → (c : Call) → argument_refusal (known_by w.header) c ≡ 0 → Alike w c (window_acts w c) (does (size_of w) (positions_of w) c)
acts-follows w ok c z = let f = does-follows w ok c z in record { after = f.after; answer = f.answer; returned = f.returned }

pub call-follows : (w : Window) → Proper w → (c : Call) → StepFollows w c
call-follows w ok c = unless-follows w c (argument_refusal (known_by w.header) c) (window_acts w c) (does (size_of w) (positions_of w) c) (acts-follows w ok c)
