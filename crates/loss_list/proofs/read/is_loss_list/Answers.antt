use Prim.Native.Nat.{◌+◌}
use mathlib.Core.Path.{◌≡◌, refl, ◌∙◌}
use native.Mathlib.Omega.{arith}
use denote.Enum.Bare.{sameb}
use Rattle.laws_losses.specs.Reading.{is_opened_of}
use Rattle.loss_list.specs.contracts.read.Phase.{the_type}
use Rattle.loss_list.specs.declared.read.Phase.{Phase}
use Rattle.loss_list.specs.declared.read.Phase.TheVariants.{Clear, Alone, Ended, Opened}
use Rattle.loss_list.specs.Promises.{phase_of}
use Rattle.loss_list.proofs.ListLaws.{turn-within, reads_on, not-list, list-closed}
use Rattle.loss_list.proofs.read.is_loss_list.Goals as goal

is-opened : (p : Phase) → sameb the_type p Opened ≡ is_opened_of (phase_of p)
is-opened Clear = refl
is-opened Alone = refl
is-opened Ended = refl
is-opened Opened = refl

pub returns-in_default : goal.returns-in_default
returns-in_default c =
    not-list _ _ _ c.requires.0 c.requires.1 _ c.loop-word.phase _ c.loop-word.invariant.left (omega arith) c.in_default.ensures

pub loop-word-preserved : goal.loop-word-preserved
loop-word-preserved c =
    let t = c.in-Some.turn in
    let e : c.loop-word.at + (t.gap + t.lost) ≡ c.loop-word.at + t.gap + t.lost = omega arith in
    let s = c.args in
    rw e record {
      within = turn-within s.first _ s.words.now _ c.loop-word.phase c.loop-word.word-index t c.in-Some.ensures;
      left = reads_on _ _ _ _ c.loop-word.phase _ t c.in-Some.ensures c.loop-word.invariant.left (omega arith);
    }

pub returns : goal.returns
returns c =
    c.ne.ensures ∙ list-closed _ _ _ c.requires.0 c.requires.1 _ c.loop-word.phase _ c.loop-word.invariant.left (omega arith) _ (is-opened c.loop-word.phase)
