use Rattle.std.proofs.Common.{◌≡◌, ℕ, Bool, List, ◌∙◌, arith}
use Rattle.laws_losses.specs.Loops.{Wrote}
use Rattle.laws_losses.proofs.TurnLaws.{filled-over, kept-room, end-room, wrote-end}
use Rattle.loss_stretch.specs.Promises.{seen_lost}
use Rattle.call_losses.proofs.put_losses.Goals as goal

-- past the last stretch the whole range is behind
at_end : (lost : ℕ → Bool) (first n : ℕ) (before : List ℕ) (s k d i : ℕ) (now : List ℕ) → Wrote lost first n before s k d i now → d ≡ n → Wrote lost first n before s k n i now
at_end lost first n before s k d i now w e = rw e at w

pub put_run-at-requires : goal.put_run-at-requires
put_run-at-requires c =
    let a = c.args in
    let s = c.next_stretch-s.ensures in
    let few = c.requires.0.within.size_high in
    let t = c.loop-d.invariant.wrote in
    let long = c.loop-d.auto.words in
    let room = kept-room (seen_lost a.w a.sequences.now a.pages.now a.blocks.now a.first) _ _ _ _ _ _ _ _ t _ s.inside s.some (λ j from below. s.alike j from below ∙ c.if-s.false) in
    (omega (arith, t.run), omega (arith, room))

pub put_run-requires : goal.put_run-requires
put_run-requires c =
    let few = c.requires.0.within.size_high in
    let t = at_end _ _ _ _ _ _ _ _ _ c.loop-d.invariant.wrote (omega arith) in
    let long = c.loop-d.auto.words in
    (omega (arith, t.run), omega (arith, end-room _ _ _ _ _ _ _ _ t))

pub returns : goal.returns
returns c =
    let t = at_end _ _ _ _ _ _ _ _ _ c.loop-d.invariant.wrote (omega arith) in
    let put = c.put_run.ensures in
    let f = filled-over _ _ _ _ (wrote-end _ _ _ _ _ _ _ _ t c.requires.2) in
    record { number = put.value ∙ f.0; list = put.words_after ∙ f.1 }
