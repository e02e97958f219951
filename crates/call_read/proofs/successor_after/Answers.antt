-- Refused as admit_reading says, or else what find_round finds (after_is). Assumes nothing.
use Rattle.std.proofs.Common.{length, sym, refl, ap, ◌∙◌, subst, arith}
use Rattle.window.specs.Refusals.{Fits}
use Rattle.model.specs.Calls.{successor_after}
use Rattle.model.specs.Contract.{State}
use Rattle.call_base.specs.Reading.{state_in}
use Rattle.call_base.proofs.MeetsLaws.{asked-refusal}
use Rattle.call_base.proofs.ReadingLaws.{admission-fits, reading-meets}
use Rattle.call_read.proofs.RoundLaws.{after_is}
use Rattle.call_read.proofs.successor_after.Goals as goal

pub returns-in-Err : goal.returns-in-Err
returns-in-Err c = asked-refusal (successor_after c.args.sequence) _ _ _ c.in-Err.ensures.refused c.refuse.ensures

pub find_round-requires : goal.find_round-requires
find_round-requires c =
    let f = subst (λ (s : State). Fits c.args.w (length s.memory.sequences) (length s.memory.values) (length s.memory.pages) (length s.memory.blocks)) (sym c.in-Ok.ensures.given)
    (admission-fits _ _ _ _ _ _ c.in-Ok.ensures.admitted) in
    record { window_size_bound = (f.within.size_high, omega (arith, f.within.n_high)); window_size_in_bounds = (f.long.sequences_long, f.long.pages_long, f.long.blocks_long) }

pub returns-in-Ok : goal.returns-in-Ok
returns-in-Ok c =
    reading-meets _ _ (ap (λ (s : State). record { header = c.args.w; memory = s.memory }) c.in-Ok.ensures.given) (successor_after c.args.sequence) c.in-Ok.ensures.admitted _ _ c.reply.ensures refl
    (let r = c.in-Ok.window in λ ok. c.find_round.ensures.gives r.values.now ok ∙ after_is c.args.w (state_in r).memory c.args.sequence)
