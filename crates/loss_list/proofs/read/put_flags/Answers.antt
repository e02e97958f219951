use Rattle.std.proofs.Common.{◌≡◌, ◌+◌, ◌-◌, ◌<◌, ◌≤◌, length, arith, rules}
use Rattle.laws_losses.proofs.TurnLaws.{told-start}
use Rattle.loss_list.proofs.ListLaws.{part_filled, parts_filled, turn-within, tells-on, never-refused, puts-flags}
use Rattle.loss_list.proofs.read.put_flags.Goals as goal

pub loop-word-init : goal.loop-word-init
loop-word-init c = record { within = omega arith; few = omega arith; told = told-start _ _ _ _ }

pub returns-in_default : goal.returns-in_default
returns-in_default c =
    absurd (never-refused _ _ _ c.requires.0 c.requires.1 _ c.requires.2 c.requires.3 _ c.loop-word.phase _ _ _ c.loop-word.invariant.told (omega arith) c.in_default.ensures)

pub loop-word-preserved : goal.loop-word-preserved
loop-word-preserved c =
    let t = c.in-Some.turn in
    let s = c.args in
    let a = c.loop-word.at in
    let within : a + t.gap + t.lost ≤ s.count = turn-within s.first _ s.words.now _ c.loop-word.phase c.loop-word.word-index t c.in-Some.ensures in
    let long : length c.loop-word.bytes ≡ length s.bytes.now = c.loop-word.auto.bytes in
    let put = parts_filled c.loop-word.bytes _ _ a t.gap t.lost (omega arith) (c.fill.ensures.after (search rules)) (c.fill-in-loop-word.ensures.after (search rules)) in
    let here : c.loop-word.word-index < length s.words.now = omega arith in
    record {
      within = within;
      few = omega arith;
      told = rw put (tells-on _ _ _ c.requires.0 c.requires.1 _ c.requires.2 c.requires.3 _ c.loop-word.phase _ _ _ c.loop-word.invariant.told here t c.in-Some.ensures);
    }

pub returns : goal.returns
returns c =
    let s = c.args in
    let a = c.loop-word.at in
    let long : length c.loop-word.bytes ≡ length s.bytes.now = c.loop-word.auto.bytes in
    let end = part_filled c.loop-word.bytes _ a s.count (s.count - a) 0 (omega arith) (omega arith) (c.fill-2.ensures.after (search rules)) in
    rw end (puts-flags _ _ _ c.requires.0 c.requires.1 _ c.requires.2 c.requires.3 _ c.loop-word.phase _ _ _ c.loop-word.invariant.told (omega arith) c.loop-word.invariant.within)
