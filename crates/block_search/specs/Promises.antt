-- What the walk over live pages promises. Document 01: "the walk over pages yields the first live sequence, or none". On any memory
-- it ends and stays inside the lists. Definitions only. Assumes nothing.
use Rattle.std.specs.Prelude.{Option, None, Some, Result, Ok, Err, IfErr, ◌≡◌, cond, List, ℕ, ◌-◌, ltb}
use Rattle.words.specs.First.{first_from_of}
use Rattle.window.specs.declared.AdaptiveReceiverPacketWindow.{AdaptiveReceiverPacketWindow}
use Rattle.window.specs.Memory.{memory}
use Rattle.window.specs.declared.refusals.Refusal.{Refusal}
use Rattle.window.specs.declared.refusals.Refusal.TheVariants.{Unsound}
use Rattle.window.specs.Refusals.{refusal_number_of}
use Rattle.model.specs.Calls.{Answer, absent, found, refused}
use Rattle.model.specs.Table.{holds, sequence_of}
use Rattle.model.specs.Window.{Window, live_at, decode}
use Rattle.model.specs.Sound.{Sound}

-- document 01's answer for each answer of the walk
abbrev pub found_answer_of : Result (Option ℕ) Refusal → Answer
found_answer_of (Ok (Some s)) = found s
found_answer_of (Ok None) = absent
found_answer_of (Err why) = refused (refusal_number_of why)

-- the sequence of the first live value at the positions from start up to end
unfoldable pub first_live : Window → ℕ → ℕ → Answer
first_live w start end =
    let q = first_from_of (λ (r : ℕ). holds (live_at w r)) (end - start) start in
    cond (ltb q end) (sequence_of (live_at w q)) absent

-- what the walk gives; a refusal is Unsound on any memory
pub record FindsLive (h : AdaptiveReceiverPacketWindow) (ss pages blocks : List ℕ) (start end : ℕ) (r : Result (Option ℕ) Refusal) : Type 0 where
  pub unsound : IfErr r (λ why. why ≡ Unsound)
  pub gives : (vs : List ℕ) → Sound (decode h (memory ss vs pages blocks)) → found_answer_of r ≡ first_live (decode h (memory ss vs pages blocks)) start end
