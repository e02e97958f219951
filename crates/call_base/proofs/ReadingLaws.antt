-- A reading call that `admit_reading` admits or refuses, over plain variables: its header and its lists fit, and what the answer for
-- them makes of the call. Assumes nothing.
use Rattle.std.proofs.Common.{◌≡◌, ℕ, ◌≤◌, false, [], length, sym, ap, subst, arith}
use Rattle.std.specs.Prelude.{Result}
use Rattle.window.specs.declared.AdaptiveReceiverPacketWindow.{AdaptiveReceiverPacketWindow}
use Rattle.window.specs.declared.answers.Answer.{Answer}
use Rattle.window.specs.declared.answers.Step.{Step}
use Rattle.window.specs.declared.refusals.Refusal.{Refusal}
use Rattle.window.specs.Refusals.{fits_with_list_of, Fits}
use Rattle.window.proofs.RefusalLaws.{fits-is}
use Rattle.model.specs.Calls.{Query, ask, stranger}
use Rattle.model.specs.Roles.{asked_of}
use Rattle.model.specs.Table.{first, range_count_of}
use Rattle.model.specs.Steps.{known_by}
use Rattle.model.specs.Contract.{State, Meets}
use Rattle.model.proofs.RefusalLaws.{tested}
use Rattle.call_base.specs.Answers.{replied, left_of}
use Rattle.call_base.specs.Admits.{admission}
use Rattle.call_base.specs.Promises.{Tells}
use Rattle.call_base.proofs.MeetsLaws.{asked-meets, asked-arguments}
use Rattle.call_base.proofs.RangeLaws.{count-taken}

-- with no return list, the places named for it are enough; `rest` is what the arguments are refused with
pub admission-fits : (w : AdaptiveReceiverPacketWindow) (s v p b rest : ℕ) → 0 ≡ first 6 (fits_with_list_of w s v p b 384) rest → Fits w s v p b
unfolding fits_with_list_of
admission-fits w s v p b rest pass = fits-is w s v p b (tested 6 (fits_with_list_of w s v p b 384) rest (λ k. omega arith) (sym pass)).0

-- what the tactics know of a call that is admitted
pub ruleset admitting = (admission-fits)

-- v is lent for a call in state u
module _ (u v : State) (given : v ≡ u) where
  -- the answer a of a query in v is the call's
  pub reading-meets : (q : Query) → 0 ≡ admission u.header (length u.memory.sequences) (length u.memory.values) (length u.memory.pages) (length u.memory.blocks) 384 (asked_of q).arguments
      → (a : Result Answer Refusal) (x : Step) → x ≡ replied u.header a → (asked_of q).checks ≡ false → Tells q v a → Meets (ask q) u [] (left_of x u.memory [])
  reading-meets q pass a x e other tells = asked-meets q u pass a x e other (subst (λ (s : State). Tells q s a) given tells)

  -- a range that is admitted has at most window_size positions
  pub range-lent : (a b : ℕ)
      → 0 ≡ admission u.header (length u.memory.sequences) (length u.memory.values) (length u.memory.pages) (length u.memory.blocks) 384 (asked_of (stranger a b)).arguments
      → range_count_of a b ≤ v.header.window_size
  range-lent a b pass =
      rw (ap (λ (s : State). s.header.window_size) given) (count-taken (known_by u.header) a b (asked-arguments (stranger a b) u pass))
