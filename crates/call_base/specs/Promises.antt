-- Whether a page's values are reachable, and what a call promises once it is admitted. Definitions only. Assumes nothing.
use Rattle.std.specs.Prelude.{◌≡◌, ℕ, ◌/◌, ◌≤◌, Bool, not, ◌||◌, List, [], length, drop, ◌==◌, nat_le, Result}
use Rattle.window.specs.declared.AdaptiveReceiverPacketWindow.{AdaptiveReceiverPacketWindow}
use Rattle.window.specs.declared.answers.Answer.{Answer}
use Rattle.window.specs.declared.answers.Step.{Step}
use Rattle.window.specs.declared.refusals.Refusal.{Refusal}
use Rattle.window.specs.Lent.{Lent, found_in, left_in}
use Rattle.model.specs.Window.{Window}
use Rattle.model.specs.Calls.{Query, Call, refused}
use Rattle.model.specs.Steps.{Effect, effect, window_answer, window_does, window_acts}
use Rattle.model.specs.Sound.{Sound, SoundWithPoint}
use Rattle.model.specs.Contract.{State, Left, window_of, SamePast, SameLengths, Unaltered, DoesAs}
use Rattle.page_remove.specs.Promises.{Wrote, stretch}
use Rattle.block_marks.specs.Marks.{page_retired_of}
use Rattle.block_marks.specs.Blocks.{block_words_at}
use Rattle.call_base.specs.Answers.{answer_of, state_of, left_of}

-- whether values of page g are reachable: always, unless some retired value is held; then by the marks
abbrev pub reached_by : AdaptiveReceiverPacketWindow → (blocks : List ℕ) → ℕ → Bool
reached_by h blocks g = (h.retired_held == 0) || not (page_retired_of h.retired_blocks (block_words_at blocks (g / 64)) g == 1)

abbrev pub Reachable : AdaptiveReceiverPacketWindow → (blocks : List ℕ) → ℕ → Bool → Type 0
Reachable h blocks g r = r ≡ reached_by h blocks g

-- ---- a call that no refusal for arguments applies to

-- what it owes: by a step of the window, on the windows that are Ok
module _ (step : Window → Call → Effect) (Ok : Window → Type 0) where
  pub record AdmittedAs (c : Call) (u : State) (l : List ℕ) (r : Left) : Type 0 where
    pub sound : Ok (window_of u) → DoesAs step Ok c (window_of u) r
    pub occupied : Ok (window_of u) → r.answer ≡ refused 4 → Unaltered u l r
    pub none_with_4 : r.answer ≡ refused 4 → r.count ≡ 0
    pub past_list : drop r.count r.list ≡ drop r.count l
    pub long_list : length r.list ≡ length l
    pub count_fits : r.count ≤ length l
    pub past_memory : SamePast u.header.window_size u.memory r.state.memory
    pub lengths : SameLengths u.memory r.state.memory

-- what the call does, the point left as it is
abbrev pub Admitted : Call → State → List ℕ → Left → Type 0
Admitted = AdmittedAs window_does Sound

-- and with the point worked out afresh
abbrev pub Acts : Call → State → List ℕ → Left → Type 0
Acts = AdmittedAs window_acts SoundWithPoint

-- the same as a signature says it, without and with a return list
abbrev pub AdmittedBy : Call → AdaptiveReceiverPacketWindow → (sequences values pages blocks : Lent) → Step → Type 0
AdmittedBy c w ss vs pages blocks r = Admitted c (state_of w (found_in ss vs pages blocks)) [] (left_of r (left_in ss vs pages blocks) [])

abbrev pub AdmittedInto : (Bool → Call) → AdaptiveReceiverPacketWindow → (sequences values pages blocks returned : Lent) → Step → Type 0
AdmittedInto c w ss vs pages blocks l r =
    Admitted (c (nat_le 384 (length l.entry))) (state_of w (found_in ss vs pages blocks)) l.entry (left_of r (left_in ss vs pages blocks) l.exit)

-- a query: on a sound state the answer is the definition's
abbrev pub Tells : Query → State → Result Answer Refusal → Type 0
Tells q u a = Sound (window_of u) → answer_of a ≡ window_answer (window_of u) q

-- a step on a window, done on state u, with at most 384 values in the return list from its beginning on; never refusal 4
pub record Fills (step : Window → Effect) (u : State) (l : List ℕ) (r : Left) : Type 0 where
  pub wrote : Wrote 0 r.count l r.list
  pub few : r.count ≤ 384
  pub taken : r.answer ≡ refused 4 → ⊥
  pub past : SamePast u.header.window_size u.memory r.state.memory
  pub lengths : SameLengths u.memory r.state.memory
  pub gives : Sound (window_of u) → effect (window_of r.state) r.answer (stretch 0 r.count r.list) ≡ step (window_of u)

abbrev pub FillsBy : (Window → Effect) → AdaptiveReceiverPacketWindow → (sequences values pages blocks returned : Lent) → Step → Type 0
FillsBy step w ss vs pages blocks l r = Fills step (state_of w (found_in ss vs pages blocks)) l.entry (left_of r (left_in ss vs pages blocks) l.exit)
