-- What a call that filled its list and finished owes, over plain variables. Assumes nothing.
use Rattle.std.proofs.Common.{◌≡◌, ℕ, ◌≤◌, Bool, true, cond, List, Result, Err, sym, refl, ap, ◌∙◌, arith}
use Rattle.words.proofs.CaseLaws.{bool}
use Rattle.window.specs.declared.AdaptiveReceiverPacketWindow.{AdaptiveReceiverPacketWindow}
use Rattle.window.specs.declared.answers.Answer.{Answer}
use Rattle.window.specs.declared.refusals.Refusal.{Refusal}
use Rattle.window.specs.declared.refusals.Refusal.TheVariants.{Unsound}
use Rattle.window.specs.Memory.{memory}
use Rattle.model.specs.Contract.{State, window_of, SamePast, SameLengths}
use Rattle.model.specs.Window.{Window, decode}
use Rattle.model.specs.Steps.{Effect, effect}
use Rattle.model.specs.Sound.{Sound}
use Rattle.page_remove.specs.Promises.{Wrote, stretch}
use Rattle.call_base.specs.Answers.{answer_of, number_of, left_of}
use Rattle.call_base.specs.Promises.{Fills}
use Rattle.release_visit.specs.Promises.{WithinNamed}
use Rattle.call_retire.specs.Finish.{finished}

-- words written inside the named lengths, and no cell
module _ (size : ℕ) (ss vs pages blocks pages' blocks' : List ℕ) (t : WithinNamed size pages blocks pages' blocks') where
  pub words-past : SamePast size (memory ss vs pages blocks) (memory ss vs pages' blocks')
  words-past = record { sequences = refl; values = refl; pages = t.pages_past; blocks = t.blocks_past }

  pub words-lengths : SameLengths (memory ss vs pages blocks) (memory ss vs pages' blocks')
  words-lengths = record { sequences = refl; values = refl; pages = t.pages_long; blocks = t.blocks_long }

-- the step left header h and these lists, with k values returned
module _ (step : Window → Effect) (u : State) (l : List ℕ) (h : AdaptiveReceiverPacketWindow) (a : Result Answer Refusal) (k : ℕ) (sound : Bool) (ss' vs' pages' blocks' l' : List ℕ)
    (answered : number_of (answer_of a) ≡ 0) where
  not-4 : number_of (answer_of (cond sound a (Err Unsound))) ≡ 4 → ⊥
  not-4 e =
      bool sound
      (λ t. omega (arith, answered, ap (λ (b : Bool). number_of (answer_of (cond b a (Err Unsound)))) (sym t) ∙ e))
      (λ t. omega (arith, ap (λ (b : Bool). number_of (answer_of (cond b a (Err Unsound)))) (sym t) ∙ e))

  pub finished-fills : Wrote 0 k l l' → k ≤ 384
      → SamePast u.header.window_size u.memory (memory ss' vs' pages' blocks') → SameLengths u.memory (memory ss' vs' pages' blocks')
      → (Sound (window_of u) → sound ≡ true)
      → (Sound (window_of u) → effect (decode h (memory ss' vs' pages' blocks')) (answer_of a) (stretch 0 k l') ≡ step (window_of u))
      → Fills step u l (left_of (finished h a k sound) (memory ss' vs' pages' blocks') l')
  unfolding finished
  finished-fills wrote few past lengths is gives = record {
    wrote = wrote;
    few = few;
    taken = λ e. not-4 (ap number_of e);
    past = past;
    lengths = lengths;
    gives = λ ok.
        ap (λ (b : Bool). effect (decode h (memory ss' vs' pages' blocks')) (answer_of (cond b a (Err Unsound))) (stretch 0 k l')) (is ok) ∙ gives ok;
  }
