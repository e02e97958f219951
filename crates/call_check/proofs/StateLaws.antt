-- The whole state, and what check answers, over plain variables. Assumes nothing.
use mathlib.Core.Path.{◌≡◌, refl}
use mathlib.Core.Bool.{Bool, true, false}
use mathlib.Core.List.{List}
use Prim.Native.Nat.{ℕ, ◌^◌, ◌<◌}
use Rattle.window.specs.declared.AdaptiveReceiverPacketWindow.{AdaptiveReceiverPacketWindow}
use Rattle.std.specs.Prelude.{Ok, Err}
use Rattle.window.specs.declared.answers.Answer.TheVariants.{Done}
use Rattle.window.specs.declared.refusals.Refusal.TheVariants.{Unsound}
use Rattle.window.specs.Memory.{memory}
use Rattle.window.specs.Refusals.{Within}
use Rattle.model.specs.Window.{Window, decode}
use Rattle.call_base.specs.Answers.{state_of}
use Rattle.page_check.proofs.DecideLaws.{decides-no}
use Rattle.acknowledge.specs.Promises.{DecidesCurrent}
use Rattle.call_check.specs.Promises.{DecidesHeader, DecidesBlocks, DecidesPages, DecidesSound, Checks}
use Rattle.call_check.proofs.ClauseLaws.{sound-at, sound-block, sound-header, clauses-sound}

-- ---- header, blocks and pages together

module _ (h : AdaptiveReceiverPacketWindow) (ss pages blocks : List ℕ) (within : Within h.window_size h.n h.demote_at)
    (summary-fits : h.nonempty_summary < 2 ^ 64) (marks_fit : h.retired_blocks < 2 ^ 64)
    (t : Bool) (header : DecidesHeader h pages blocks t) where
  abbrev v : List ℕ → Window
  v vs = decode h (memory ss vs pages blocks)

  pub header_unsound : t ≡ false → DecidesSound h ss pages blocks false
  unfolding decode
  header_unsound e =
      record { is = λ vs. decides-no (λ ok. (header.is ss vs).fails e (sound-header (v vs) ok summary-fits marks_fit)) }

  module _ (u : Bool) (each : DecidesBlocks h pages blocks u) where
    pub blocks_unsound : u ≡ false → DecidesSound h ss pages blocks false
    unfolding decode
    blocks_unsound e = record { is = λ vs. decides-no (λ ok. (each.is ss vs).fails e (sound-block (v vs) ok)) }

    pub sound_decided : t ≡ true → u ≡ true → (r : Bool) → DecidesPages h ss pages blocks r → DecidesSound h ss pages blocks r
    unfolding decode
    sound_decided et eu r d = record {
      is = λ vs. record {
        holds = λ b.
            clauses-sound h (memory ss vs pages blocks) within
            ((d.is vs).holds b) ((each.is ss vs).holds eu) ((header.is ss vs).holds et);
        fails = λ b ok. (d.is vs).fails b (sound-at (v vs) ok);
      };
    }

-- ---- the answer, by what the test of the state gave

module _ (w : AdaptiveReceiverPacketWindow) (ss vs pages blocks : List ℕ) (d : Bool) (decided : DecidesSound w ss pages blocks d) where
  pub unsound_answer : d ≡ false → Checks (state_of w (memory ss vs pages blocks)) (Err Unsound)
  unsound_answer t = record { sound = λ ok. absurd ((decided.is vs).fails t ok.sound); unsound = λ n. refl }

  -- where that is sound, by what the test of base and point gave
  module _ (t : d ≡ true) (k : Bool) (current : DecidesCurrent w ss pages blocks k) where
    pub current_answer : k ≡ true → Checks (state_of w (memory ss vs pages blocks)) (Ok Done)
    unfolding decode
    current_answer e =
        let ok = (decided.is vs).holds t in
        let p = (current.is vs ok).holds e in
        record { sound = λ s. refl; unsound = λ n. absurd (n (record { sound = ok; base = p.0; point = p.1 })) }

    pub late_answer : k ≡ false → Checks (state_of w (memory ss vs pages blocks)) (Err Unsound)
    unfolding decode
    late_answer e =
        record { sound = λ s. absurd ((current.is vs s.sound).fails e (s.base, s.point)); unsound = λ n. refl }

-- what `sound` needs of them, and `checked`
pub ruleset whole = (header_unsound, blocks_unsound, sound_decided)

pub ruleset answers = (unsound_answer, late_answer, current_answer)
