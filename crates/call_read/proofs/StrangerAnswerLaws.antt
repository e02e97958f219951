-- The pair of a sequence that a search found, and stranger's answer, over plain variables. Assumes nothing.
use Rattle.std.proofs.Common.{◌≡◌, ℕ, ◌<◌, cond, ltb, sym, refl, ap, ◌∙◌, ltb-true, eq-eqb}
use mathlib.Core.Option.{Option, none, some}
use Rattle.std.specs.Prelude.{Result, Ok, Err, Option as Maybe, Some}
use Rattle.window.proofs.MemoryLaws.{size-le}
use Rattle.model.proofs.KeepLaws.{count-some}
use Rattle.words.proofs.CaseLaws.{bool}
use Rattle.window.specs.declared.AdaptiveReceiverPacketWindow.{AdaptiveReceiverPacketWindow}
use Rattle.window.specs.declared.answers.Answer.{Answer}
use Rattle.window.specs.declared.answers.Answer.TheVariants.{Done, New, Replaced, Absent, Found, Pair, Ended, Released}
use Rattle.window.specs.Memory.{Memory, position}
use Rattle.window.specs.declared.refusals.Refusal.{Refusal}
use Rattle.window.specs.Refusals.{refusal_number_of}
use Rattle.model.specs.Calls.{get, stranger, absent, found, pair, ended, refused}
use Rattle.model.specs.Calls as model
use Rattle.model.specs.Table as table
use Rattle.model.specs.Table.{range_count_of, value_if, sequence_of, pair_answer_of, stranger_in}
use Rattle.model.specs.Window.{decode, capacity_of, live_at}
use Rattle.model.specs.Steps.{window_answer}
use Rattle.model.specs.Sound.{Sound}
use Rattle.page_base.proofs.LiveLaws.{live-in-place}
use Rattle.call_base.specs.Answers.{given_of, answer_of, state_of}
use Rattle.call_base.specs.Promises.{Tells}
use Rattle.call_read.specs.Promises.{stranger_position, stranger_in_range, FindsInRange, GivesPair, GivesFound}
use Rattle.call_read.proofs.RoundLaws.{not-absent}
use Rattle.call_read.proofs.StrangerLaws.{sequence_in, not_found, none_refused, place_is}

-- ---- an answer that is no `Found`

other_answer : (a : Answer) (n : ℕ) → ((x : ℕ) → a ≡ Found x → ⊥) → given_of a ≡ found n → ⊥
other_answer Done n k e = not_found model.done n refl e
other_answer New n k e = not_found model.new n refl e
other_answer (Replaced v) n k e = not_found (model.replaced v) n refl e
other_answer Absent n k e = not_found absent n refl e
other_answer (Found v) n k e = k v refl
other_answer (Pair a b c d) n k e = not_found (pair a b c d) n refl e
other_answer (Ended a) n k e = not_found (ended a) n refl e
other_answer (Released a b) n k e = not_found (model.released a b) n refl e

-- ---- the pair, by what get gives for its sequence

module _ (h : AdaptiveReceiverPacketWindow) (m : Memory) (s : ℕ) (a : Answer) (t : Tells (get s) (state_of h m) (Ok a)) where
  get-gives : Sound (decode h m) → (e : table.Pair) → live_at (decode h m) (position h.window_size s) ≡ some e → e.sequence ≡ s → given_of a ≡ found e.value
  unfolding decode
  get-gives ok e z q = t ok ∙ ap (value_if s) z ∙ rw (eq-eqb e.sequence s q) refl

  pub gives-pair : (x : ℕ) → a ≡ Found x → GivesPair h m s (pair s x 0 0)
  gives-pair x k = record {
    gives = λ ok e z q. λ i. pair (sym q i) (ap sequence_in (sym (ap given_of k) ∙ get-gives ok e z q) i) 0 0;
  }

  pub gives_none : ((x : ℕ) → a ≡ Found x → ⊥) → (why : Refusal) → GivesPair h m s (answer_of (Err why))
  gives_none k why = record { gives = λ ok e z q. absurd (other_answer a e.value k (get-gives ok e z q)) }

-- ---- the answer, by what the search found

module _ (h : AdaptiveReceiverPacketWindow) (m : Memory) where
  pub gives_refused : (why : Refusal) → GivesFound h m (Err why) (answer_of (Err why))
  gives_refused why = record {
    gives = λ ok q e.
        bool (ltb q (capacity_of (decode h m)))
        (λ i. absurd (none_refused (live_at (decode h m) q) (refusal_number_of why) (sym (rw i at e))))
        (λ i. absurd (not-absent (refused (refusal_number_of why)) refl (rw i at e)));
  }

  module _ (s : ℕ) (r : model.Answer) (t : GivesPair h m s r) where
    -- what stands at q, its sequence's position
    pair-at : Sound (decode h m) → (q : ℕ) → q < capacity_of (decode h m) → (o : Option table.Pair) → live_at (decode h m) q ≡ o → found s ≡ sequence_of o → r ≡ pair_answer_of o
    unfolding decode
    pair-at ok q l none z e = absurd (not_found absent s refl (sym e))
    pair-at ok q l (some x) z e =
        let p : position h.window_size s ≡ q = place_is (position h.window_size) q s (live_at (decode h m) q) (live-in-place (decode h m) ok q l) (ap sequence_of z ∙ sym e) in
        t.gives ok x (ap (live_at (decode h m)) p ∙ z) (ap sequence_in (sym e))

    pub gives_found : GivesFound h m (Ok (Some s)) r
    gives_found = record {
      gives = λ ok q e.
          bool (ltb q (capacity_of (decode h m)))
          (λ i. rw i (pair-at ok q (ltb-true q (capacity_of (decode h m)) i) (live_at (decode h m) q) refl (rw i at e)))
          (λ i. absurd (not_found absent s refl (sym (rw i at e))));
    }

-- ---- the call

pub stranger-is : (h : AdaptiveReceiverPacketWindow) (m : Memory) (first last count : ℕ) → count ≡ range_count_of first last → (r : Result (Maybe ℕ) Refusal) (a : model.Answer)
    → FindsInRange h m.sequences m.pages m.blocks first count r → GivesFound h m r a → Sound (decode h m) → a ≡ window_answer (decode h m) (stranger first last)
unfolding stranger_in stranger_in_range stranger_position
stranger-is h m first last count is r a f g ok =
    let v = decode h m in
    g.gives ok (stranger_position v first count) (f.gives m.values ok)
    ∙ ap (λ (n : ℕ). cond (ltb (stranger_position v first n) (capacity_of v)) (pair_answer_of (live_at v (stranger_position v first n))) absent) is

-- what the tactics know of the pair of a sequence, and of a range
pub ruleset answering = (gives-pair, gives_none, gives_found, gives_refused, size-le, count-some)
