-- read_losses: its refusals are those of a range and then its own, and each way out meets the contract. Assumes nothing.
use mathlib.Core.Path.{◌≡◌, refl, sym, ap, ◌∙◌, subst}
use mathlib.Core.Bool.{Bool, true, false, ◌&&◌, true≢false}
use mathlib.Core.List.{List, []}
use Prim.Native.Nat.{ℕ, ◌≤◌, ◌<◌}
use native.Mathlib.Omega.{arith}
use Rattle.std.specs.Prelude.{Ok, Err}
use lib.Dec.{leb}
use lib.ListN.{length}
use borrow.Author.Tests.{le-leb, lt-leb}
use Rattle.window.specs.declared.AdaptiveReceiverPacketWindow.{AdaptiveReceiverPacketWindow}
use Rattle.window.specs.declared.answers.Answer.TheVariants.{Found}
use Rattle.window.specs.declared.answers.Step.{Step}
use Rattle.window.specs.declared.refusals.Refusal.{Refusal}
use Rattle.window.specs.declared.refusals.Refusal.TheVariants.{ShortList, LossList}
use Rattle.window.specs.Memory.{Memory}
use Rattle.window.specs.Refusals.{refusal_number_of, fits_with_list_of, is_wire_number_of}
use Rattle.window.proofs.RefusalLaws.{some-refusal}
use Rattle.model.specs.Calls.{Query, write_losses, read_losses, ask}
use Rattle.model.specs.Roles.{range_argument}
use Rattle.model.specs.Table.{range_count_of, first as first_of}
use Rattle.model.specs.Losses.{is_loss_list_of}
use Rattle.model.specs.Contract.{State, lengths_fit, refusal, Meets}
use Rattle.model.specs.Reports.{ReadsLosses}
use Rattle.loss_list.specs.Promises.{PutsFlags}
use Rattle.call_base.specs.Answers.{answer_of, replied, refused_by, state_of, left_of}
use Rattle.call_base.specs.Admits.{admission}
use Rattle.call_base.proofs.MeetsLaws.{refused-meets, read_meets}
use Rattle.call_losses.proofs.WriteLaws.{still, answered}

-- ---- the order: a further test x comes after those of a range

range-refused : (a b c : Bool) (x k : ℕ) → first_of 6 a (first_of 10 b (first_of 5 c 0)) ≡ k → (k ≡ 0 → ⊥) → first_of 6 a (first_of 10 b (first_of 5 c x)) ≡ k
range-refused true true true x k e n = absurd (n (sym e))
range-refused true true false x k e n = e
range-refused true false c x k e n = e
range-refused false b c x k e n = e

range-taken : (a b c : Bool) (x : ℕ) → first_of 6 a (first_of 10 b (first_of 5 c 0)) ≡ 0 → first_of 6 a (first_of 10 b (first_of 5 c x)) ≡ x
range-taken true true true x e = refl
range-taken true true false x e = absurd (omega arith)
range-taken true false c x e = absurd (omega arith)
range-taken false b c x e = absurd (omega arith)

-- ---- the ways out

module _ (first last : ℕ) (words : List ℕ) (w : AdaptiveReceiverPacketWindow) (m : Memory) (l : List ℕ) where
  abbrev u : State
  u = state_of w m

  abbrev reads : Query
  reads = read_losses first last words (length l)

  -- a call that is refused with nothing written
  refused-reads : (why : Refusal) (r : Step) → refusal u (ask reads) ≡ refusal_number_of why → r ≡ refused_by w why → ReadsLosses first last words u l (left_of r m []) l
  refused-reads why r e q =
      let some_number : (refusal_number_of why ≡ 0 → ⊥) = some-refusal why in
      record {
        meets = subst (λ (x : Step). Meets (ask reads) u [] (left_of x m [])) (sym q) (refused-meets (ask reads) u [] (refusal_number_of why) e some_number);
        window = still w m (Err why) r q;
        refused_stays = λ k a. refl;
        reads = λ z. absurd (some_number (sym e ∙ z));
      }

  -- what `admits` tests is the refusal of a range
  range-refusal : admission w (length m.sequences) (length m.values) (length m.pages) (length m.blocks) 384 (range_argument first last) ≡ refusal u (ask (write_losses first last 0))
  unfolding fits_with_list_of
  range-refusal = refl

  pub read-refused : (why : Refusal) (r : Step)
      → refusal_number_of why ≡ admission w (length m.sequences) (length m.values) (length m.pages) (length m.blocks) 384 (range_argument first last) → r ≡ refused_by w why → ReadsLosses first last words u l (left_of r m []) l
  read-refused why r e q =
      refused-reads why r
      (range-refused (lengths_fit u) (is_wire_number_of first && is_wire_number_of last) (leb (range_count_of first last) w.window_size) _ (refusal_number_of why)
      (sym (e ∙ range-refusal)) (some-refusal why))
      q

  module _ (pass : 0 ≡ admission w (length m.sequences) (length m.values) (length m.pages) (length m.blocks) 384 (range_argument first last)) (count : ℕ) (range : count ≡ range_count_of first last) where
    -- its own refusals alone are left
    own : refusal u (ask reads) ≡ first_of 11 (leb count (length l)) (first_of 12 (is_loss_list_of first count words) 0)
    own =
        range-taken (lengths_fit u) (is_wire_number_of first && is_wire_number_of last) (leb (range_count_of first last) w.window_size) _
        (sym (pass ∙ range-refusal))
        ∙ (λ i. first_of 11 (leb (sym range i) (length l)) (first_of 12 (is_loss_list_of first (sym range i) words) 0))

    pub read_short : (r : Step) → length l < count → r ≡ refused_by w ShortList → ReadsLosses first last words u l (left_of r m []) l
    read_short r few q = refused-reads ShortList r (own ∙ rw (lt-leb count (length l) few) refl) q

    pub read-wrong : (r : Step) → count ≤ length l → is_loss_list_of first count words ≡ false → r ≡ refused_by w LossList → ReadsLosses first last words u l (left_of r m []) l
    read-wrong r room wrong q = refused-reads LossList r (own ∙ rw (le-leb count (length l) room, wrong) refl) q

    pub read_done : (r : Step) (n : ℕ) (l' : List ℕ) → count ≤ length l → is_loss_list_of first count words ≡ true → PutsFlags first count words l n l'
        → r ≡ replied w (Ok (Found n)) → ReadsLosses first last words u l (left_of r m []) l'
    read_done r n l' room right put q =
        let taken : refusal u (ask reads) ≡ 0 = own ∙ rw (le-leb count (length l) room, right) refl in
        let same = subst (λ (x : ℕ). PutsFlags first x words l n l') range put in
        record {
          meets = subst (λ (x : Step). Meets (ask reads) u [] (left_of x m [])) (sym q)
              (read_meets reads u (answer_of (Ok (Found n))) (λ k ok. absurd (true≢false (sym k))) taken (λ ok. ap (λ (x : ℕ). answer_of (Ok (Found x))) same.number));
          window = still w m (Ok (Found n)) r q;
          refused_stays = λ k a. let y = answered w m (Ok (Found n)) r q in absurd (cc);
          reads = λ z. (answered w m (Ok (Found n)) r q ∙ ap (λ (x : ℕ). answer_of (Ok (Found x))) same.number, same.bytes);
        }
