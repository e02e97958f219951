-- write_losses: what is seen lost on a sound state is the report, and each way out meets the contract. Assumes nothing.
use mathlib.Core.Path.{◌≡◌, refl, sym, ap, ◌∙◌}
use mathlib.Core.Bool.{not}
use mathlib.Core.List.{List, []}
use Prim.Native.Nat.{ℕ, ◌^◌, ◌≤◌, ◌<◌}
use native.Mathlib.Omega.{arith}
use Rattle.std.specs.Prelude.{Result, Ok, Err}
use lib.ListN.{length, length-append, take, drop}
use lib.Seq.{take-append_seam}
use borrow.Author.Tests.{le-leb, lt-leb, ltb-true}
use Rattle.words.proofs.CaseLaws.{both}
use Rattle.window.specs.declared.AdaptiveReceiverPacketWindow.{AdaptiveReceiverPacketWindow}
use Rattle.window.specs.declared.answers.Answer.{Answer}
use Rattle.window.specs.declared.answers.Answer.TheVariants.{Found}
use Rattle.window.specs.declared.answers.Step.{Step}
use Rattle.window.specs.declared.refusals.Refusal.{Refusal}
use Rattle.window.specs.declared.refusals.Refusal.TheVariants.{ShortList}
use Rattle.window.specs.Memory.{Memory}
use Rattle.window.specs.Refusals.{refusal_number_of, is_wire_number_of}
use Rattle.model.specs.Calls.{write_losses, ask, found}
use Rattle.model.specs.Roles.{range_argument}
use Rattle.model.specs.Steps.{known_by}
use Rattle.model.proofs.RefusalLaws.{wire-taken}
use Rattle.model.specs.Table.{sequence_at_of, range_count_of, refused_for_of, loss_list_of}
use Rattle.model.specs.Losses.{flags_from, loss_words, most_words_of}
use Rattle.model.specs.Point.{is_live}
use Rattle.model.specs.Window.{size_of, live_at}
use Rattle.model.specs.Sound.{Sound}
use Rattle.model.specs.Contract.{State, window_of, Meets}
use Rattle.model.specs.Reports.{report_of, WritesLosses}
use Rattle.page_base.proofs.DecodeLaws.{header_at}
use Rattle.laws_losses.proofs.LossLaws.{flags-length, list-most}
use Rattle.laws_losses.proofs.ReportLaws.{flags-same}
use Rattle.call_base.specs.Answers.{answer_of, replied, refused_by, state_of, left_of}
use Rattle.call_base.specs.Admits.{admission}
use Rattle.call_base.proofs.MeetsLaws.{asked-refusal, asked-fits, asked-arguments, asked-meets}
use Rattle.call_base.proofs.RangeLaws.{count-taken}
use Rattle.acknowledge.specs.Promises.{ListsLent}
use Rattle.acknowledge.proofs.LentLaws.{lists-lent}
use Rattle.loss_stretch.specs.Promises.{seen_lost}
use Rattle.loss_stretch.proofs.SeenLaws.{seen-live}
use Rattle.call_losses.specs.Promises.{seen_list, PutsLosses}

-- a reply leaves the window as it is, and its answer is the one given
module _ (w : AdaptiveReceiverPacketWindow) (m : Memory) (a : Result Answer Refusal) (r : Step) (e : r ≡ replied w a) where
  pub still : state_of r.window m ≡ state_of w m
  still = ap (λ (x : Step). state_of x.window m) e

  pub answered : answer_of r.answer.answer ≡ answer_of a
  answered = ap (λ (x : Step). answer_of x.answer.answer) e

-- ---- what `admits` tested of a range that it takes

module _ (first last : ℕ) (w : AdaptiveReceiverPacketWindow) (m : Memory) (count : ℕ) (range : count ≡ range_count_of first last)
    (pass : 0 ≡ admission w (length m.sequences) (length m.values) (length m.pages) (length m.blocks) 384 (range_argument first last)) where
  pub range-lent : ListsLent w m.sequences m.pages m.blocks
  range-lent = lists-lent w m.sequences m.values m.pages m.blocks (asked-fits (write_losses first last 0) (state_of w m) pass)

  taken : refused_for_of (known_by w) (range_argument first last) ≡ 0
  taken = asked-arguments (write_losses first last 0) (state_of w m) pass

  pub range-few : count ≤ w.window_size
  range-few = omega (arith, range, count-taken (known_by w) first last taken)

  pub range-low : (first < 2 ^ 31) × (count ≤ 65536)
  range-low =
      let wire = (wire-taken (known_by w) (range_argument first last) taken).0 in
      (ltb-true first (2 ^ 31) (both (is_wire_number_of first) (is_wire_number_of last) wire).0, omega (arith, range-few, range-lent.within.size_high))

-- ---- the words that are seen are those of the report

module _ (first last : ℕ) (w : AdaptiveReceiverPacketWindow) (m : Memory) (count : ℕ) (range : count ≡ range_count_of first last) where
  abbrev u : State
  u = state_of w m

  abbrev seen : List ℕ
  seen = seen_list w m.sequences m.pages m.blocks first count

  seen-report : Sound (window_of u) → seen ≡ report_of u first last
  unfolding loss_list_of
  seen-report ok =
      let size : w.window_size ≡ size_of (window_of u) = ap (λ (h : AdaptiveReceiverPacketWindow). h.window_size) (sym (header_at w m)) in
      ap (loss_words first)
      (flags-same (seen_lost w m.sequences m.pages m.blocks first) (λ (d : ℕ). not (is_live w.window_size (live_at (window_of u)) (sequence_at_of first d))) count 0
      (λ d. ap not (seen-live w m ok (sequence_at_of first d))))
      ∙ (λ i. loss_words first (flags_from (λ (d : ℕ). not (is_live (size i) (live_at (window_of u)) (sequence_at_of first d))) 0 (range i)))

  -- a list with the most places that may be needed has those that are
  pub most-fit : (places : ℕ) → most_words_of count ≤ places → length seen ≤ places
  most-fit places l =
      let f = flags_from (seen_lost w m.sequences m.pages m.blocks first) 0 count in
      let long : length f ≡ count = flags-length (seen_lost w m.sequences m.pages m.blocks first) 0 count in
      omega (arith, list-most first f, ap most_words_of long)

  -- ---- the ways out

  module _ (l : List ℕ) where
    -- refused with nothing written
    refused-writes : (why : Refusal) (r : Step) → r ≡ refused_by w why → Meets (ask (write_losses first last (length l))) u [] (left_of r m [])
        → WritesLosses first last u l (left_of r m []) l
    refused-writes why r q meets =
        let e = answered w m (Err why) r q in
        record {
          meets = meets;
          window = still w m (Err why) r q;
          refused_stays = λ k a. refl;
          writes = λ n a. absurd (cc);
          losses = λ n a ok. absurd (cc);
        }

    pub write-refused : (why : Refusal) (r : Step)
        → refusal_number_of why ≡ admission w (length m.sequences) (length m.values) (length m.pages) (length m.blocks) 384 (range_argument first last)
        → r ≡ refused_by w why → WritesLosses first last u l (left_of r m []) l
    write-refused why r e q = refused-writes why r q (asked-refusal (write_losses first last (length l)) u why r e q)

    module _ (pass : 0 ≡ admission w (length m.sequences) (length m.values) (length m.pages) (length m.blocks) 384 (range_argument first last)) where
      -- too few places
      pub write-short : (r : Step) → length l < length seen → r ≡ refused_by w ShortList → WritesLosses first last u l (left_of r m []) l
      write-short r few q =
          refused-writes ShortList r q
          (asked-meets (write_losses first last (length l)) u pass (Err ShortList) r q refl
          (λ ok. let e = ap length (seen-report ok) in sym (rw (lt-leb (length (report_of u first last)) (length l) (omega (arith, e))) refl)))

      -- the list is written, n words
      pub write_done : (r : Step) (n : ℕ) (l' : List ℕ) → length l' ≡ length l → PutsLosses w m.sequences m.pages m.blocks first count l n l'
          → r ≡ replied w (Ok (Found n)) → WritesLosses first last u l (left_of r m []) l'
      write_done r n l' long put q =
          let y = answered w m (Ok (Found n)) r q in
          let room : length seen ≤ length l = omega (arith, long, ap length put.list, length-append seen (drop (length seen) l)) in
          let all = put.number in
          record {
            meets = asked-meets (write_losses first last (length l)) u pass (Ok (Found n)) r q refl
                (λ ok. let e = ap length (seen-report ok) in
                ap found (put.number ∙ e) ∙ sym (rw (le-leb (length (report_of u first last)) (length l) (omega (arith, e))) refl));
            window = still w m (Ok (Found n)) r q;
            refused_stays = λ k a. absurd (cc);
            writes = λ k a. (seen, (cc), put.list);
            losses = λ k a ok.
                let number : k ≡ length seen = cc in
                (λ i. take (number i) (put.list i)) ∙ take-append_seam seen (drop (length seen) l) ∙ seen-report ok.sound;
          }
