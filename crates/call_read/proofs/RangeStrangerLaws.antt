-- The first stranger of a range of positions, as the first of one stretch or of two, over plain variables. Assumes nothing.
use Rattle.std.proofs.Common.{◌≡◌, ℕ, ◌+◌, ◌-◌, ◌<◌, ◌≤◌, Bool, true, false, cond, ◌&&◌, ltb, ◌⊎◌, List, sym, refl, ap, ◌∙◌, inl, inr, ⊎_elim, true≢false, arith, ltb-false, ltb-true, le-ltb, lt-ltb, le-leb}
use mathlib.Core.Bool.{and-false}
use native.Mathlib.Decide.{dec_lt}
use native.Mathlib.Nat.{sub-zero}
use borrow.Author.Tests.{lt-leb}
use Rattle.std.specs.Prelude.{Result, Option}
use Rattle.words.proofs.CaseLaws.{bool}
use Rattle.words.specs.First.{first_from_of, first_round}
use Rattle.words.proofs.FirstLaws.{first-is, first-eq, round_up, round-low, round-end}
use Rattle.window.specs.declared.AdaptiveReceiverPacketWindow.{AdaptiveReceiverPacketWindow}
use Rattle.window.specs.Memory.{memory, capacity, position}
use Rattle.window.proofs.MemoryLaws.{capacity-le, position-lt}
use Rattle.model.specs.Calls.{Answer, absent}
use Rattle.model.specs.Table.{covers, sequence_of, is_stranger_of}
use Rattle.model.specs.Window.{Window, decode, size_of, capacity_of, live_at}
use Rattle.model.specs.Sound.{Sound}
use Rattle.window.specs.declared.refusals.Refusal.{Refusal}
use Rattle.block_search.specs.Promises.{found_answer_of}
use Rattle.call_read.specs.Promises.{stranger_from, FindsStranger, stranger_position, stranger_in_range, FindsInRange}
use Rattle.call_read.proofs.RoundLaws.{none-held, at_in, at-past, something, some_refusal}
use Rattle.call_read.proofs.StrangerLaws.{none-stranger}

-- ---- the positions of a range

module _ (cap start count q : ℕ) where
  up_in : start ≤ q → q < start + count → covers cap start count q ≡ true
  up_in a b = rw (le-leb start q a, lt-ltb q (start + count) b)

  up-out : start ≤ q → start ≤ q + cap → start + count ≤ q → covers cap start count q ≡ false
  up-out a b c = rw (le-leb start q a, le-ltb q (start + count) c, le-leb start (q + cap) b, le-ltb (q + cap) (start + count) (omega arith))

  low-in : q < start → start ≤ q + cap → q + cap < start + count → covers cap start count q ≡ true
  low-in a b c = rw (lt-leb start q a, le-leb start (q + cap) b, lt-ltb (q + cap) (start + count) c)

  low-out : q < start → start ≤ q + cap → start + count ≤ q + cap → covers cap start count q ≡ false
  low-out a b c = rw (lt-leb start q a, le-leb start (q + cap) b, le-ltb (q + cap) (start + count) c)

-- ---- a search over them, for a test S

module _ (S : ℕ → Bool) (cap start count : ℕ) (low : start < cap) (few : count ≤ cap) where
  abbrev P : ℕ → Bool
  P r = covers cap start count r && S r

  is-so : (r : ℕ) → covers cap start count r ≡ true → S r ≡ true → P r ≡ true
  is-so r c s = rw (c, s)

  uncovered : (r : ℕ) → covers cap start count r ≡ false → P r ≡ false
  uncovered r c = rw c

  no_such : (r : ℕ) → S r ≡ false → P r ≡ false
  no_such r s = rw s (and-false (covers cap start count r))

  -- from start on: up to the range's end, or to the capacity
  module _ (to : ℕ) (above : start ≤ to) (inside : to ≤ cap) (covered : to ≤ start + count) (rest : (to ≡ cap) ⊎ (to ≡ start + count)) where
    abbrev x : ℕ
    x = first_from_of S (to - start) start

    up-found : ltb x to ≡ true → first_round P cap start ≡ x
    up-found i =
        let l = ltb-true x to i in
        let s = first-is S (to - start) start in
        let e = first-eq P (cap - start) start x (record {
          from = s.from;
          top = omega (arith, l);
          held = λ m. is-so x (up_in cap start count x s.from (omega (arith, l, covered))) (s.held (omega (arith, l)));
          none = λ j a b. no_such j (s.none j a b);
        }) in
        round_up P cap start (lt-ltb (first_from_of P (cap - start) start) cap (omega (arith, l, e))) ∙ sym e

    up_none : ltb x to ≡ false → cap ≡ first_from_of P (cap - start) start
    up_none i =
        let l = ltb-false x to i in
        let s = first-is S (to - start) start in
        first-eq P (cap - start) start cap (record {
          from = omega arith;
          top = omega arith;
          held = λ m. absurd (omega arith);
          none = λ j a b.
              elim (dec_lt j to) [
                | yes m ↦ no_such j (s.none j a (omega arith))
                | no m ↦ uncovered j (up-out cap start count j a (omega arith) (⊎_elim (λ e. absurd (omega arith)) (λ e. omega arith) rest))
              ];
        })

  -- from 0 on, where nothing was found before: up to the range's end
  module _ (rest : ℕ) (short : rest ≤ start) (none_above : cap ≡ first_from_of P (cap - start) start) where
    past : ltb (first_from_of P (cap - start) start) cap ≡ false
    past = le-ltb (first_from_of P (cap - start) start) cap (omega (arith, none_above))

    abbrev y : ℕ
    y = first_from_of S rest 0

    abbrev z : ℕ
    z = first_from_of P start 0

    low-found : start + count ≡ rest + cap → ltb y rest ≡ true → first_round P cap start ≡ y
    low-found end i =
        let l = ltb-true y rest i in
        let s = first-is S rest 0 in
        let e = first-eq P start 0 y (record {
          from = omega arith;
          top = omega (arith, l);
          held = λ m. is-so y (low-in cap start count y (omega (arith, l)) (omega arith) (omega (arith, l, end))) (s.held (omega (arith, l)));
          none = λ j a b. no_such j (s.none j a b);
        }) in
        round-low P cap start past (lt-ltb z start (omega (arith, l, e))) ∙ sym e

    low-none : start + count ≤ rest + cap → ltb y rest ≡ false → first_round P cap start ≡ cap
    low-none end i =
        let l = ltb-false y rest i in
        let s = first-is S rest 0 in
        let e = first-eq P start 0 start (record {
          from = omega arith;
          top = omega arith;
          held = λ m. absurd (omega arith);
          none = λ j a b.
              elim (dec_lt j rest) [
                | yes m ↦ no_such j (s.none j a (omega arith))
                | no m ↦ uncovered j (low-out cap start count j b (omega arith) (omega (arith, end)))
              ];
        }) in
        round-end P cap start past (le-ltb z start (omega (arith, e)))

-- ---- the sequence of the first stranger

module _ (v : Window) (first count : ℕ) (low : position (size_of v) first < capacity_of v) (few : count ≤ capacity_of v) where
  abbrev cap : ℕ
  cap = capacity_of v

  abbrev start : ℕ
  start = position (size_of v) first

  abbrev S : ℕ → Bool
  S r = is_stranger_of first count (live_at v r)

  abbrev answer_at : ℕ → Answer
  answer_at q = cond (ltb q cap) (sequence_of (live_at v q)) absent

  answer-end : absent ≡ answer_at cap
  answer-end = sym (at-past v cap cap cap (le-ltb cap cap (omega arith)))

  -- the range ends in front of the capacity
  one-stretch : position (size_of v) first + count ≤ capacity_of v → stranger_from v (position (size_of v) first) (position (size_of v) first + count) first count ≡ stranger_in_range v first count
  unfolding stranger_from stranger_in_range stranger_position
  one-stretch l =
      let to = start + count in
      let x = first_from_of S (to - start) start in
      bool (ltb x to)
      (λ i. at_in v cap to x i ∙ sym (at_in v cap cap x (lt-ltb x cap (omega (arith, ltb-true x to i))))
      ∙ ap answer_at (sym (up-found S cap start count low few to (omega arith) l (omega arith) (inr refl) i)))
      (λ i. at-past v cap to x i ∙ answer-end
      ∙ ap answer_at (sym (low-none S cap start count low few 0 (omega arith) (up_none S cap start count low few to (omega arith) l (omega arith) (inr refl) i) (omega (arith, l))
      (le-ltb (first_from_of S 0 0) 0 (omega arith)))))

  module _ (wraps : capacity_of v < position (size_of v) first + count) where
    abbrev upper : ℕ
    upper = first_from_of S (cap - start) start

    -- a stranger stands in front of the capacity
    first-stretch : (stranger_from v (position (size_of v) first) (capacity_of v) first count ≡ absent → ⊥)
        → stranger_from v (position (size_of v) first) (capacity_of v) first count ≡ stranger_in_range v first count
    unfolding stranger_from stranger_in_range stranger_position
    first-stretch n =
        bool (ltb upper cap)
        (λ i. ap answer_at (sym (up-found S cap start count low few cap (omega arith) (omega arith) (omega arith) (inl refl) i)))
        (λ i. absurd (n (at-past v cap cap upper i)))

    -- none does
    second-stretch : stranger_from v (position (size_of v) first) (capacity_of v) first count ≡ absent
        → stranger_from v 0 (position (size_of v) first + count - capacity_of v) first count ≡ stranger_in_range v first count
    unfolding stranger_from stranger_in_range stranger_position
    second-stretch z =
        let rest = start + count - cap in
        let y = first_from_of S rest 0 in
        ap (λ (n : ℕ). cond (ltb (first_from_of S n 0) rest) (sequence_of (live_at v (first_from_of S n 0))) absent) (sub-zero rest)
        ∙ bool (ltb upper cap)
        (λ i. absurd (true≢false (sym ((first-is S (cap - start) start).held (omega (arith, ltb-true upper cap i)))
        ∙ none-stranger first count (live_at v upper) (none-held (live_at v upper) (sym (at_in v cap cap upper i) ∙ z)))))
        (λ i.
        let up = up_none S cap start count low few cap (omega arith) (omega arith) (omega arith) (inl refl) i in
        bool (ltb y rest)
        (λ j. at_in v cap rest y j ∙ sym (at_in v cap cap y (lt-ltb y cap (omega (arith, ltb-true y rest j))))
        ∙ ap answer_at (sym (low-found S cap start count low few rest (omega arith) up (omega arith) j)))
        (λ j. at-past v cap rest y j ∙ answer-end ∙ ap answer_at (sym (low-none S cap start count low few rest (omega arith) up (omega arith) j))))

-- ---- as the code does it: start is the position of `first`, cap the capacity

module _ (h : AdaptiveReceiverPacketWindow) (ss pages blocks : List ℕ) (first count start cap : ℕ)
    (es : start ≡ position h.window_size first) (ec : cap ≡ capacity h.window_size) (few : count ≤ capacity h.window_size) where
  below : position h.window_size first < capacity h.window_size
  below = position-lt h.window_size first

  pub finds-one : start + count ≤ cap → (r : Result (Option ℕ) Refusal) → FindsStranger h ss pages blocks start (start + count) first count r → FindsInRange h ss pages blocks first count r
  unfolding decode
  finds-one l r f = record {
    gives = λ vs ok.
        let v = decode h (memory ss vs pages blocks) in
        f.gives vs ok ∙ (λ i. stranger_from v (es i) (es i + count) first count) ∙ one-stretch v first count below few (omega arith);
  }

  module _ (wraps : cap < start + count) (r : Result (Option ℕ) Refusal) (f : FindsStranger h ss pages blocks start cap first count r) where
    first-is-so : (vs : List ℕ) → Sound (decode h (memory ss vs pages blocks))
        → found_answer_of r ≡ stranger_from (decode h (memory ss vs pages blocks)) (position h.window_size first) (capacity h.window_size) first count
    first-is-so vs ok = f.gives vs ok ∙ (λ i. stranger_from (decode h (memory ss vs pages blocks)) (es i) (ec i) first count)

    pub finds-first : (found_answer_of r ≡ absent → ⊥) → FindsInRange h ss pages blocks first count r
    unfolding decode
    finds-first n = record {
      gives = λ vs ok.
          let v = decode h (memory ss vs pages blocks) in
          let e = first-is-so vs ok in
          e ∙ first-stretch v first count below few (omega arith) (λ z. n (e ∙ z));
    }

    pub finds-second : found_answer_of r ≡ absent → (t : Result (Option ℕ) Refusal) → FindsStranger h ss pages blocks 0 (start + count - cap) first count t → FindsInRange h ss pages blocks first count t
    unfolding decode
    finds-second z t g = record {
      gives = λ vs ok.
          let v = decode h (memory ss vs pages blocks) in
          g.gives vs ok ∙ (λ i. stranger_from v 0 (es i + count - ec i) first count) ∙ second-stretch v first count below few (omega arith) (sym (first-is-so vs ok) ∙ z);
    }

-- what the tactics know of a range
pub ruleset ranging = (finds-one, finds-first, finds-second, something, some_refusal, capacity-le, position-lt)
