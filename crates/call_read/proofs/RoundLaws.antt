-- The search from a position and then round, as two searches over ranges, over plain variables. Assumes nothing.
use Rattle.std.proofs.Common.{◌≡◌, ℕ, ◌+◌, ◌-◌, ◌%◌, ◌^◌, ◌<◌, ◌≤◌, Bool, true, false, cond, ltb, List, sym, refl, ap, ◌∙◌, true≢false, mod-eq_of_lt, arith, ltb-true, le-ltb, lt-ltb}
use mathlib.Core.Option.{Option, none, some}
use native.Mathlib.Nat.{sub-zero, mod_self}
use Rattle.std.specs.Prelude.{Result, Ok, Err, Option as Maybe, Some}
use Rattle.words.proofs.CaseLaws.{bool}
use Rattle.words.specs.First.{first_from_of}
use Rattle.words.proofs.FirstLaws.{first-is, round_up, round-low, round-end}
use Rattle.window.specs.declared.AdaptiveReceiverPacketWindow.{AdaptiveReceiverPacketWindow}
use Rattle.window.specs.Memory.{Memory, memory, capacity, position}
use Rattle.window.proofs.MemoryLaws.{position-lt}
use Rattle.window.specs.declared.refusals.Refusal.{Refusal}
use Rattle.window.specs.Refusals.{refusal_number_of}
use Rattle.model.specs.Calls.{successor_after, first_from, Answer, done, new, replaced, absent, found, pair, ended, released, refused}
use Rattle.model.specs.Table.{Pair, holds, sequence_of, search_from}
use Rattle.model.specs.Window.{Window, decode, live_at, capacity_of}
use Rattle.model.specs.Steps.{window_answer}
use Rattle.block_search.specs.Promises.{found_answer_of, first_live, FindsLive}
use Rattle.call_base.proofs.FitLaws.{low-position, next-position}
use Rattle.call_read.specs.Promises.{FindsRound}

-- ---- answers

abbrev is_absent : Answer → Bool
is_absent done = false
is_absent new = false
is_absent (replaced v) = false
is_absent absent = true
is_absent (found n) = false
is_absent (pair s v next reads) = false
is_absent (ended reads) = false
is_absent (released values units) = false
is_absent (refused k) = false

pub not-absent : (a : Answer) → is_absent a ≡ false → a ≡ absent → ⊥
not-absent a e z = true≢false (sym (ap is_absent z) ∙ e)

-- no pair where no sequence is given
pub none-held : (o : Option Pair) → sequence_of o ≡ absent → holds o ≡ false
none-held none e = refl
none-held (some x) e = absurd (not-absent (found x.sequence) refl e)

-- what a walk found is an answer
pub something : (s : ℕ) → found_answer_of (Ok (Some s)) ≡ absent → ⊥
something s e = not-absent (found s) refl e

-- and so is its refusal
pub some_refusal : (why : Refusal) → found_answer_of (Err why) ≡ absent → ⊥
some_refusal why e = not-absent (refused (refusal_number_of why)) refl e

-- ---- ranges

module _ (v : Window) (cap : ℕ) where
  abbrev P : ℕ → Bool
  P r = holds (live_at v r)

  abbrev at : ℕ → ℕ → Answer
  at e q = cond (ltb q e) (sequence_of (live_at v q)) absent

  pub at_in : (e q : ℕ) → ltb q e ≡ true → at e q ≡ sequence_of (live_at v q)
  at_in e q l = rw l

  pub at-past : (e q : ℕ) → ltb q e ≡ false → at e q ≡ absent
  at-past e q l = rw l

  at-end : at cap cap ≡ absent
  at-end = at-past cap cap (le-ltb cap cap (omega arith))

  from_zero : (e : ℕ) → first_live v 0 e ≡ at e (first_from_of P e 0)
  unfolding first_live
  from_zero e = ap (λ (n : ℕ). at e (first_from_of P n 0)) (sub-zero e)

  -- round from position 0: all positions
  pub all-round : first_live v 0 cap ≡ search_from cap (live_at v) 0
  unfolding first_live search_from
  all-round =
      let up = first_from_of P (cap - 0) 0 in
      bool (ltb up cap)
      (λ i. ap (at cap) (sym (round_up P cap 0 i)))
      (λ i. at-past cap up i ∙ sym at-end ∙ ap (at cap) (sym (round-end P cap 0 i (le-ltb (first_from_of P 0 0) 0 (omega arith)))))

  module _ (start : ℕ) (le : start ≤ cap) where
    abbrev up : ℕ
    up = first_from_of P (cap - start) start

    abbrev low : ℕ
    low = first_from_of P start 0

    -- something is live from `start` on
    pub upper-round : (first_live v start cap ≡ absent → ⊥) → first_live v start cap ≡ search_from cap (live_at v) start
    unfolding first_live search_from
    upper-round n = bool (ltb up cap) (λ i. ap (at cap) (sym (round_up P cap start i))) (λ i. absurd (n (at-past cap up i)))

    -- nothing is
    pub lower-round : first_live v start cap ≡ absent → first_live v 0 start ≡ search_from cap (live_at v) start
    unfolding first_live search_from
    lower-round z =
        from_zero start
        ∙ bool (ltb up cap)
        (λ i. absurd (true≢false (sym ((first-is P (cap - start) start).held (omega (arith, ltb-true up cap i))) ∙ none-held (live_at v up) (sym (at_in cap up i) ∙ z))))
        (λ i. bool (ltb low start)
        (λ j. at_in start low j ∙ sym (at_in cap low (lt-ltb low cap (omega (arith, ltb-true low start j)))) ∙ ap (at cap) (sym (round-low P cap start i j)))
        (λ j. at-past start low j ∙ sym at-end ∙ ap (at cap) (sym (round-end P cap start i j))))

-- ---- from the position after a sequence's: p is the sequence's, cap the capacity

module _ (h : AdaptiveReceiverPacketWindow) (ss pages blocks : List ℕ) (s p cap : ℕ)
    (ep : p ≡ position h.window_size s) (ec : cap ≡ capacity h.window_size) where
  next : (p + 1) % cap ≡ position h.window_size (s + 1)
  next = (λ i. (ep i + 1) % ec i) ∙ sym (next-position h.window_size s)

  below : p < cap
  below = omega (arith, position-lt h.window_size s)

  search_is : (vs : List ℕ) (q : ℕ) → q ≡ position h.window_size (s + 1)
      → search_from cap (live_at (decode h (memory ss vs pages blocks))) q
      ≡ search_from (capacity_of (decode h (memory ss vs pages blocks))) (live_at (decode h (memory ss vs pages blocks))) (position h.window_size (s + 1))
  unfolding decode
  search_is vs q e = λ i. search_from (ec i) (live_at (decode h (memory ss vs pages blocks))) (e i)

  pub finds-all : (r : Result (Maybe ℕ) Refusal) → cap ≤ p + 1 → FindsLive h ss pages blocks 0 cap r → FindsRound h ss pages blocks s (found_answer_of r)
  finds-all r l f =
      let z : p + 1 ≡ cap = omega (arith, below) in
      record { gives = λ vs ok. f.gives vs ok ∙ all-round (decode h (memory ss vs pages blocks)) cap ∙ search_is vs 0 (sym (mod_self cap) ∙ ap (λ (x : ℕ). x % cap) (sym z) ∙ next) }

  module _ (l : p + 1 < cap) where
    after : p + 1 ≡ position h.window_size (s + 1)
    after = sym (mod-eq_of_lt l) ∙ next

    pub finds-upper : (r : Result (Maybe ℕ) Refusal) → FindsLive h ss pages blocks (p + 1) cap r → (found_answer_of r ≡ absent → ⊥) → FindsRound h ss pages blocks s (found_answer_of r)
    finds-upper r f n = record {
      gives = λ vs ok.
          let e = f.gives vs ok in
          e ∙ upper-round (decode h (memory ss vs pages blocks)) cap (p + 1) (omega arith) (λ z. n (e ∙ z)) ∙ search_is vs (p + 1) after;
    }

    pub finds-lower : (r t : Result (Maybe ℕ) Refusal) → FindsLive h ss pages blocks (p + 1) cap r → found_answer_of r ≡ absent → FindsLive h ss pages blocks 0 (p + 1) t
        → FindsRound h ss pages blocks s (found_answer_of t)
    finds-lower r t f z g = record {
      gives = λ vs ok.
          g.gives vs ok ∙ lower-round (decode h (memory ss vs pages blocks)) cap (p + 1) (omega arith) (sym (f.gives vs ok) ∙ z) ∙ search_is vs (p + 1) after;
    }

-- ---- the two calls

-- what find_round looks for, of sequence s
abbrev pub round_of : AdaptiveReceiverPacketWindow → Memory → ℕ → Answer
round_of h m s = search_from (capacity_of (decode h m)) (live_at (decode h m)) (position h.window_size (s + 1))

pub after_is : (h : AdaptiveReceiverPacketWindow) (m : Memory) (s : ℕ) → round_of h m s ≡ window_answer (decode h m) (successor_after s)
unfolding decode
after_is h m s = refl

-- a is the sequence before s, and its lowest 31 bits are looked for
pub from_is : (h : AdaptiveReceiverPacketWindow) (m : Memory) (s a : ℕ) → (a + 1) % 2 ^ 32 ≡ s → round_of h m (a % 2 ^ 31) ≡ window_answer (decode h m) (first_from s)
unfolding decode
from_is h m s a e =
    let size = h.window_size in
    let q : position size s ≡ position size (a % 2 ^ 31 + 1) =
    ap (position size) (sym e) ∙ low-position size (a + 1) 32 (omega arith) ∙ next-position size a
    ∙ ap (λ (p : ℕ). (p + 1) % capacity size) (sym (low-position size a 31 (omega arith))) ∙ sym (next-position size (a % 2 ^ 31)) in
    ap (λ (p : ℕ). search_from (capacity size) (live_at (decode h m)) p) (sym q)
