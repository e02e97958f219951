-- What stranger answers: a pair is a stranger of the range, and none says that there is none. Assumes nothing.
use mathlib.Core.Path.{◌≡◌, refl, sym, ap, ◌∙◌}
use mathlib.Core.Bool.{Bool, true, false, ◌&&◌, true≢false}
use mathlib.Core.Option.{Option, none, some}
use mathlib.Core.Logic.{inl, inr}
use Prim.Native.Nat.{ℕ, ◌≤◌, ◌<◌}
use native.Mathlib.Omega.{arith}
use lib.Dec.{ltb}
use borrow.Author.Tests.{ltb-true, ltb-false}
use Rattle.words.proofs.CaseLaws.{bool, both}
use Rattle.words.specs.First.{first_round}
use Rattle.words.proofs.FirstLaws.{round-le, round-held, round-none}
use Rattle.window.specs.Memory.{position}
use Rattle.window.proofs.MemoryLaws.{position-lt}
use Rattle.model.specs.Calls.{stranger, ask, Answer, done, new, replaced, absent, found, pair, ended, released, refused}
use Rattle.model.specs.Table.{Pair, pair_of, range_count_of, covers, is_stranger_of, pair_answer_of, stranger_in, argument_refusal}
use Rattle.model.specs.Window.{Window, size_of, capacity_of, live_at}
use Rattle.model.specs.Steps.{known_by, window_step, window_does}
use Rattle.model.specs.Strangers.{StrangerAt, Tells}

-- the pair of an answer, if it is one
abbrev pair_in : Answer → Option Pair
pair_in done = none
pair_in new = none
pair_in (replaced v) = none
pair_in absent = none
pair_in (found n) = none
pair_in (pair s v next reads) = some (pair_of s v)
pair_in (ended reads) = none
pair_in (released values units) = none
pair_in (refused k) = none

abbrev is_some : Option Pair → Bool
is_some none = false
is_some (some e) = true

module _ (w : Window) (first last : ℕ) where
  abbrev start : ℕ
  start = position (size_of w) first

  abbrev P : ℕ → Bool
  P r = covers (capacity_of w) start (range_count_of first last) r && is_stranger_of first (range_count_of first last) (live_at w r)

  low : start ≤ capacity_of w
  low = omega (arith, position-lt (size_of w) first)

  at_of : (q : ℕ) → q < capacity_of w → P q ≡ true → StrangerAt w first last q
  at_of q l e = let b = both _ _ e in record { below = l; covered = b.0; strange = b.1 }

  of_at : (q : ℕ) → StrangerAt w first last q → P q ≡ true
  of_at q t = rw (t.covered, t.strange)

  -- a pair found at position q, or none at any
  tells-pair : (q : ℕ) → q < capacity_of w → P q ≡ true → (o : Option Pair) → live_at w q ≡ o → Tells w first last (pair_answer_of o)
  tells-pair q l e none z = absurd (true≢false (sym (at_of q l e).strange ∙ ap (is_stranger_of first (range_count_of first last)) z))
  tells-pair q l e (some x) z = record {
    given = λ s v n r k. (q, at_of q l e, z ∙ ap pair_in k);
    none = λ k. absurd (true≢false (ap (λ (a : Answer). is_some (pair_in a)) k));
    either = inr (x.sequence, x.value, refl);
  }

  tells_none : ((q : ℕ) → q < capacity_of w → P q ≡ false) → Tells w first last absent
  tells_none h = record {
    given = λ s v n r k. absurd (true≢false (sym (ap (λ (a : Answer). is_some (pair_in a)) k)));
    none = λ k q t. true≢false (sym (of_at q t) ∙ h q t.below);
    either = inl refl;
  }

  tells : Tells w first last (stranger_in (size_of w) (live_at w) first last)
  unfolding stranger_in
  tells =
      let q = first_round P (capacity_of w) start in
      bool (ltb q (capacity_of w))
      (λ i. let l = ltb-true q (capacity_of w) i in rw i (tells-pair q l (round-held P (capacity_of w) start low l) (live_at w q) refl))
      (λ i.
      let e : q ≡ capacity_of w = omega (arith, ltb-false q (capacity_of w) i, round-le P (capacity_of w) start low) in
      rw i (tells_none (round-none P (capacity_of w) start low e)))

  -- the call, where it is not refused
  pub stranger-tells : argument_refusal (known_by w.header) (ask (stranger first last)) ≡ 0 → Tells w first last (window_step w (ask (stranger first last))).answer
  unfolding window_does
  stranger-tells z = rw z tells
