-- The first stranger of a stretch of positions, as a loop over the live values of the stretch, over plain variables. Assumes nothing.
use Rattle.std.proofs.Common.{◌≡◌, ℕ, ◌+◌, ◌-◌, ◌<◌, ◌≤◌, Bool, true, false, cond, ltb, ◌⊎◌, List, sym, refl, ap, ◌∙◌, ⊎_elim, true≢false, arith, ltb-false, ltb-true, le-ltb, lt-ltb}
use mathlib.Core.Option.{Option, none, some}
use native.Mathlib.Decide.{ℕ_discrete, dec_lt}
use Rattle.std.specs.Prelude.{Ok, Err, Some, None}
use Rattle.words.proofs.CaseLaws.{bool}
use Rattle.words.specs.First.{first_from_of}
use Rattle.words.proofs.FirstLaws.{first-is, first-eq}
use Rattle.window.specs.declared.AdaptiveReceiverPacketWindow.{AdaptiveReceiverPacketWindow}
use Rattle.window.specs.Memory.{memory, capacity, position}
use Rattle.window.specs.declared.refusals.Refusal.{Refusal}
use Rattle.window.specs.Refusals.{refusal_number_of}
use Rattle.model.specs.Calls.{Answer, done, new, replaced, absent, found, pair, ended, released, refused}
use Rattle.model.specs.Table.{Pair, pair_of, holds, sequence_of, is_stranger_of}
use Rattle.model.specs.Window.{Window, decode, live_at}
use Rattle.model.specs.Sound.{Sound}
use Rattle.page_base.proofs.LiveLaws.{InPlace, live-in-place}
use Rattle.block_search.specs.Promises.{first_live, FindsLive}
use Rattle.call_read.specs.Promises.{stranger_from, FindsStranger}
use Rattle.call_read.proofs.RoundLaws.{not-absent, none-held}

-- ---- answers

-- the sequence in an answer; 0 if there is none
abbrev pub sequence_in : Answer → ℕ
sequence_in done = 0
sequence_in new = 0
sequence_in (replaced v) = 0
sequence_in absent = 0
sequence_in (found n) = n
sequence_in (pair s v next reads) = 0
sequence_in (ended reads) = 0
sequence_in (released values units) = 0
sequence_in (refused k) = 0

abbrev is_found : Answer → Bool
is_found done = false
is_found new = false
is_found (replaced v) = false
is_found absent = false
is_found (found n) = true
is_found (pair s v next reads) = false
is_found (ended reads) = false
is_found (released values units) = false
is_found (refused k) = false

pub not_found : (a : Answer) (s : ℕ) → is_found a ≡ false → a ≡ found s → ⊥
not_found a s e z = true≢false (sym (ap is_found z) ∙ e)

-- no refusal is a sequence
pub none_refused : (o : Option Pair) (k : ℕ) → sequence_of o ≡ refused k → ⊥
none_refused none k e = not-absent (refused k) refl (sym e)
none_refused (some x) k e = not_found (refused k) x.sequence refl (sym e)

-- what stands at q and has sequence s
pub place_is : (place : ℕ → ℕ) (q s : ℕ) (o : Option Pair) → InPlace place q o → sequence_of o ≡ found s → place s ≡ q
place_is place q s none i e = absurd (not_found absent s refl e)
place_is place q s (some x) i e = ap place (sym (ap sequence_in e)) ∙ i

-- whether it is a stranger, by its sequence; where nothing stands there is none
stranger-of : (first count s : ℕ) (o : Option Pair) → sequence_of o ≡ found s → is_stranger_of first count o ≡ is_stranger_of first count (some (pair_of s 0))
stranger-of first count s none e = absurd (not_found absent s refl e)
stranger-of first count s (some x) e = ap (λ (n : ℕ). is_stranger_of first count (some (pair_of n 0))) (ap sequence_in e)

pub none-stranger : (first count : ℕ) (o : Option Pair) → holds o ≡ false → is_stranger_of first count o ≡ false
none-stranger first count none e = refl
none-stranger first count (some x) e = absurd (true≢false e)

-- ---- the first live value from a position on

module _ (v : Window) (from end : ℕ) where
  abbrev L : ℕ → Bool
  L r = holds (live_at v r)

  abbrev q : ℕ
  q = first_from_of L (end - from) from

  abbrev sequence_at_of : ℕ → Answer
  sequence_at_of r = cond (ltb r end) (sequence_of (live_at v r)) absent

  -- it stands at `at` and has sequence s
  pub record FirstAt (s : ℕ) : Type 0 where
    pub at : ℕ
    pub low : from ≤ at
    pub high : at < end
    pub here : sequence_of (live_at v at) ≡ found s
    pub none : (j : ℕ) → from ≤ j → j < at → holds (live_at v j) ≡ false

  live_at_lem : (s : ℕ) → found s ≡ first_live v from end → FirstAt s
  unfolding first_live
  live_at_lem s e =
      bool (ltb q end)
      (λ i. record {
        at = q;
        low = (first-is L (end - from) from).from;
        high = ltb-true q end i;
        here = sym (rw i at e);
        none = (first-is L (end - from) from).none;
      })
      (λ i. absurd (not_found absent s refl (sym (rw i at e))))

  no-live : from ≤ end → absent ≡ first_live v from end → (j : ℕ) → from ≤ j → j < end → holds (live_at v j) ≡ false
  unfolding first_live
  no-live l e =
      bool (ltb q end)
      (λ i. absurd (true≢false (sym ((first-is L (end - from) from).held (omega (arith, ltb-true q end i))) ∙ none-held (live_at v q) (sym (rw i at e)))))
      (λ i j a b. (first-is L (end - from) from).none j a (omega (arith, ltb-false q end i)))

  live-or-none : (k : ℕ) → refused k ≡ first_live v from end → ⊥
  unfolding first_live
  live-or-none k e = bool (ltb q end) (λ i. none_refused (live_at v q) k (sym (rw i at e))) (λ i. not-absent (refused k) refl (rw i at e))

-- ---- the first stranger of a stretch; none stands from start up to `from`

module _ (v : Window) (first count start from end : ℕ) (begun : start ≤ from)
    (nothing : (j : ℕ) → start ≤ j → j < from → is_stranger_of first count (live_at v j) ≡ false) where
  abbrev P : ℕ → Bool
  P r = is_stranger_of first count (live_at v r)

  -- nor before the next live value
  none_before : (s : ℕ) (f : FirstAt v from end s) (j : ℕ) → start ≤ j → j < f.at → is_stranger_of first count (live_at v j) ≡ false
  none_before s f j a b =
      elim (dec_lt j from) [
        | yes l ↦ nothing j a l
        | no l ↦ none-stranger first count (live_at v j) (f.none j (omega arith) b)
      ]

  stretch-none : end ≤ from → start ≤ end → absent ≡ stranger_from v start end first count
  unfolding stranger_from
  stretch-none past l =
      let e = first-eq P (end - start) start end (record {
        from = l;
        top = omega arith;
        held = λ m. absurd (omega arith);
        none = λ j a b. nothing j a (omega arith);
      }) in
      sym (rw (le-ltb end end (omega arith)) refl) ∙ ap (λ (r : ℕ). cond (ltb r end) (sequence_of (live_at v r)) absent) e

  stretch-found : (s : ℕ) → FirstAt v from end s → is_stranger_of first count (some (pair_of s 0)) ≡ true → found s ≡ stranger_from v start end first count
  unfolding stranger_from
  stretch-found s f t =
      let e = first-eq P (end - start) start f.at (record {
        from = omega (arith, f.low);
        top = omega (arith, f.low, f.high);
        held = λ m. stranger-of first count s (live_at v f.at) f.here ∙ t;
        none = none_before s f;
      }) in
      sym (rw (lt-ltb f.at end f.high) f.here) ∙ ap (λ (r : ℕ). cond (ltb r end) (sequence_of (live_at v r)) absent) e

  stretch-next : (s : ℕ) (f : FirstAt v from end s) → is_stranger_of first count (some (pair_of s 0)) ≡ false
      → (j : ℕ) → start ≤ j → j < f.at + 1 → is_stranger_of first count (live_at v j) ≡ false
  stretch-next s f t j a b =
      elim (ℕ_discrete j f.at) [
        | yes e ↦ rw e (stranger-of first count s (live_at v f.at) f.here ∙ t)
        | no e ↦ none_before s f j a (omega arith)
      ]

-- ---- as the loop does it

-- of any sound window with these lists, no stranger stands from start up to `from`
pub record Searched (h : AdaptiveReceiverPacketWindow) (ss pages blocks : List ℕ) (first count start from : ℕ) : Type 0 where
  pub begun : start ≤ from
  pub nothing : (vs : List ℕ) → Sound (decode h (memory ss vs pages blocks)) → (j : ℕ) → start ≤ j → j < from
      → is_stranger_of first count (live_at (decode h (memory ss vs pages blocks)) j) ≡ false

module _ (h : AdaptiveReceiverPacketWindow) (ss pages blocks : List ℕ) (first count start : ℕ) where
  pub searched-begins : Searched h ss pages blocks first count start start
  searched-begins = record { begun = omega arith; nothing = λ vs ok j a b. absurd (omega arith) }

  module _ (end from : ℕ) (t : Searched h ss pages blocks first count start from) where
    -- every position was passed
    pub finds-none : start ≤ end → end ≤ from → FindsStranger h ss pages blocks start end first count (Ok None)
    finds-none l past = record {
      gives = λ vs ok. stretch-none (decode h (memory ss vs pages blocks)) first count start from end t.begun (t.nothing vs ok) past l;
    }

    -- the walk found no live value
    pub finds-no-live : from ≤ end → FindsLive h ss pages blocks from end (Ok None) → FindsStranger h ss pages blocks start end first count (Ok None)
    finds-no-live l f = record {
      gives = λ vs ok.
          let v = decode h (memory ss vs pages blocks) in
          stretch-none v first count start end end (omega (arith, t.begun))
          (λ j a b. elim (dec_lt j from) [
            | yes m ↦ t.nothing vs ok j a m
            | no m ↦ none-stranger first count (live_at v j) (no-live v from end l (f.gives vs ok) j (omega arith) b)
          ])
          (omega arith) (omega (arith, t.begun));
    }

    -- it refused, as on no sound window
    pub finds-refused : (why : Refusal) → FindsLive h ss pages blocks from end (Err why) → FindsStranger h ss pages blocks start end first count (Err why)
    finds-refused why f = record { gives = λ vs ok. absurd (live-or-none (decode h (memory ss vs pages blocks)) from end (refusal_number_of why) (f.gives vs ok)) }

    -- the walk found sequence s
    module _ (s : ℕ) (f : FindsLive h ss pages blocks from end (Ok (Some s))) where
      first-at : (vs : List ℕ) → Sound (decode h (memory ss vs pages blocks)) → FirstAt (decode h (memory ss vs pages blocks)) from end s
      first-at vs ok = live_at_lem (decode h (memory ss vs pages blocks)) from end s (f.gives vs ok)

      pub finds-stranger : is_stranger_of first count (some (pair_of s 0)) ≡ true → FindsStranger h ss pages blocks start end first count (Ok (Some s))
      finds-stranger e = record {
        gives = λ vs ok. stretch-found (decode h (memory ss vs pages blocks)) first count start from end t.begun (t.nothing vs ok) s (first-at vs ok) e;
      }

      -- q is its position
      module _ (q : ℕ) (is : q ≡ position h.window_size s) (below : end ≤ capacity h.window_size) where
        at-is : (vs : List ℕ) (ok : Sound (decode h (memory ss vs pages blocks))) → q ≡ (first-at vs ok).at
        unfolding decode
        at-is vs ok =
            let v = decode h (memory ss vs pages blocks) in
            let a = first-at vs ok in
            is ∙ place_is (position h.window_size) a.at s (live_at v a.at) (live-in-place v ok a.at (omega (arith, a.high, below))) a.here

        pub finds-outside : (q < from) ⊎ (end ≤ q) → (why : Refusal) → FindsStranger h ss pages blocks start end first count (Err why)
        finds-outside o why = record {
          gives = λ vs ok.
              let a = first-at vs ok in
              ⊎_elim (λ l. absurd (omega (arith, l, at-is vs ok, a.low))) (λ l. absurd (omega (arith, l, at-is vs ok, a.high))) o;
        }

        pub searched-more : is_stranger_of first count (some (pair_of s 0)) ≡ false → from ≤ q → Searched h ss pages blocks first count start (q + 1)
        searched-more e l = record {
          begun = omega (arith, t.begun);
          nothing = λ vs ok j a b.
              stretch-next (decode h (memory ss vs pages blocks)) first count start from end t.begun (t.nothing vs ok) s (first-at vs ok) e j a (omega (arith, b, at-is vs ok));
        }
