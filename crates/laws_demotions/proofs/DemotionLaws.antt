-- The two counts of demotions after each call: of windows, then of states between which a call met its contract. Assumes nothing.
use mathlib.Core.Path.{◌≡◌, refl, sym, ap, subst, ◌∙◌}
use mathlib.Core.Bool.{true, false, cond, true≢false}
use mathlib.Core.Option.{none, some}
use Prim.Native.Nat.{ℕ, zero, suc, ◌+◌, ◌/◌, ◌%◌, ◌^◌, ◌≤◌, ◌<◌}
use native.Mathlib.Omega.{arith}
use native.Mathlib.Nat.{mod-eq_of_lt}
use native.Mathlib.Decide.{ℕ_discrete}
use lib.Dec.{eqb}
use Rattle.words.proofs.CaseLaws.{bool}
use Rattle.window.specs.declared.AdaptiveReceiverPacketWindow.{AdaptiveReceiverPacketWindow}
use Rattle.window.specs.declared.Cause.{Cause}
use Rattle.window.specs.declared.Cause.TheVariants.{Single, Range}
use Rattle.window.specs.Memory.{position}
use Rattle.model.specs.Calls.{Call, insert, exchange, remove, remove_range, clear, clear_bounded, release_retired, set_base, take_front, ask}
use Rattle.model.specs.Table.{sum, finds, range_count_of, argument_refusal}
use Rattle.model.specs.Demand3.{one, Entry}
use Rattle.model.specs.Window.{Window, size_of, pages_of}
use Rattle.model.specs.Pages.{demotes}
use Rattle.model.specs.Steps.{with_header, set_cursor, note_nonempty, retire_range_of, retire_all_of, unless_refused, live_here, insert_step, exchange_step, remove_step, range_step, clear_step, clear_bounded_step, release_step, front_step, known_by, repoint, window_does, window_acts, window_step}
use Rattle.model.specs.Sound.{SoundWithPoint}
use Rattle.model.specs.Contract.{State, window_of, refusal}
use Rattle.model.specs.Heads.{Stepped}
use Rattle.page_base.proofs.DecodeLaws.{header_at}
use Rattle.laws_soundness.specs.Change.{Kept, SameBut}
use Rattle.laws_soundness.proofs.KeptLaws.{kept_either, release-kept, release-pages-kept, all-kept, insert-kept, exchange-kept, range-kept, remove-kept}
use Rattle.laws_demotions.specs.Demotions.{count_of, counts_under, sparser, RangeCounts, ByCause, CallsCountByCause, RefusedCallsCountNothing, SumCountsAll, S-5}
use Rattle.laws_demotions.proofs.RangeLaws.{Counted, weaken, still, step-counted}
use Rattle.laws_demotions.proofs.SparseLaws.{d, rest, none-sparser, found-sparser, absent-same, remove-once}

-- ---- the count that is not of the call's cause

-- v is what a call leaves of w
abbrev Stays : Cause → Window → Window → Type 0
Stays k w v = count_of k v.header ≡ count_of k w.header

both-stay : (k : Cause) (w v : Window) → SameBut none w v → Stays k w v
both-stay Single w v e = ap (λ (x : Kept). x.single) e
both-stay Range w v e = ap (λ (x : Kept). x.range) e

range-stays : (w v : Window) → SameBut (some Single) w v → Stays Range w v
range-stays w v e = ap (λ (x : Kept). x.range) e

single-stays : (w v : Window) → SameBut (some Range) w v → Stays Single w v
single-stays w v e = ap (λ (x : Kept). x.single) e

module _ (w : Window) where
  ranged-kept : (start count : ℕ) → SameBut (some Range) w (range_step w start count).after
  unfolding range_step
  ranged-kept start count =
      let t = (retire_range_of w start count).after in
      let same = range-kept w start count in
      let v = cond (eqb w.header.retired_held 0) (with_header t (set_cursor t.header (start / 64))) t in
      release-kept (some Range) 256 v ∙ kept_either (some Range) w (with_header t (set_cursor t.header (start / 64))) t (eqb w.header.retired_held 0) same same

  cleared-kept : SameBut none w (clear_step w).after
  unfolding clear_step
  cleared-kept = release-kept none 256 (retire_all_of w) ∙ all-kept none w

  bounded-kept : (n : ℕ) → SameBut none w (clear_bounded_step w n).after
  unfolding clear_bounded_step
  bounded-kept n = release-pages-kept none (pages_of w) 0 n (retire_all_of w) ∙ all-kept none w

  released-kept : (b : ℕ) → SameBut none w (release_step w b).after
  unfolding release_step
  released-kept b = release-kept none b w

  front-range : Stays Range w (front_step w).after
  unfolding front_step
  front-range =
      let s = w.header.base in
      bool (finds s (live_here w s)) (λ e. rw e (range-stays w (remove_step w s).after (remove-kept w s))) (λ e. rw e)

  base_stays : (k : Cause) (s : ℕ) → Stays k w (window_does w (set_base s)).after
  unfolding window_does
  base_stays Single s = refl
  base_stays Range s = refl

  does_stays : (c : Call) (k : Cause) → counts_under k c ≡ false → Stays k w (window_does w c).after
  unfolding window_does
  does_stays (insert s v listed) k e = both-stay k w (insert_step w s v).after (insert-kept none w s v)
  does_stays (exchange s v) k e = both-stay k w (exchange_step w s v).after (exchange-kept none w s v)
  does_stays (remove s) Single e = absurd (true≢false e)
  does_stays (remove s) Range e = range-stays w (remove_step w s).after (remove-kept w s)
  does_stays (remove_range a b listed) Single e = single-stays w (range_step w (position (size_of w) a) (range_count_of a b)).after (ranged-kept (position (size_of w) a) (range_count_of a b))
  does_stays (remove_range a b listed) Range e = absurd (true≢false e)
  does_stays (clear listed) k e = both-stay k w (clear_step w).after cleared-kept
  does_stays (clear_bounded n listed) k e = both-stay k w (clear_bounded_step w n).after (bounded-kept n)
  does_stays (release_retired b listed) k e = both-stay k w (release_step w b).after (released-kept b)
  does_stays (set_base s) k e = base_stays k s
  does_stays take_front Single e = absurd (true≢false e)
  does_stays take_front Range e = front-range
  does_stays (ask q) k e = refl

  -- the point worked out afresh moves neither
  pointed-stays : (k : Cause) (v : Window) → Stays k w v → Stays k w (repoint v)
  pointed-stays Single v e = e
  pointed-stays Range v e = e

-- ---- the first count, of remove and take_front

module _ (w : Window) (room : w.header.single_demotions < 2 ^ 64) where
  abbrev Rises : Window → Type 0
  Rises v = (v.header.single_demotions ≡ (w.header.single_demotions + sparser w v) % 2 ^ 64) × (sparser w v ≤ 1)

  -- with the pages and the count of w
  pub none-rises : (v : Window) → v.pages ≡ w.pages → v.header.single_demotions ≡ w.header.single_demotions → Rises v
  none-rises v p e =
      let z = none-sparser w v p in
      let n : w.header.single_demotions + sparser w v ≡ w.header.single_demotions = omega (arith, z) in
      (e ∙ sym (ap (λ (x : ℕ). x % 2 ^ 64) n ∙ mod-eq_of_lt room), omega (arith, z))

  removed-single : (s : ℕ) → finds s (live_here w s) ≡ true
      → (remove_step w s).after.header.single_demotions ≡ (w.header.single_demotions + one (demotes (d w s) (rest w s))) % 2 ^ 64
  unfolding remove_step note_nonempty
  removed-single s t = rw t

  remove-rises : (s : ℕ) → Rises (remove_step w s).after
  remove-rises s =
      bool (finds s (live_here w s))
      (λ t. (removed-single s t ∙ ap (λ (x : ℕ). (w.header.single_demotions + x) % 2 ^ 64) (sym (found-sparser w s t)), remove-once w s))
      (λ t. none-rises (remove_step w s).after (ap (λ (v : Window). v.pages) (absent-same w s t)) (ap (λ (v : Window). v.header.single_demotions) (absent-same w s t)))

  front-rises : Rises (front_step w).after
  unfolding front_step
  front-rises =
      let s = w.header.base in
      bool (finds s (live_here w s)) (λ e. rw e (remove-rises s)) (λ e. rw e (none-rises w refl refl))

  does-rises : (c : Call) → counts_under Single c ≡ true → Rises (window_does w c).after
  unfolding window_does
  does-rises (insert s v listed) e = absurd (true≢false (sym e))
  does-rises (exchange s v) e = absurd (true≢false (sym e))
  does-rises (remove s) e = remove-rises s
  does-rises (remove_range a b listed) e = absurd (true≢false (sym e))
  does-rises (clear listed) e = absurd (true≢false (sym e))
  does-rises (clear_bounded n listed) e = absurd (true≢false (sym e))
  does-rises (release_retired b listed) e = absurd (true≢false (sym e))
  does-rises (set_base s) e = absurd (true≢false (sym e))
  does-rises take_front e = front-rises
  does-rises (ask q) e = absurd (true≢false (sym e))

-- ---- the second count, of remove_range

module _ (w : Window) where
  does-ranges : (c : Call) → counts_under Range c ≡ true → Counted 2 w (window_does w c).after
  unfolding window_does
  does-ranges (insert s v listed) e = absurd (true≢false (sym e))
  does-ranges (exchange s v) e = absurd (true≢false (sym e))
  does-ranges (remove s) e = absurd (true≢false (sym e))
  does-ranges (remove_range a b listed) e = step-counted w (position (size_of w) a) (range_count_of a b)
  does-ranges (clear listed) e = absurd (true≢false (sym e))
  does-ranges (clear_bounded n listed) e = absurd (true≢false (sym e))
  does-ranges (release_retired b listed) e = absurd (true≢false (sym e))
  does-ranges (set_base s) e = absurd (true≢false (sym e))
  does-ranges take_front e = absurd (true≢false (sym e))
  does-ranges (ask q) e = absurd (true≢false (sym e))

  pointed-ranges : (v : Window) → Counted 2 w v → Counted 2 w (repoint v)
  pointed-ranges v t = record { rise = t.rise; few = t.few; range = t.range; room = t.room; sparse = t.sparse; size = t.size; below = t.below }

-- ---- the whole step

pub step_stays : (w : Window) (c : Call) (k : Cause) → counts_under k c ≡ false → Stays k w (window_step w c).after
step_stays w c k e = unless (argument_refusal (known_by w.header) c)
  where
    unless : (n : ℕ) → Stays k w (unless_refused n w (window_acts w c)).after
    unless zero = pointed-stays w k (window_does w c).after (does_stays w c k e)
    unless (suc n) = refl

pub step-rises : (w : Window) (room : w.header.single_demotions < 2 ^ 64) (c : Call) → counts_under Single c ≡ true → Rises w room (window_step w c).after
step-rises w room c e = unless (argument_refusal (known_by w.header) c)
  where
    unless : (n : ℕ) → Rises w room (unless_refused n w (window_acts w c)).after
    unless zero = does-rises w room c e
    unless (suc n) = none-rises w room w refl refl

pub step-ranges : (w : Window) (c : Call) → counts_under Range c ≡ true → Counted 2 w (window_step w c).after
step-ranges w c e = unless (argument_refusal (known_by w.header) c)
  where
    unless : (n : ℕ) → Counted 2 w (unless_refused n w (window_acts w c)).after
    unless zero = pointed-ranges w (window_does w c).after (does-ranges w c e)
    unless (suc n) = weaken 0 2 w w (omega arith) (still w)

-- ---- states

module _ (u v : State) (e : Entry) (t : Stepped u e v) where
  abbrev c : Call
  c = e.call

  -- a refused call leaves the state
  kept : (refusal u e.call ≡ 0 → ⊥) → v ≡ u
  kept n = sym t.state ∙ (t.meets.refuses n).1.state

  header_of : (x : State) → (window_of x).header ≡ x.header
  header_of x = header_at x.header x.memory

  pub refused_stays : (refusal u e.call ≡ 0 → ⊥) → (k : Cause) → count_of k v.header ≡ count_of k u.header
  refused_stays n k = ap (λ (x : State). count_of k x.header) (kept n)

  module _ (ok : SoundWithPoint (window_of u)) (room : (k : Cause) → count_of k u.header < 2 ^ 64) where
    room_of : (window_of u).header.single_demotions < 2 ^ 64
    room_of = subst (λ (h : AdaptiveReceiverPacketWindow). h.single_demotions < 2 ^ 64) (sym (header_of u)) (room Single)

    stepped : refusal u e.call ≡ 0 → window_of v ≡ (window_step (window_of u) e.call).after
    stepped z = ap window_of (sym t.state) ∙ (t.meets.sound z ok).window

    -- as the windows read
    rises : counts_under Single e.call ≡ true → Rises (window_of u) room_of (window_of v)
    rises q =
        elim (ℕ_discrete (refusal u e.call) 0) [
          | yes z ↦ subst (Rises (window_of u) room_of) (sym (stepped z)) (step-rises (window_of u) room_of e.call q)
          | no z ↦ none-rises (window_of u) room_of (window_of v) (ap (λ (x : State). (window_of x).pages) (kept z)) (ap (λ (x : State). (window_of x).header.single_demotions) (kept z))
        ]

    stays : (k : Cause) → counts_under k e.call ≡ false → count_of k v.header ≡ count_of k u.header
    stays k q =
        elim (ℕ_discrete (refusal u e.call) 0) [
          | yes z ↦
              ap (count_of k) (sym (header_of v)) ∙ ap (λ (x : Window). count_of k x.header) (stepped z) ∙ step_stays (window_of u) e.call k q ∙ ap (count_of k) (header_of u)
          | no z ↦ refused_stays z k
        ]

    ranged : counts_under Range e.call ≡ true → Counted 2 (window_of u) (window_of v)
    ranged q =
        elim (ℕ_discrete (refusal u e.call) 0) [
          | yes z ↦ subst (Counted 2 (window_of u)) (sym (stepped z)) (step-ranges (window_of u) e.call q)
          | no z ↦ subst (λ (x : State). Counted 2 (window_of u) (window_of x)) (sym (kept z)) (weaken 0 2 (window_of u) (window_of u) (omega arith) (still (window_of u)))
        ]

    range-counts : counts_under Range e.call ≡ true → RangeCounts u v
    range-counts q =
        let t = ranged q in
        let a = ap (λ (h : AdaptiveReceiverPacketWindow). h.range_demotions) (header_of u) in
        let b = ap (λ (h : AdaptiveReceiverPacketWindow). h.range_demotions) (header_of v) in
        let l : (window_of u).header.range_demotions < 2 ^ 64 = omega (arith, a, room Range) in
        record {
          rise = t.rise;
          counted = sym b ∙ sym (mod-eq_of_lt (t.room l)) ∙ t.range ∙ ap (λ (x : ℕ). (x + t.rise) % 2 ^ 64) a;
          all = t.sparse;
          few = t.few;
        }

    pub counts-by-cause : ByCause e.call u v
    counts-by-cause = record {
      rises = λ q.
          ap (λ (h : AdaptiveReceiverPacketWindow). h.single_demotions) (sym (header_of v)) ∙ (rises q).0
          ∙ ap (λ (h : AdaptiveReceiverPacketWindow). (h.single_demotions + sparser (window_of u) (window_of v)) % 2 ^ 64) (header_of u);
      once = λ q. (rises q).1;
      ranges = range-counts;
      stays = stays;
    }

-- ---- the sum of both

sum-single : (a b k : ℕ) → ((a + k) % 2 ^ 64 + b) % 2 ^ 64 ≡ ((a + b) % 2 ^ 64 + k) % 2 ^ 64
sum-single a b k = omega arith

sum-range : (a b k : ℕ) → (a + (b + k) % 2 ^ 64) % 2 ^ 64 ≡ ((a + b) % 2 ^ 64 + k) % 2 ^ 64
sum-range a b k = omega arith

pub sum-counts : SumCountsAll
unfolding SumCountsAll
sum-counts Single w happened = sum-single w.header.single_demotions w.header.range_demotions (one happened)
sum-counts Range w happened = sum-range w.header.single_demotions w.header.range_demotions (one happened)

-- ---- request S-5

pub s-5 : S-5
unfolding CallsCountByCause RefusedCallsCountNothing
s-5 = record {
  calls = λ u v e ok room t. counts-by-cause u v e t ok room;
  refused_calls = λ u v e n t. refused_stays u v e t n;
  sum = sum-counts;
}
