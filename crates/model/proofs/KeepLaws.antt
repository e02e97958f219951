-- Each call on positions keeps what demand 3 asks: the live positions stay the plain table's, answers agree, no value is lost, and
-- what an emptying call emptied is returned or retired. Assumes nothing.
use mathlib.Core.Path.{◌≡◌, refl, sym, ap, ◌∙◌, subst}
use mathlib.Core.Bool.{Bool, true, false, cond}
use mathlib.Core.Option.{Option, none, some, some-injective}
use mathlib.Core.List.{List, [], ◌++◌}
use Prim.Native.Nat.{ℕ, zero, suc, ◌+◌, ◌-◌, ◌*◌, ◌/◌, ◌≤◌, ◌<◌}
use native.Mathlib.Omega.{arith}
use lib.Dec.{leb, ltb, eqb}
use lib.ListN.{length}
use borrow.Author.Tests.{eqb-true, leb-true, le-leb}
use Rattle.words.proofs.CaseLaws.{bool}
use Rattle.window.specs.Memory.{capacity, page_count_of, position}
use Rattle.window.proofs.MemoryLaws.{capacity-pages, position-lt}
use Rattle.model.specs.Calls.{Call, insert, exchange, remove, remove_range, clear, clear_bounded, release_retired, set_base, take_front, ask, Answer, done, found, refused}
use Rattle.model.specs.Table.{Pair, Table, fresh, at, held, finds, value_if, sequence_at_of, put_at, put_answer_of, exchange_at, remove_at, range_count_of, covers, held_in_range, known, argument_refusal, with_pairs, with_base, Outcome, outcome, table_answer, table_step, table_does, unless_refused as unless_in_table}
use Rattle.model.specs.Roles.{role_of, told_of, given, unless_refused, if_found}
use Rattle.model.specs.Demand3.{times, lost}
use Rattle.model.specs.Positions.{Positions, positions, plain, drain, release, wipe, moved, sweep_range, Result, result, stays, unless_refused as unless_at_positions, retired_count, step, does, fresh_positions}
use Rattle.model.proofs.SumLaws.{at_other, sum-at, weigh, weight, equals, held-le, total-times, times-append, weight-fresh, weight-same, total-lost}
use Rattle.model.proofs.DrainLaws.{drain-keeps, drain-inside, drain-less}
use Rattle.model.proofs.ReleaseLaws.{release-keeps, release-less, release-halves, release-cursor}
use Rattle.model.proofs.RefusalLaws.{range-taken}
use Rattle.model.proofs.SweepLaws.{wipe-in, moved_keeps, range-live, range-apart, range-keeps}

-- ---- one position: what is accepted and was there, is there after or handed back

put-balance : (s v x : ℕ) (o : Option Pair)
    → times x (unless_refused v (put_answer_of s o)) + weigh (equals x) o ≡ weigh (equals x) (put_at s v o) + times x (given (put_answer_of s o))
put-balance s v x none = omega arith
put-balance s v x (some e) = bool (eqb e.sequence s) (λ i. rw i (omega arith)) (λ i. rw i (omega arith))

exchange-balance : (s v x : ℕ) (o : Option Pair)
    → times x (if_found v (value_if s o)) + weigh (equals x) o ≡ weigh (equals x) (exchange_at s v o) + times x (given (value_if s o))
exchange-balance s v x none = omega arith
exchange-balance s v x (some e) = bool (eqb e.sequence s) (λ i. rw i (omega arith)) (λ i. rw i (omega arith))

remove-balance : (s x : ℕ) (o : Option Pair) → weigh (equals x) o ≡ weigh (equals x) (remove_at s o) + times x (given (value_if s o))
remove-balance s x none = omega arith
remove-balance s x (some e) = bool (eqb e.sequence s) (λ i. rw i (omega arith)) (λ i. rw i (omega arith))

exchange-held : (s v : ℕ) (o : Option Pair) → held (exchange_at s v o) ≤ held o
exchange-held s v none = omega arith
exchange-held s v (some e) = bool (eqb e.sequence s) (λ i. rw i (omega arith)) (λ i. rw i (omega arith))

remove-held : (s : ℕ) (o : Option Pair) → held (remove_at s o) ≤ held o
remove-held s none = omega arith
remove-held s (some e) = bool (eqb e.sequence s) (λ i. rw i (omega arith)) (λ i. rw i (omega arith))

at-apart : (t u : Table) (p : ℕ) (o : Option Pair) → ((q : ℕ) → held (t q) + held (u q) ≤ 1) → held o + held (u p) ≤ 1
    → (q : ℕ) → held (at t p o q) + held (u q) ≤ 1
at-apart t u p o h k q = bool (eqb q p) (λ i. rw i (rw (eqb-true q p i) k)) (λ i. rw i (h q))

pub count-some : (a b : ℕ) → 0 < range_count_of a b
unfolding range_count_of
count-some a b = omega arith

cond-none : (b : Bool) (o : Option Pair) → o ≡ none → cond b none o ≡ none
cond-none true o e = refl
cond-none false o e = e

lost-same : (n v : ℕ) (t : Table) → times v (lost n t t) ≡ 0
lost-same n v t = omega (arith, total-lost n (equals v) t (λ (q : ℕ). false), total-times v (lost n t t))

module _ (size : ℕ) where
  abbrev cap : ℕ
  cap = capacity size

  abbrev pages : ℕ
  pages = page_count_of size

  -- What holds of positions after each call: nothing is live beyond the capacity, no position holds both a live and a retired pair,
  -- and the cursor is at most the number of pages.
  pub record Fit (w : Positions) : Type 0 where
    pub beyond : (q : ℕ) → cap ≤ q → w.live q ≡ none
    pub apart : (q : ℕ) → held (w.live q) + held (w.retired q) ≤ 1
    pub cursor : w.cursor ≤ pages

  pub fresh-fit : Fit fresh_positions
  fresh-fit = record { beyond = λ q l. refl; apart = λ q. omega arith; cursor = omega arith }

  -- the accepted value and what was live and retired, are live, retired, handed back or returned
  abbrev pub Balance : Positions → Call → Result → Answer → Type 0
  Balance w c r a = (v : ℕ)
      → times v ((role_of c).accepted a) + weight cap (equals v) w.live + weight cap (equals v) w.retired
      ≡ weight cap (equals v) r.after.live + weight cap (equals v) r.after.retired + times v ((role_of c).handed_back a) + times v r.returned

  -- What demand 3 asks of one call c at positions w, where it gives r, and the plain table over the live positions gives o.
  pub record Kept (w : Positions) (c : Call) (r : Result) (o : Outcome) : Type 0 where
    pub fit : Fit r.after
    pub same : plain r.after ≡ o.after
    pub answer : told_of (role_of c) r.answer ≡ told_of (role_of c) o.answer
    pub whole : (a : Answer) → told_of (role_of c) r.answer ≡ (role_of c).told a → Balance w c r a
    pub emptied : (v : ℕ)
        → weight cap (equals v) r.after.retired + times v r.returned
        ≡ weight cap (equals v) w.retired + times v (cond (role_of c).emptying (lost cap w.live o.after.pairs) [])

  -- nothing is accepted, nothing handed back
  abbrev pub Quiet : Call → Answer → Type 0
  Quiet c a = ((role_of c).accepted a ≡ []) × ((role_of c).handed_back a ≡ [])

  module _ (w : Positions) (f : Fit w) where
    -- ---- kinds of call

    -- a call that changes nothing
    kept-still : (c : Call) (x : Option Answer) → ((a : Answer) → told_of (role_of c) x ≡ (role_of c).told a → Quiet c a)
        → Kept w c (stays w x) (record { after = plain w; answer = x })
    kept-still c x n = record {
      fit = f;
      same = refl;
      answer = refl;
      whole = λ a h v. omega (arith, ap (times v) (n a h).0, ap (times v) (n a h).1);
      emptied = λ v. bool (role_of c).emptying (λ i. rw i (omega (arith, lost-same cap v w.live))) (λ i. rw i (omega arith));
    }

    -- a refusal accepts nothing and hands nothing back
    quiet-refused : (c : Call) (k : ℕ) (a : Answer) → told_of (role_of c) (some (refused k)) ≡ (role_of c).told a → Quiet c a
    quiet-refused (insert s v l) k a h = subst (Quiet (insert s v l)) (some-injective (refused k) a h) (refl, refl)
    quiet-refused (exchange s v) k a h = subst (Quiet (exchange s v)) (some-injective (refused k) a h) (refl, refl)
    quiet-refused (remove s) k a h = subst (Quiet (remove s)) (some-injective (refused k) a h) (refl, refl)
    quiet-refused (remove_range a b l) k x h = (refl, refl)
    quiet-refused (clear l) k a h = (refl, refl)
    quiet-refused (clear_bounded n l) k a h = (refl, refl)
    quiet-refused (release_retired b l) k a h = (refl, refl)
    quiet-refused (set_base s) k a h = (refl, refl)
    quiet-refused take_front k a h = subst (Quiet take_front) (some-injective (refused k) a h) (refl, refl)
    quiet-refused (ask q) k a h = (refl, refl)

    -- a call that refuses k for its arguments, 0 for none
    kept-unless : (c : Call) (k : ℕ) (r : Result) (o : Outcome) → (k ≡ 0 → Kept w c r o) → Kept w c (unless_at_positions k w r) (unless_in_table k (plain w) o)
    kept-unless c zero r o h = h refl
    kept-unless c (suc k) r o h = kept-still c (some (refused (suc k))) (quiet-refused c (suc k))

    -- a call that changes one live position, may return retired values, and leaves the base n
    kept_at : (c : Call) (p : ℕ) (o : Option Pair) (u : Table) (n : ℕ) (l : List ℕ) (b : Answer) → ((a : Answer) → (role_of c).told a ≡ some a) → (role_of c).emptying ≡ false → p < cap
        → held o + held (u p) ≤ 1 → ((q : ℕ) → held (u q) ≤ held (w.retired q))
        → ((v : ℕ) → times v ((role_of c).accepted b) + weigh (equals v) (w.live p) ≡ weigh (equals v) o + times v ((role_of c).handed_back b))
        → ((v : ℕ) → weight cap (equals v) u + times v l ≡ weight cap (equals v) w.retired)
        → Kept w c (result (positions (at w.live p o) u w.cursor n) (some b) l) (outcome (with_base (with_pairs (plain w) (at w.live p o)) n) b)
    kept_at c p o u n l b all emptying p-lt one less here there =
        let r : Result = result (positions (at w.live p o) u w.cursor n) (some b) l in
        record {
          fit = record {
            beyond = λ q k. at_other w.live p o q (λ d. omega arith) ∙ f.beyond q k;
            apart = at-apart w.live u p o (λ q. omega (arith, f.apart q, less q)) one;
            cursor = f.cursor;
          };
          same = refl;
          answer = refl;
          whole = λ a h. subst (Balance w c r) (some-injective b a (sym (all b) ∙ h ∙ all a)) (λ v. omega (arith, here v, there v, sum-at cap (weigh (equals v)) w.live p o p-lt));
          emptied = λ v. rw emptying (omega (arith, there v));
        }

    -- a call that empties the positions where b holds
    kept-emptying : (c : Call) (b : ℕ → Bool) (t u : Table) (n : ℕ) (l : List ℕ) (x y : Option Answer) → ((a : Answer) → Quiet c a) → (role_of c).emptying ≡ true
        → told_of (role_of c) x ≡ told_of (role_of c) y → ((q : ℕ) → t q ≡ cond (b q) none (w.live q)) → ((q : ℕ) → held (t q) + held (u q) ≤ 1) → n ≤ pages
        → ((v : ℕ) → weight cap (equals v) t + weight cap (equals v) u + times v l ≡ weight cap (equals v) w.live + weight cap (equals v) w.retired)
        → Kept w c (result (positions t u n w.base) x l) (record { after = with_pairs (plain w) (λ (q : ℕ). cond (b q) none (w.live q)); answer = y })
    kept-emptying c b t u n l x y quiet emptying e same apart cursor whole = record {
      fit = record { beyond = λ q k. same q ∙ cond-none (b q) (w.live q) (f.beyond q k); apart = apart; cursor = cursor };
      same = λ d. with_pairs (plain w) (λ (q : ℕ). same q d);
      answer = e;
      whole = λ a h v. omega (arith, whole v, ap (times v) (quiet a).0, ap (times v) (quiet a).1);
      emptied = λ v.
          let z : Table = λ (q : ℕ). cond (b q) none (w.live q) in
          rw emptying (omega (
            arith,
            whole v,
            total-lost cap (equals v) w.live b,
            total-times v (lost cap w.live z),
            weight-same cap (equals v) t z (λ q k. same q),
          ));
    }

    -- ---- the parts, counted

    drain-times : (n p k v : ℕ) (t : Table) → p + n ≤ cap → weight cap (equals v) (drain n p k t).left + times v (drain n p k t).out ≡ weight cap (equals v) t
    drain-times n p k v t h = omega (arith, drain-keeps cap (equals v) n p k t h, total-times v (drain n p k t).out)

    release-times : (b v : ℕ) (t : Table) (c : ℕ) → c ≤ pages
        → weight cap (equals v) (release pages b b t c).retired + times v (release pages b b t c).out ≡ weight cap (equals v) t
    release-times b v t c l =
        let r = release pages b b t c in
        let z = release-keeps pages (equals v) b b t c l in
        omega (arith, rw (← capacity-pages size) at z, total-times v r.out)

    -- all that was live is retired
    all_moved : (v : ℕ) → weight cap (equals v) (moved 0 cap w.live w.retired) ≡ weight cap (equals v) w.live + weight cap (equals v) w.retired
    all_moved v = omega (
      arith,
      moved_keeps cap (equals v) 0 cap w.live w.retired f.apart,
      weight-fresh cap (equals v),
      weight-same cap (equals v) (wipe 0 cap w.live) fresh (λ q k. wipe-in 0 cap w.live q (omega arith) k),
    )

    -- ---- the calls

    kept-insert : (s v : ℕ) (l : Bool) → Kept w (insert s v l) (does size w (insert s v l)) (table_does size (plain w) (insert s v l))
    unfolding does table_does
    kept-insert s v l =
        let p = position size s in
        let a = 64 * (p / 64) in
        let d = drain 64 a 64 w.retired in
        let o = put_at s v (w.live p) in
        let b = put_answer_of s (w.live p) in
        let p-lt : p < cap = position-lt size s in
        let fits : a + 64 ≤ cap = omega (arith, capacity-pages size) in
        kept_at (insert s v l) p o d.left w.base d.out b (λ a. refl) refl p-lt
        (omega (arith, held-le o, ap held (drain-inside 64 a 64 w.retired p (omega arith) (omega arith) (omega arith))))
        (drain-less 64 a 64 w.retired) (λ x. put-balance s v x (w.live p)) (λ x. drain-times 64 a 64 x w.retired fits)

    kept-exchange : (s v : ℕ) → Kept w (exchange s v) (does size w (exchange s v)) (table_does size (plain w) (exchange s v))
    unfolding does table_does
    kept-exchange s v =
        let p = position size s in
        kept_at (exchange s v) p (exchange_at s v (w.live p)) w.retired w.base [] (value_if s (w.live p)) (λ a. refl) refl (position-lt size s)
        (omega (arith, f.apart p, exchange-held s v (w.live p))) (λ q. omega arith) (λ x. exchange-balance s v x (w.live p)) (λ x. omega arith)

    -- a call that takes one sequence out of its position, and hands its value back
    kept-taken : (c : Call) (s n : ℕ) → ((a : Answer) → (role_of c).told a ≡ some a) → (role_of c).emptying ≡ false
        → ((a : Answer) → (role_of c).accepted a ≡ []) → ((a : Answer) → (role_of c).handed_back a ≡ given a)
        → let p = position size s in
        Kept w c (stays (positions (at w.live p (remove_at s (w.live p))) w.retired w.cursor n) (some (value_if s (w.live p))))
        (outcome (with_base (with_pairs (plain w) (at w.live p (remove_at s (w.live p)))) n) (value_if s (w.live p)))
    kept-taken c s n all emptying none-accepted gives =
        let p = position size s in
        let a = value_if s (w.live p) in
        kept_at c p (remove_at s (w.live p)) w.retired n [] a all emptying (position-lt size s)
        (omega (arith, f.apart p, remove-held s (w.live p))) (λ q. omega arith)
        (λ x. omega (arith, remove-balance s x (w.live p), ap (times x) (none-accepted a), ap (times x) (gives a))) (λ x. omega arith)

    kept-clear : (l : Bool) → Kept w (clear l) (does size w (clear l)) (table_does size (plain w) (clear l))
    unfolding does table_does
    kept-clear l =
        let u = moved 0 cap w.live w.retired in
        let r = release pages 256 256 u w.cursor in
        kept-emptying (clear l) (λ (q : ℕ). true) fresh r.retired r.cursor _ (some done) (some done) (λ a. (refl, refl)) refl refl
        (λ q. refl) (λ q. omega (arith, held-le (r.retired q))) (release-cursor pages 256 256 u w.cursor f.cursor)
        (λ v. omega (arith, release-times 256 v u w.cursor f.cursor, all_moved v, weight-fresh cap (equals v)))

    kept-bounded : (n : ℕ) (l : Bool) → Kept w (clear_bounded n l) (does size w (clear_bounded n l)) (table_does size (plain w) (clear_bounded n l))
    unfolding does table_does
    kept-bounded n l =
        let u = moved 0 cap w.live w.retired in
        let d = drain cap 0 n u in
        kept-emptying (clear_bounded n l) (λ (q : ℕ). true) fresh d.left w.cursor d.out (some (found (length d.out))) none (λ a. (refl, refl)) refl
        refl (λ q. refl) (λ q. omega (arith, held-le (d.left q))) f.cursor
        (λ v. omega (arith, drain-times cap 0 n v u (omega arith), all_moved v, weight-fresh cap (equals v)))

    kept-range : size ≤ cap → (a b : ℕ) (l : Bool) → leb (range_count_of a b) size ≡ true → Kept w (remove_range a b l) (does size w (remove_range a b l)) (table_does size (plain w) (remove_range a b l))
    unfolding does table_does
    kept-range small a b l j =
        let n = range_count_of a b in
        let p = position size a in
        let y = sweep_range cap p n w.live w.retired in
        let c = cond (ltb 0 (retired_count cap w)) w.cursor (p / 64) in
        let r = release pages 256 256 y.retired c in
        let x = some (found (held_in_range cap p n w.live)) in
        let p-lt : p < cap = position-lt size a in
        let c-le : c ≤ pages = bool (ltb 0 (retired_count cap w)) (λ d. rw d f.cursor) (λ d. rw d (omega (arith, capacity-pages size))) in
        let n-le : n ≤ cap = omega (arith, leb-true n size j) in
        let n-some : 0 < n = count-some a b in
        kept-emptying (remove_range a b l) (covers cap p n) y.live r.retired r.cursor (y.out ++ r.out) x x (λ a. (refl, refl)) refl
        refl (range-live cap p n w.live w.retired p-lt n-some n-le f.beyond)
        (λ q. omega (arith, range-apart cap p n w.live w.retired p-lt n-some n-le f.apart q, release-less pages 256 256 y.retired c q))
        (release-cursor pages 256 256 y.retired c c-le)
        (λ v. omega (
          arith,
          range-keeps cap p n w.live w.retired p-lt n-some n-le (equals v) f.apart,
          total-times v y.out,
          times-append v y.out r.out,
          release-times 256 v y.retired c c-le,
        ))

    kept-release : (b : ℕ) (l : Bool) → Kept w (release_retired b l) (does size w (release_retired b l)) (table_does size (plain w) (release_retired b l))
    unfolding does table_does
    kept-release b l =
        let r = release pages b b w.retired w.cursor in
        record {
          fit = record {
            beyond = f.beyond;
            apart = λ q. omega (arith, f.apart q, release-less pages b b w.retired w.cursor q);
            cursor = release-cursor pages b b w.retired w.cursor f.cursor;
          };
          same = refl;
          answer = refl;
          whole = λ a h v. omega (arith, release-times b v w.retired w.cursor f.cursor);
          emptied = λ v. omega (arith, release-times b v w.retired w.cursor f.cursor);
        }

    -- the base alone
    kept_set : (s : ℕ) → Kept w (set_base s) (does size w (set_base s)) (table_does size (plain w) (set_base s))
    unfolding does table_does
    kept_set s = record {
      fit = record { beyond = f.beyond; apart = f.apart; cursor = f.cursor };
      same = refl;
      answer = refl;
      whole = λ a h v. omega arith;
      emptied = λ v. omega arith;
    }

    kept-does : size ≤ cap → (c : Call) → argument_refusal (known size) c ≡ 0 → Kept w c (does size w c) (table_does size (plain w) c)
    unfolding does table_does
    kept-does small (insert s v l) z = kept-insert s v l
    kept-does small (exchange s v) z = kept-exchange s v
    kept-does small (remove s) z = kept-taken (remove s) s w.base (λ a. refl) refl (λ a. refl) (λ a. refl)
    kept-does small (remove_range a b l) z = kept-range small a b l (range-taken (known size) a b l z)
    kept-does small (clear l) z = kept-clear l
    kept-does small (clear_bounded n l) z = kept-bounded n l
    kept-does small (release_retired b l) z = kept-release b l
    kept-does small (set_base s) z = kept_set s
    kept-does small take_front z =
        let s = w.base in
        kept-taken take_front s (cond (finds s (w.live (position size s))) (sequence_at_of s 1) s) (λ a. refl) refl (λ a. refl) (λ a. refl)
    kept-does small (ask q) z = kept-still (ask q) (table_answer size (plain w) q) (λ a h. (refl, refl))

    -- every call at fit positions keeps what demand 3 asks
    pub call-keeps : size ≤ cap → (c : Call) → Kept w c (step size w c) (table_step size (plain w) c)
    call-keeps small c = kept-unless c (argument_refusal (known size) c) (does size w c) (table_does size (plain w) c) (kept-does small c)

    -- a call of release_retired takes out half its budget at least, or all
    pub call-halves : (b : ℕ) → b ≤ 256 → retired_count cap (step size w (release_retired b true)).after ≤ retired_count cap w - b / 2
    unfolding does
    call-halves b h =
        let z = release-halves pages b b w.retired w.cursor f.cursor (omega arith) in
        rw (le-leb b 256 h) (rw (← capacity-pages size) at z)
