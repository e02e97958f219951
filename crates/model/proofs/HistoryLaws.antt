-- From one call to whole histories: if each call of a head keeps what demand 3 asks, so does a history, and two histories of one
-- common list agree after each call. Assumes nothing.
use mathlib.Core.Path.{◌≡◌, refl, sym, ap, ◌∙◌}
use mathlib.Core.Bool.{true, cond}
use mathlib.Core.List.{List, [], ◌∷◌}
use Prim.Native.Nat.{ℕ, zero, suc, ◌+◌, ◌-◌, ◌/◌, ◌≤◌}
use native.Mathlib.Omega.{arith}
use lib.ListN.{length, take}
use Rattle.words.proofs.CaseLaws.{bool}
use Rattle.window.specs.Memory.{capacity}
use Rattle.model.specs.Calls.{Call, insert, exchange, remove, remove_range, clear, clear_bounded, release_retired, set_base, take_front, ask}
use Rattle.model.specs.Table.{TableState, fresh_table, known, argument_refusal, Outcome, unless_refused, table_step, table_does}
use Rattle.model.specs.Point.{point_of}
use Rattle.model.specs.Roles.{role_of, told_of}
use Rattle.model.specs.Demand3.{times, copies, SamePairs, values, pairs_below, lost, table_after, table_answers, table_emptied, Entry, calls_of, common, answers_of, shared_of, accepted_of, handed_back_of, returned_of, Visits, no_visit, visit, Head, History, begun, goes_on, state_after, After, Agree, Demand3}
use Rattle.model.proofs.SumLaws.{times-append, no_length}

-- ---- the plain table does not see release_retired

unless-still : (k : ℕ) (t : TableState) (o : Outcome) → o.after ≡ t → (unless_refused k t o).after ≡ t
unless-still zero t o e = e
unless-still (suc k) t o e = refl

-- a call of release_retired leaves the table
release-still : (size : ℕ) (t : TableState) (c : Call) → (role_of c).release ≡ true → (table_step size t c).after ≡ t
unfolding table_does
release-still size t (insert s v l) e = cc
release-still size t (exchange s v) e = cc
release-still size t (remove s) e = cc
release-still size t (remove_range a b l) e = cc
release-still size t (clear l) e = cc
release-still size t (clear_bounded n l) e = cc
release-still size t (release_retired b l) e = unless-still (argument_refusal (known size) (release_retired b l)) t (table_does size t (release_retired b l)) refl
release-still size t (set_base s) e = cc
release-still size t take_front e = cc
release-still size t (ask q) e = cc

pub common-table : (size : ℕ) (t : TableState) (cs : List Call) → table_after size t (common cs) ≡ table_after size t cs
common-table size t [] = refl
common-table size t (c ∷ cs) =
    bool (role_of c).release
    (λ e. rw e (common-table size t cs ∙ ap (λ (u : TableState). table_after size u cs) (sym (release-still size t c e))))
    (λ e. rw e (common-table size (table_step size t c).after cs))

-- ---- the first calls of a list

-- what is common of the first k calls are the first of the common calls
common-take : (k : ℕ) (cs : List Call) → (m : ℕ) × (common (take k cs) ≡ take m (common cs))
common-take zero cs = (0, refl)
common-take (suc k) [] = (0, refl)
common-take (suc k) (c ∷ cs) =
    let r = common-take k cs in
    bool (role_of c).release
    (λ e. (r.0, rw e r.1))
    (λ e. (suc r.0, rw e (ap (λ (l : List Call). c ∷ l) r.1)))

-- and the first m of the common calls are what is common of the first j calls, for some j
take-common : (m : ℕ) (cs : List Call) → (j : ℕ) × (common (take j cs) ≡ take m (common cs))
take-common zero cs = (0, refl)
take-common (suc m) [] = (0, refl)
take-common (suc m) (c ∷ cs) =
    bool (role_of c).release
    (λ e. let r = take-common (suc m) cs in (suc r.0, rw e r.1))
    (λ e. let r = take-common m cs in (suc r.0, rw e (ap (λ (l : List Call). c ∷ l) r.1)))

calls-take : (k : ℕ) (es : List Entry) → calls_of (take k es) ≡ take k (calls_of es)
calls-take zero es = refl
calls-take (suc k) [] = refl
calls-take (suc k) (e ∷ es) = ap (λ (l : List Call). e.call ∷ l) (calls-take k es)

-- for the first k entries of the one list there are first entries of the other with the same common calls
pub common-first : (xs ys : List Entry) → common (calls_of xs) ≡ common (calls_of ys) → (k : ℕ) → (j : ℕ) × (common (calls_of (take k xs)) ≡ common (calls_of (take j ys)))
common-first xs ys e k =
    let r = common-take k (calls_of xs) in
    let s = take-common r.0 (calls_of ys) in
    (s.0, ap common (calls-take k xs) ∙ r.1 ∙ ap (take r.0) e ∙ sym (ap common (calls-take s.0 ys) ∙ s.1))

module _ (H : Head) where
  abbrev W : Type 0
  W = H.State

  pub first-history : {u w : W} {es : List Entry} (k : ℕ) (h : History H u es w) → History H u (take k es) (state_after H k h)
  first-history zero begun = begun
  first-history (suc k) begun = begun
  first-history zero (goes_on m h) = begun
  first-history {u = u} {w = w} (suc k) (goes_on {v = v} {e = e} {es = es} m h) = goes_on m (first-history {u = v} k h)

  module _ (size : ℕ) where
    -- what is asked of one call: in state u, with Good u t, it gave the entry e and left state w
    pub record Kept (Good : W → TableState → Type 0) (t : TableState) (u : W) (e : Entry) (w : W) : Type 0 where
      pub good : Good w (table_step size t e.call).after
      pub answer : (role_of e.call).told e.answer ≡ told_of (role_of e.call) (table_step size t e.call).answer
      pub whole : (v : ℕ)
          → times v ((role_of e.call).accepted e.answer) + times v (values (H.pairs u)) + times v (H.retired u)
          ≡ times v (values (H.pairs w)) + times v (H.retired w) + times v ((role_of e.call).handed_back e.answer) + times v e.returned
      pub emptied : (v : ℕ)
          → times v (H.retired w) + times v e.returned
          ≡ times v (H.retired u) + times v (cond (role_of e.call).emptying (lost (capacity size) t.pairs (table_step size t e.call).after.pairs) [])

    -- what is asked of a state that stands for the table t
    pub record Seen (w : W) (t : TableState) : Type 0 where
      pub sound : H.Sound w
      pub live : SamePairs (H.pairs w) (pairs_below (capacity size) t.pairs)
      pub once : (s v : ℕ) → copies s v (H.pairs w) ≤ 1
      pub count : H.len w ≡ length (H.pairs w)
      pub held : H.retired_values_held w ≡ length (H.retired w)
      pub base : H.base w ≡ t.base
      pub point : H.point w ≡ point_of size t.pairs t.base

    -- what is asked of a state with which a history may begin
    pub record Start (Good : W → TableState → Type 0) (w : W) : Type 0 where
      pub good : Good w fresh_table
      pub no-live : (v : ℕ) → times v (values (H.pairs w)) ≡ 0
      pub no-retired : (v : ℕ) → times v (H.retired w) ≡ 0

    module _ (Good : W → TableState → Type 0)
        (keeps : (t : TableState) (u w : W) (e : Entry) → Good u t → H.Met u e w → Kept Good t u e w)
        (seen : (t : TableState) (w : W) → Good w t → Seen w t)
        (halves : (t : TableState) (u w : W) (e : Entry) (b : ℕ) → Good u t → H.Met u e w → e.call ≡ release_retired b true → b ≤ 256
        → length (H.retired w) ≤ length (H.retired u) - b / 2) where
      -- the same of a history: from state u, which stands for t, over the entries es, to state w
      record KeptAll (t : TableState) (u : W) (es : List Entry) (w : W) : Type 0 where
        good : Good w (table_after size t (calls_of es))
        answers : answers_of es ≡ table_answers size t (calls_of es)
        shared : shared_of es ≡ table_answers size t (common (calls_of es))
        whole : (v : ℕ)
            → times v (accepted_of es) + times v (values (H.pairs u)) + times v (H.retired u)
            ≡ times v (values (H.pairs w)) + times v (H.retired w) + times v (handed_back_of es) + times v (returned_of es)
        emptied : (v : ℕ) → times v (H.retired w) + times v (returned_of es) ≡ times v (H.retired u) + times v (table_emptied size t (calls_of es))

      -- by induction over the history
      history-keeps : {u w : W} {es : List Entry} (t : TableState) → Good u t → History H u es w → KeptAll t u es w
      history-keeps t g begun = record { good = g; answers = refl; shared = refl; whole = λ v. omega arith; emptied = λ v. omega arith }
      history-keeps {u} {w} t g (goes_on {v = x} {e = e} {es = es} m h) =
          let k = keeps t u x e g m in
          let s = (table_step size t e.call).after in
          let i = history-keeps s k.good h in
          record {
            good = i.good;
            answers = λ d. k.answer d ∷ i.answers d;
            shared = bool (role_of e.call).release
                (λ r. rw r (i.shared ∙ ap (λ (x : TableState). table_answers size x (common (calls_of es))) (release-still size t e.call r)))
                (λ r. rw r (λ d. k.answer d ∷ i.shared d));
            whole = λ v. simp times-append (omega (arith, k.whole v, i.whole v));
            emptied = λ v. simp times-append (omega (arith, k.emptied v, i.emptied v));
          }

      -- calls of release_retired whose halves add up to the retired count leave none
      visits-drain : {u w : W} {es : List Entry} {n : ℕ} (t : TableState) → Good u t → Visits es n → History H u es w → length (H.retired u) ≤ n → length (H.retired w) ≡ 0
      visits-drain t g no_visit begun h = omega arith
      visits-drain {u} {w} t g (visit {e = e} b c l vs) (goes_on {v = x} m k) h =
          visits-drain {u = x} (table_step size t e.call).after (keeps t u x e g m).good vs k (omega (arith, halves t u x e b g m c l))

      history-after : {u w : W} {es : List Entry} → Start Good u → History H u es w → After H size w es
      history-after {u} {w} {es} b h =
          let k = history-keeps fresh_table b.good h in
          let s = seen (table_after size fresh_table (calls_of es)) w k.good in
          record {
            sound = s.sound;
            live = s.live;
            once = s.once;
            count = s.count;
            answers = k.answers;
            whole = λ v. omega (arith, k.whole v, b.no-live v, b.no-retired v);
            held = s.held;
            base = s.base;
            point = s.point;
            emptied = λ v. omega (arith, k.emptied v, b.no-retired v);
            drained = λ visits n z vs i l. no_length (H.retired z) (visits-drain (table_after size fresh_table (calls_of es)) k.good vs i l);
          }

      -- the two heads are compared only through the plain table over the common list
      histories-agree : {a b v w : W} {xs ys : List Entry} → Start Good a → Start Good b → History H a xs v → History H b ys w
          → common (calls_of xs) ≡ common (calls_of ys) → Agree H size v w xs ys
      unfolding SamePairs
      histories-agree {xs = xs} {ys = ys} i j g h e =
          let x = history-after i g in
          let y = history-after j h in
          let table : table_after size fresh_table (calls_of xs) ≡ table_after size fresh_table (calls_of ys)
          = sym (common-table size fresh_table (calls_of xs)) ∙ ap (table_after size fresh_table) e ∙ common-table size fresh_table (calls_of ys) in
          record {
            first = x;
            second = y;
            same_answers =
                (history-keeps fresh_table i.good g).shared ∙ ap (table_answers size fresh_table) e ∙ sym (history-keeps fresh_table j.good h).shared;
            same_pairs = λ s n. x.live s n ∙ ap (λ (t : TableState). copies s n (pairs_below (capacity size) t.pairs)) table ∙ sym (y.live s n);
            same_base = x.base ∙ ap (λ (t : TableState). t.base) table ∙ sym y.base;
            same_point = x.point ∙ ap (λ (t : TableState). point_of size t.pairs t.base) table ∙ sym y.point;
          }

      -- at the ends by `histories-agree`, after each call by the same of the first calls
      pub histories-demand3 : {a b v w : W} {xs ys : List Entry} → Start Good a → Start Good b → (g : History H a xs v) (h : History H b ys w)
          → common (calls_of xs) ≡ common (calls_of ys) → Demand3 H size g h
      histories-demand3 {xs = xs} {ys = ys} i j g h e = record {
        ends = histories-agree i j g h e;
        each_first = common-first xs ys e;
        each_second = λ k. let r = common-first ys xs (sym e) k in (r.0, sym r.1);
        each = λ k l q. histories-agree i j (first-history k g) (first-history l h) q;
      }
