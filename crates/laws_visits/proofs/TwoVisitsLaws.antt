-- Request S-14 holds: of any kind of visit that does to a queue what `visit` does, and so of calls on sound states and of their windows.
-- Assumes nothing.
use mathlib.Core.Path.{◌≡◌, refl, sym, ap, subst, ◌∙◌}
use mathlib.Core.Bool.{Bool, true, false, cond, true≢false, ◌&&◌}
use mathlib.Core.List.{List, []}
use Prim.Native.Nat.{ℕ, ◌+◌, ◌≤◌}
use native.Mathlib.Omega.{arith}
use lib.Dec.{leb}
use lib.ListN.{take}
use borrow.Author.Tests.{le-leb}
use Rattle.words.proofs.CaseLaws.{bool}
use Rattle.window.specs.Memory.{page_count_of}
use Rattle.model.specs.Calls.{release_retired, Answer}
use Rattle.model.specs.Table.{first}
use Rattle.model.specs.Demand3.{Entry}
use Rattle.model.specs.Window.{Window, pages_of}
use Rattle.model.specs.Positions.{Positions, does, step}
use Rattle.model.specs.Steps.{release}
use Rattle.model.specs.Contract.{State, window_of, lengths_fit, refusal}
use Rattle.page_base.proofs.DecodeLaws.{header_at}
use Rattle.laws_soundness.specs.Change.{Proper}
use Rattle.laws_soundness.proofs.ProperLaws.{proper-decode}
use Rattle.laws_soundness.proofs.RetireLaws.{proper-retiring}
use Rattle.laws_soundness.proofs.LimitLaws.{release-limits}
use Rattle.laws_soundness.proofs.VisitLaws.{pages-same, proper-release}
use Rattle.laws_refinement.specs.Seen.{positions_of, positions_in, SoundState}
use Rattle.laws_refinement.proofs.VisitLaws.{release-as}
use Rattle.laws_refinement.proofs.StateLaws.{call-refines}
use Rattle.laws_visits.specs.Queue.{waiting, visit}
use Rattle.laws_visits.specs.TwoVisits.{TwoVisits, LargerBudget, ReleaseRetired, CallVisit, IsSound, RefusedVisit, WindowVisit, SoundWindow, S-14}
use Rattle.laws_visits.proofs.VisitLaws.{visit-none, two-visits, larger-budget}
use Rattle.laws_visits.proofs.ReleaseLaws.{release-as-visit}

-- ---- any kind of visit that is one to a queue

module _ (S : Type 0) (Ok : S → Type 0) (Visit : S → ℕ → List ℕ → S → Type 0) (queue : S → List (List ℕ)) where
  record ToQueue (u : S) (b : ℕ) (xs : List ℕ) (v : S) : Type 0 where
    ok : Ok v
    out : xs ≡ (visit b (queue u)).out
    rest : queue v ≡ (visit b (queue u)).rest

  abbrev Queues : Type 0
  Queues = (u v : S) (b : ℕ) (xs : List ℕ) → Ok u → b ≤ 256 → Visit u b xs v → ToQueue u b xs v

  queues-two : Queues → TwoVisits S Ok Visit
  unfolding TwoVisits
  queues-two h u v w z a b xs ys zs ok l x y one =
      let p = h u v a xs ok (omega arith) x in
      rw (p.out, (h v w b ys p.ok (omega arith) y).out, p.rest, (h u z (a + b) zs ok l one).out) (two-visits a b (queue u))

  queues-larger : Queues → LargerBudget S Ok Visit
  unfolding LargerBudget
  queues-larger h u v w a b xs ys ok l k x y = rw ((h u v a xs ok (omega arith) x).out, (h u w b ys ok k y).out) (larger-budget a b (queue u) l)

-- ---- windows

abbrev window_queue : Window → List (List ℕ)
window_queue w = waiting (pages_of w) (positions_of w)

window-queues : Queues Window Proper WindowVisit window_queue
window-queues w v b xs ok l x =
    let r = release-as w (proper-retiring w ok) b in
    let s = release-as-visit (pages_of w) b b (positions_of w).retired (positions_of w).cursor (omega (arith, ok.sound.cursor)) (omega arith) in
    let z = (release b w).after in
    subst (ToQueue Window Proper WindowVisit window_queue w b xs) x.1 (record {
      ok = proper-release b w ok;
      out = sym x.0 ∙ r.out ∙ s.out;
      rest =
          ap (λ (n : ℕ). waiting n (positions_of z)) (pages-same w z (release-limits w b)) ∙ ap (waiting (pages_of w)) r.after ∙ s.rest;
    })

-- the window of a sound state is proper
window-proper : (w : Window) → SoundWindow w → Proper w
window-proper w s = subst Proper s.1 (proper-decode s.0.header s.0.memory s.2)

-- ---- calls

-- where the lists are shorter than named every call is refused, as if nothing waited
abbrev state_queue : State → List (List ℕ)
state_queue u = cond (lengths_fit u) (waiting (page_count_of u.header.window_size) (positions_in u)) []

fit-queue : (size : ℕ) (u : State) → SoundState size u → state_queue u ≡ waiting (page_count_of size) (positions_in u)
fit-queue size u s = rw (s.fit, s.of_size)

-- a refused call
module _ (u v : State) (b : ℕ) (listed : Bool) (answer : Answer) (xs : List ℕ) (t : ReleaseRetired u b listed answer xs v) where
  refused_stays : (refusal u (release_retired b listed) ≡ 0 → ⊥) → (xs ≡ []) × (v ≡ u)
  refused_stays h =
      let n = (t.meets.refuses h).1 in
      (sym t.returned ∙ ap (λ (k : ℕ). take k t.left.list) n.count, sym t.state ∙ n.state)

-- a budget of at most 256 is not refused
not-refused : (size b : ℕ) (x : Positions) → b ≤ 256 → step size x (release_retired b true) ≡ does size x (release_retired b true)
not-refused size b x l = rw (le-leb b 256 l)

call-queues : Queues State IsSound CallVisit state_queue
unfolding does
call-queues u v b xs ok l x =
    bool (lengths_fit u)
    (λ fit.
    let size = u.header.window_size in
    let s : SoundState size u = record { of_size = refl; fit = fit; sound = ok } in
    let e : Entry = record { call = release_retired b true; answer = x.0; returned = xs } in
    let r = call-refines size u v e s x.1 in
    let p = positions_in u in
    let pages : pages_of (window_of u) ≡ page_count_of size = ap (λ h. page_count_of h.window_size) (header_at u.header u.memory) in
    let q = release-as-visit (page_count_of size) b b p.retired p.cursor (omega (arith, ok.sound.cursor, pages)) (omega arith) in
    let here = fit-queue size u s in
    record {
      ok = r.ok.sound;
      out = r.returned ∙ ap (λ e. e.returned) (not-refused size b p l) ∙ q.out ∙ ap (λ (n : List (List ℕ)). (visit b n).out) (sym here);
      rest =
          fit-queue size v r.ok ∙ ap (waiting (page_count_of size)) (r.after ∙ ap (λ e. e.after) (not-refused size b p l)) ∙ q.rest
          ∙ ap (λ (n : List (List ℕ)). (visit b n).rest) (sym here);
    })
    (λ short.
    let n = refused_stays u v b true x.0 xs x.1 (λ z. six (lengths_fit u) _ short z) in
    let none : state_queue u ≡ [] = rw short in
    record {
      ok = subst IsSound (sym n.1) ok;
      out = n.0 ∙ sym (ap (λ (k : List (List ℕ)). (visit b k).out) none ∙ ap (λ e. e.out) (visit-none b));
      rest = ap state_queue n.1 ∙ none ∙ sym (ap (λ (k : List (List ℕ)). (visit b k).rest) none ∙ ap (λ e. e.rest) (visit-none b));
    })
  where
    six : (fit : Bool) (k : ℕ) → fit ≡ false → first 6 fit k ≡ 0 → ⊥
    six true k e z = true≢false e
    six false k e z = omega arith

-- ---- refused calls

-- with a short return list or too large a budget some refusal is due
refused-first : (fit listed taken : Bool) → listed && taken ≡ false → first 6 fit (first 6 listed (first 8 taken 0)) ≡ 0 → ⊥
refused-first true true true e z = true≢false e
refused-first true true false e z = omega arith
refused-first true false taken e z = omega arith
refused-first false listed taken e z = omega arith

refused-visit : RefusedVisit
unfolding RefusedVisit
refused-visit u v b listed answer xs e t =
    let h = refused-first (lengths_fit u) listed (leb b 256) e in
    let n = refused_stays u v b listed answer xs t h in
    (sym t.answer ∙ (t.meets.refuses h).0, n.0, n.1)

-- ---- request S-14

pub s-14 : S-14
unfolding TwoVisits LargerBudget
s-14 =
    let two = queues-two Window Proper WindowVisit window_queue window-queues in
    let larger = queues-larger Window Proper WindowVisit window_queue window-queues in
    record {
      calls = (queues-two State IsSound CallVisit state_queue call-queues, queues-larger State IsSound CallVisit state_queue call-queues);
      refused_calls = refused-visit;
      windows = (
        λ u v w z a b xs ys zs ok. two u v w z a b xs ys zs (window-proper u ok),
        λ u v w a b xs ys ok. larger u v w a b xs ys (window-proper u ok),
      );
    }
