-- Demand 3 holds of every head that refines the positions: what `Refinement` asks for one call is enough for all histories.
-- Assumes nothing.
use mathlib.Core.Path.{◌≡◌, sym, ap, ◌∙◌, subst}
use mathlib.Core.Bool.{true}
use mathlib.Core.List.{List}
use Prim.Native.Nat.{ℕ, ◌-◌, ◌/◌, ◌≤◌}
use native.Mathlib.Omega.{arith}
use lib.ListN.{length}
use Rattle.window.specs.Memory.{capacity}
use Rattle.window.proofs.MemoryLaws.{size-le}
use Rattle.model.specs.Calls.{Call, release_retired}
use Rattle.model.specs.Table.{TableState}
use Rattle.model.specs.Point.{point_of}
use Rattle.model.specs.Demand3.{times, copies, SamePairs, values, pairs_below, Entry, calls_of, common, Head, History, Demand3}
use Rattle.model.specs.Positions.{Positions, plain, retired_count, step}
use Rattle.model.specs.Refinement.{Refinement, Fresh}
use Rattle.model.proofs.SumLaws.{weight, equals, times-pairs, weight-fresh}
use Rattle.model.proofs.KeepLaws.{Fit, fresh-fit, call-keeps, call-halves}
use Rattle.model.proofs.HistoryLaws.{Kept, Seen, Start, histories-demand3}

module _ (size : ℕ) (size_small : size ≤ 65536) (H : Head) (Ok : H.State → Type 0) (positions_of : H.State → Positions)
    (owed : Refinement size H Ok positions_of) where
  abbrev W : Type 0
  W = H.State

  abbrev cap : ℕ
  cap = capacity size

  -- the state w stands for the table t
  record Good (w : W) (t : TableState) : Type 0 where
    ok : Ok w
    fit : Fit size (positions_of w)
    same : plain (positions_of w) ≡ t

  live-weight : (w : W) → Ok w → (v : ℕ) → times v (values (H.pairs w)) ≡ weight cap (equals v) (positions_of w).live
  live-weight w s v = (owed.shows w s).live_values v ∙ times-pairs cap v (positions_of w).live

  retired-weight : (w : W) → Ok w → (v : ℕ) → times v (H.retired w) ≡ weight cap (equals v) (positions_of w).retired
  retired-weight w s v = (owed.shows w s).same_retired_values v ∙ times-pairs cap v (positions_of w).retired

  keeps-live : (u w : W) (e : Entry) → Ok u → Fit size (positions_of u) → H.Met u e w
      → Kept H size Good (plain (positions_of u)) u e w
  keeps-live u w e s f m =
      let r = owed.refines u w e s m in
      let x = step size (positions_of u) e.call in
      let k = call-keeps size (positions_of u) f (size-le size size_small) e.call in
      let live : (v : ℕ) → times v (values (H.pairs w)) ≡ weight cap (equals v) x.after.live
      = λ v. live-weight w r.ok v ∙ ap (λ (p : Positions). weight cap (equals v) p.live) r.after in
      let gone : (v : ℕ) → times v (H.retired w) ≡ weight cap (equals v) x.after.retired
      = λ v. retired-weight w r.ok v ∙ ap (λ (p : Positions). weight cap (equals v) p.retired) r.after in
      record {
        good = record { ok = r.ok; fit = subst (Fit size) (sym r.after) k.fit; same = ap plain r.after ∙ k.same };
        answer = sym r.answer ∙ k.answer;
        whole = λ v. omega (arith, k.whole e.answer r.answer v, live v, gone v, live-weight u s v, retired-weight u s v, ap (times v) r.returned);
        emptied = λ v. omega (arith, k.emptied v, gone v, retired-weight u s v, ap (times v) r.returned);
      }

  keeps : (t : TableState) (u w : W) (e : Entry) → Good u t → H.Met u e w → Kept H size Good t u e w
  keeps t u w e g m =
      subst (λ (t : TableState). Kept H size Good t u e w) g.same (keeps-live u w e g.ok g.fit m)

  seen : (t : TableState) (w : W) → Good w t → Seen H size w t
  unfolding SamePairs
  seen t w g =
      let x = owed.shows w g.ok in
      record {
        sound = x.sound;
        live = λ s v. x.live s v ∙ ap (λ (t : TableState). copies s v (pairs_below cap t.pairs)) g.same;
        once = x.once;
        count = x.count;
        held = x.held;
        base = x.base ∙ ap (λ (t : TableState). t.base) g.same;
        point = x.point ∙ ap (λ (t : TableState). point_of size t.pairs t.base) g.same;
      }

  halves : (t : TableState) (u w : W) (e : Entry) (b : ℕ) → Good u t → H.Met u e w → e.call ≡ release_retired b true → b ≤ 256
      → length (H.retired w) ≤ length (H.retired u) - b / 2
  halves t u w e b g m c l =
      let r = owed.refines u w e g.ok m in
      let after : positions_of w ≡ (step size (positions_of u) (release_retired b true)).after
      = r.after ∙ ap (λ (c : Call). (step size (positions_of u) c).after) c in
      omega (
        arith,
        call-halves size (positions_of u) g.fit b l,
        ap (retired_count cap) after,
        (owed.shows u g.ok).same_retired_count,
        (owed.shows w r.ok).same_retired_count,
      )

  start : (w : W) → Fresh size H Ok positions_of w → Start H size Good w
  start w f = record {
    good = record { ok = f.ok; fit = subst (Fit size) (sym f.nothing) (fresh-fit size); same = ap plain f.nothing };
    no-live = λ v. live-weight w f.ok v ∙ ap (λ (p : Positions). weight cap (equals v) p.live) f.nothing ∙ weight-fresh cap (equals v);
    no-retired = λ v. retired-weight w f.ok v ∙ ap (λ (p : Positions). weight cap (equals v) p.retired) f.nothing ∙ weight-fresh cap (equals v);
  }

  -- the theorem: two histories of one common list, from states that show nothing, meet demand 3
  pub carries : {a b v w : W} {xs ys : List Entry} → Fresh size H Ok positions_of a
      → Fresh size H Ok positions_of b → (g : History H a xs v) (h : History H b ys w)
      → common (calls_of xs) ≡ common (calls_of ys) → Demand3 H size g h
  carries {a} {b} i j g h e = histories-demand3 H size Good keeps seen halves (start a i) (start b j) g h e
