-- insert, over plain variables: the page is made live, and then the insert is one into a live page; k is what `reachable` says of
-- the page. Assumes nothing.
use mathlib.Core.Path.{◌≡◌, sym, ap, ◌∙◌, subst}
use mathlib.Core.Bool.{Bool, true, false}
use mathlib.Core.List.{List}
use Prim.Native.Nat.{ℕ, ◌/◌, ◌≤◌}
use native.Mathlib.Omega.{arith}
use lib.ListN.{length}
use Rattle.words.proofs.CaseLaws.{bool}
use Rattle.window.specs.declared.AdaptiveReceiverPacketWindow.{AdaptiveReceiverPacketWindow}
use Rattle.window.specs.declared.answers.Step.{Step}
use Rattle.window.specs.Memory.{Memory, memory, position}
use Rattle.model.specs.Calls.{insert}
use Rattle.page_release.specs.declared.PageReleased.{PageReleased}
use Rattle.call_base.specs.Answers.{state_of, left_of}
use Rattle.call_base.specs.Promises.{Reachable, Admitted}
use Rattle.call_point.specs.Promises.{InsertsLive, MakesLive, Enters}
use Rattle.call_point.proofs.WrittenLaws.{FitsIn}
use Rattle.call_point.proofs.ReachLaws.{inside}
use Rattle.call_point.proofs.ReviveLaws.{InsertsRetired, unsound-gives, retired-gives}
use Rattle.call_point.proofs.InsertLaws.{retired-admitted, live-admitted}

-- at most a page of values is handed back
pub few-made : (h : AdaptiveReceiverPacketWindow) (n : ℕ) (m : Memory) (l : List ℕ) (g : ℕ) (k : Bool) (x : PageReleased) (m₁ : Memory) (l₁ : List ℕ)
    → MakesLive h n m l g k x m₁ l₁ → x.count ≤ 64
few-made h n m l g k x m₁ l₁ t =
    bool k (λ n. omega (arith, ap (λ (y : PageReleased). y.count) (t.live n).0)) (λ z. (t.revived z).few)

-- x is what making the page live gave, pages₁, blocks₁ and l₁ the words and the return list afterwards
module _ (h : AdaptiveReceiverPacketWindow) (m : Memory) (fit : FitsIn h m) (s p : ℕ) (k : Bool)
    (e : p ≡ position h.window_size s) (reach : Reachable h m.blocks (p / 64) k) (v : ℕ) (listed : Bool) (l : List ℕ) (long : 384 ≤ length l)
    (x : PageReleased) (pages₁ blocks₁ l₁ : List ℕ) (t : MakesLive h h.n m l (p / 64) k x (memory m.sequences m.values pages₁ blocks₁) l₁)
    (r : Step) (m' : Memory) (i : Enters x (memory m.sequences m.values pages₁ blocks₁) (p / 64) h.n k s v r m') where
  abbrev g : ℕ
  g = p / 64

  abbrev m₁ : Memory
  m₁ = memory m.sequences m.values pages₁ blocks₁

  -- the page was retired
  revives : k ≡ false → InsertsRetired h m (p / 64) h.n s v l r m' l₁
  revives z =
      let at = inside h m fit s p k e reach in
      bool x.sound
      (λ ok. let u = i.sound ok in
      retired-gives h m g h.n s v l x pages₁ blocks₁ l₁ (t.revived z) at.in-sequences at.in-values r m' i.count u.given u.inserts (u.answers.revived z) at.cells.1)
      (λ no. let u = i.unsound no in
      unsound-gives h m g h.n s v l x pages₁ blocks₁ l₁ (t.revived z) at.in-sequences at.in-values no r m' i.count u.0 u.1)

  -- the page was live: nothing was done before the insert
  enters-live : k ≡ true → Admitted (insert s v listed) (state_of h m) l (left_of r m' l₁)
  enters-live n =
      let u = t.live n in
      let a = i.sound (ap (λ (y : PageReleased). y.sound) u.0) in
      let at : InsertsLive h m g h.n s v (record { window = r.window; answer = a.given }) m' =
      subst (λ (y : Memory). InsertsLive h y g h.n s v (record { window = r.window; answer = a.given }) m') u.1
      (subst (λ (y : PageReleased). InsertsLive y.window m₁ g h.n s v (record { window = r.window; answer = a.given }) m') u.0 a.inserts) in
      let count : r.answer.count ≡ 0 = i.count ∙ ap (λ (y : PageReleased). y.count) u.0 in
      subst (λ (y : List ℕ). Admitted (insert s v listed) (state_of h m) l (left_of r m' y)) (sym u.2)
      (subst (λ (y : Step). Admitted (insert s v listed) (state_of h m) l (left_of y m' l))
      (λ j. record { window = r.window; answer = record { answer = sym (a.answers.live n) j; count = sym count j } })
      (live-admitted h m fit s p k e reach v listed l long (record { window = r.window; answer = a.given }) m' n at))

  pub entered-admitted : Admitted (insert s v listed) (state_of h m) l (left_of r m' l₁)
  entered-admitted =
      bool k enters-live (λ z. retired-admitted h m fit s p k e reach v listed l long r m' l₁ z (revives z))
