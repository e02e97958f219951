-- Heads of one window_size with the same live pairs write the same list for each range: a sequence is live exactly if one of the live pairs
-- has it. Assumes nothing.
use mathlib.Core.Path.{◌≡◌, refl, sym, ap, ◌∙◌, subst}
use mathlib.Core.Bool.{Bool, true, false, not, ◌&&◌, true≢false}
use mathlib.Core.Option.{Option, none, some}
use mathlib.Core.List.{List, ◌∷◌}
use Prim.Native.Nat.{ℕ, zero, suc, ◌≤◌, ◌<◌}
use native.Mathlib.Omega.{arith}
use native.Mathlib.Decide.{ℕ_discrete}
use lib.Dec.{eqb}
use borrow.Author.Tests.{eqb-true, eq-eqb}
use Rattle.words.proofs.CaseLaws.{bool, both}
use Rattle.window.specs.Memory.{position}
use Rattle.window.proofs.MemoryLaws.{position-lt}
use Rattle.model.specs.Table.{Pair, pair_of, Table, finds, sequence_at_of, range_count_of, loss_list_of}
use Rattle.model.specs.Losses.{flags_from, loss_words}
use Rattle.model.specs.Point.{is_live}
use Rattle.model.specs.Demand3.{one, copies, SamePairs, also, pairs_below}
use Rattle.model.specs.Window.{Window, size_of, capacity_of, live_at, live_pairs_of}
use Rattle.model.specs.Contract.{window_of}
use Rattle.model.specs.Reports.{SameReports}
use Rattle.page_base.proofs.LiveLaws.{InPlace, live-in-place}
use Rattle.laws_soundness.specs.Change.{Proper}
use Rattle.laws_soundness.proofs.ProperLaws.{proper-decode}
use Rattle.laws_refinement.proofs.ShowLaws.{live-copies}

-- ---- pairs of a table

module _ (s v : ℕ) where
  also-here : (l : List Pair) → 1 ≤ copies s v (also (some (pair_of s v)) l)
  also-here l = rw (eq-eqb s s refl, eq-eqb v v refl) (omega arith)

  also-more : (o : Option Pair) (l : List Pair) → copies s v l ≤ copies s v (also o l)
  also-more none l = omega arith
  also-more (some e) l = omega arith

  -- a pair that stands below n is among them
  listed : (n : ℕ) (t : Table) (q : ℕ) → q < n → t q ≡ some (pair_of s v) → 1 ≤ copies s v (pairs_below n t)
  listed zero t q l e = absurd (omega arith)
  listed (suc n) t q l e = elim (ℕ_discrete q n) [
    | yes i ↦ subst (λ (o : Option Pair). 1 ≤ copies s v (also o (pairs_below n t))) (sym e ∙ ap t i) (also-here (pairs_below n t))
    | no i ↦ omega (arith, listed n t q (omega arith) e, also-more (t n) (pairs_below n t))
  ]

  -- a pair among them stands somewhere
  abbrev Stands : ℕ → Table → Type 0
  Stands n t = (q : ℕ) × (q < n) × (t q ≡ some (pair_of s v))

  stands-more : (n : ℕ) (t : Table) (o : Option Pair) → t n ≡ o → (1 ≤ copies s v (pairs_below n t) → Stands n t)
      → 1 ≤ copies s v (also o (pairs_below n t)) → Stands (suc n) t
  stands-more n t none e rest h = let x = rest h in (x.0, omega (arith, x.1), x.2)
  stands-more n t (some p) e rest h = bool (eqb p.sequence s && eqb p.value v)
      (λ y. let b = both (eqb p.sequence s) (eqb p.value v) y in
      (n, omega arith, e ∙ (λ i. some (pair_of (eqb-true p.sequence s b.0 i) (eqb-true p.value v b.1 i)))))
      (λ y. let x = rest (omega (arith, rw y at h)) in (x.0, omega (arith, x.1), x.2))

  stands : (n : ℕ) (t : Table) → 1 ≤ copies s v (pairs_below n t) → Stands n t
  stands zero t h = absurd (omega arith)
  stands (suc n) t h = stands-more n t (t n) refl (stands n t) h

-- ---- live sequences

-- the value of a pair that is found
found-value : (s : ℕ) (o : Option Pair) → finds s o ≡ true → (v : ℕ) × (o ≡ some (pair_of s v))
found-value s none f = absurd (true≢false (sym f))
found-value s (some p) f = (p.value, λ i. some (pair_of (eqb-true p.sequence s f i) p.value))

module _ (w : Window) (ok : Proper w) (s : ℕ) where
  live-listed : is_live (size_of w) (live_at w) s ≡ true → (v : ℕ) × (1 ≤ copies s v (live_pairs_of w))
  live-listed f =
      let x = found-value s (live_at w (position (size_of w) s)) f in
      (x.0, rw (live-copies w ok s x.0) (listed s x.0 (capacity_of w) (live_at w) (position (size_of w) s) (position-lt (size_of w) s) x.1))

  listed-live : (v : ℕ) → 1 ≤ copies s v (live_pairs_of w) → is_live (size_of w) (live_at w) s ≡ true
  listed-live v h =
      let x = stands s v (capacity_of w) (live_at w) (rw (live-copies w ok s v) at h) in
      let place : position (size_of w) s ≡ x.0 = subst (InPlace (position (size_of w)) x.0) x.2 (live-in-place w ok.sound x.0 x.1) in
      ap (λ (q : ℕ). finds s (live_at w q)) place ∙ ap (finds s) x.2 ∙ eq-eqb s s refl

live_same : (w x : Window) → Proper w → Proper x → SamePairs (live_pairs_of w) (live_pairs_of x) → (s : ℕ) → is_live (size_of w) (live_at w) s ≡ is_live (size_of x) (live_at x) s
unfolding SamePairs
live_same w x ok oj e s = bool (is_live (size_of w) (live_at w) s)
    (λ t. let a = live-listed w ok s t in t ∙ sym (listed-live x oj s a.0 (omega (arith, a.1, e s a.0))))
    (λ t. bool (is_live (size_of x) (live_at x) s)
    (λ u. let a = live-listed x oj s u in absurd (true≢false (sym (listed-live w ok s a.0 (omega (arith, a.1, e s a.0))) ∙ t)))
    (λ u. t ∙ sym u))

-- ---- reports

pub flags-same : (P Q : ℕ → Bool) (n d : ℕ) → ((j : ℕ) → P j ≡ Q j) → flags_from P d n ≡ flags_from Q d n
unfolding flags_from
flags-same P Q zero d h = refl
flags-same P Q (suc n) d h = λ i. h d i ∷ flags-same P Q n (suc d) h i

pub same-reports : SameReports
unfolding SameReports loss_list_of
same-reports u v ok oj size e first last =
    let pu = proper-decode u.header u.memory ok.sound in
    let pv = proper-decode v.header v.memory oj.sound in
    ap (loss_words first) (flags-same _ _ (range_count_of first last) 0 (λ j. ap not (live_same (window_of u) (window_of v) pu pv e (sequence_at_of first j))))
