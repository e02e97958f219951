-- The window's point after each call, from the point before it: the increments, of windows. Assumes nothing.
use mathlib.Core.Path.{◌≡◌, refl, sym, ap, ◌∙◌}
use mathlib.Core.Bool.{Bool, true, not}
use mathlib.Core.Option.{Option, none, some, some-injective}
use Prim.Native.Nat.{ℕ, ◌/◌, ◌^◌, ◌≤◌, ◌<◌}
use native.Mathlib.Omega.{arith}
use Rattle.words.proofs.CaseLaws.{bool}
use Rattle.window.specs.Memory.{capacity, position}
use Rattle.window.proofs.MemoryLaws.{capacity-pages, position-lt}
use Rattle.model.specs.Calls.{Call, insert, exchange, remove, remove_range, clear, clear_bounded, release_retired}
use Rattle.model.specs.Table.{Pair, Table, holds, put_answer_of, finds, sequence_at_of, range_count_of, empty_range, argument_refusal}
use Rattle.model.specs.Point.{point_of}
use Rattle.model.specs.Window.{Window, size_of, capacity_of, live_at, retired_at, point_for}
use Rattle.model.specs.Positions.{Positions, sweep_range, does}
use Rattle.model.specs.Steps.{set_base_of, with_header, is_new, live_here, known_by, window_does}
use Rattle.model.specs.Sound.{SoundWithPoint}
use Rattle.model.proofs.KeepLaws.{count-some}
use Rattle.model.proofs.RefusalLaws.{range-taken}
use Rattle.model.proofs.SweepLaws.{range-live}
use Rattle.laws_soundness.specs.Change.{Proper, Limits, Sizes, SameLimits}
use Rattle.laws_soundness.proofs.RetireReleaseLaws.{count-few}
use Rattle.laws_soundness.proofs.CallLaws.{leaves_base, does-leaves, does-keeps}
use Rattle.laws_refinement.specs.Seen.{positions_of}
use Rattle.laws_refinement.proofs.CallLaws.{does-follows}
use Rattle.laws_refinement.proofs.MarkLaws.{empty-live, proper-order}
use Rattle.laws_acknowledge.specs.Increments.{inserted, after_insert_of, after_remove_of, after_range_of, after_set_base}
use Rattle.laws_acknowledge.proofs.AdvanceLaws.{point-fresh, point-alike}
use Rattle.laws_acknowledge.proofs.IncrementLaws.{point-insert, point-exchange, point-remove}
use Rattle.laws_acknowledge.proofs.RangeLaws.{point-range}
use Rattle.laws_acknowledge.proofs.BaseLaws.{point-base, point-front}

-- f works out v's point, from window_size, what is live, base and point as v has them
abbrev pub Works : (ℕ → Table → (base point : ℕ) → ℕ) → Window → Type 0
Works f v = point_for v ≡ f (size_of v) (live_at v) v.header.base v.header.point

-- what stands at the positions tells the point
module _ (w : Window) (ok : Proper w) (c : Call) (z : argument_refusal (known_by w.header) c ≡ 0) where
  abbrev v : Window
  v = (window_does w c).after

  abbrev x : Positions
  x = (does (size_of w) (positions_of w) c).after

  seen : positions_of v ≡ x
  seen = (does-follows w ok c z).after

  same_size : size_of v ≡ size_of w
  same_size = ap (λ (l : Sizes). l.size) (does-keeps w ok c z).sizes

  pub does-point : point_for v ≡ point_of (size_of w) x.live x.base
  does-point = λ i. point_of (same_size i) (seen i).live (seen i).base

  -- a call of document 01, from a point that is right: what f works out from the table after it
  module _ (own : leaves_base c ≡ true) (current : w.header.point ≡ point_for w) where
    same : SameLimits w v
    same = (does-leaves w ok c own z).limits

    pub works : (f : ℕ → Table → (base point : ℕ) → ℕ)
        → point_of (size_of w) x.live w.header.base ≡ f (size_of w) x.live w.header.base (point_of (size_of w) (live_at w) w.header.base) → Works f v
    works f e =
        let base : x.base ≡ w.header.base = ap (λ (p : Positions). p.base) (sym seen) ∙ ap (λ (l : Limits). l.base) same in
        let point : v.header.point ≡ point_for w = ap (λ (l : Limits). l.point) same ∙ current in
        does-point ∙ ap (point_of (size_of w) x.live) base ∙ e
        ∙ sym (λ i. f (same_size i) (seen i).live (ap (λ (l : Limits). l.base) same i) (point i))

module _ (w : Window) (ok : Proper w) (current : SoundWithPoint w) where
  abbrev size : ℕ
  size = size_of w

  abbrev base : ℕ
  base = w.header.base

  small : size ≤ 65536
  small = ok.sound.within.size_high

  -- a call that leaves what is live
  pub release-works : (b : ℕ) (listed : Bool) → argument_refusal (known_by w.header) (release_retired b listed) ≡ 0
      → Works (λ n t base point. point) (window_does w (release_retired b listed)).after
  unfolding does
  release-works b listed z = works w ok (release_retired b listed) z refl current.point (λ n t base point. point) refl

  pub exchange-works : (s v : ℕ) → argument_refusal (known_by w.header) (exchange s v) ≡ 0 → Works (λ n t base point. point) (window_does w (exchange s v)).after
  unfolding does
  exchange-works s v z = works w ok (exchange s v) z refl current.point (λ n t base point. point) (point-exchange size (live_at w) base s v)

  new-free : (s : ℕ) (o : Option Pair) → is_new (put_answer_of s o) ≡ not (holds o)
  new-free s none = refl
  new-free s (some e) = bool (finds s (some e)) (λ i. rw i) (λ i. rw i)

  pub insert-works : (s v : ℕ) (listed : Bool) (z : argument_refusal (known_by w.header) (insert s v listed) ≡ 0)
      → let e = window_does w (insert s v listed) in Works (λ n t base point. after_insert_of n t base point s (is_new e.answer)) e.after
  unfolding does
  insert-works s v listed z =
      let e = window_does w (insert s v listed) in
      let o = live_at w (position size s) in
      let answer : put_answer_of s o ≡ e.answer = some-injective (put_answer_of s o) e.answer (does-follows w ok (insert s v listed) z).answer in
      let free : not (holds o) ≡ is_new e.answer = sym (new-free s o) ∙ ap is_new answer in
      works w ok (insert s v listed) z refl current.point (λ n t base point. after_insert_of n t base point s (is_new e.answer))
      (point-insert size (live_at w) base s v small current.base
      ∙ ap (after_insert_of size (inserted size (live_at w) s v) base (point_of size (live_at w) base) s) free)

  pub remove-works : (s : ℕ) (z : argument_refusal (known_by w.header) (remove s) ≡ 0)
      → Works (λ n t base point. after_remove_of base point s (finds s (live_here w s))) (window_does w (remove s)).after
  unfolding does
  remove-works s z = works w ok (remove s) z refl current.point (λ n t base point. after_remove_of base point s (finds s (live_here w s)))
      (point-remove size (live_at w) base s small current.base)

  pub range-works : (a b : ℕ) (listed : Bool) (z : argument_refusal (known_by w.header) (remove_range a b listed) ≡ 0)
      → Works (λ n t base point. after_range_of (capacity n) (position n a) (range_count_of a b) base point) (window_does w (remove_range a b listed)).after
  unfolding does
  range-works a b listed z =
      let start = position size a in
      let count = range_count_of a b in
      let l = position-lt size a in
      let few = count-few w ok a b (range-taken (known_by w.header) a b listed z) in
      let empty : (q : ℕ) → capacity_of w ≤ q → live_at w q ≡ none =
      λ q k. let g = proper-order w ok in empty-live w.header.n w q (g.places (q / 64)) (g.past (q / 64) (omega (arith, capacity-pages size))) in
      works w ok (remove_range a b listed) z refl current.point (λ n t base point. after_range_of (capacity n) (position n a) (range_count_of a b) base point)
      (point-alike size (empty_range (capacity_of w) start count (live_at w)) (sweep_range (capacity_of w) start count (live_at w) (retired_at w)).live base
      (λ q k. range-live (capacity_of w) start count (live_at w) (retired_at w) l (count-some a b) few empty q)
      ∙ point-range size (live_at w) base start count small current.base l (count-some a b))

  pub clear-works : (listed : Bool) (z : argument_refusal (known_by w.header) (clear listed) ≡ 0)
      → Works (λ n t base point. base) (window_does w (clear listed)).after
  unfolding does
  clear-works listed z = works w ok (clear listed) z refl current.point (λ n t base point. base) (point-fresh size base current.base)

  pub bounded-works : (n : ℕ) (listed : Bool) (z : argument_refusal (known_by w.header) (clear_bounded n listed) ≡ 0)
      → Works (λ n t base point. base) (window_does w (clear_bounded n listed)).after
  unfolding does
  bounded-works n listed z = works w ok (clear_bounded n listed) z refl current.point (λ n t base point. base) (point-fresh size base current.base)

  -- ---- the base moved

  pub base-works : (s : ℕ) → s < 2 ^ 31 → point_for (with_header w (set_base_of w.header s)) ≡ after_set_base size (live_at w) base w.header.point s
  base-works s l = point-base size (live_at w) base s small current.base l ∙ ap (λ (p : ℕ). after_set_base size (live_at w) base p s) (sym current.point)

  -- taking the front: the base's value removed, then the base set to the next sequence
  pub front-works : (z : argument_refusal (known_by w.header) (remove base) ≡ 0)
      → let v = (window_does w (remove base)).after in
      let next = sequence_at_of base 1 in
      point_for (with_header v (set_base_of v.header next)) ≡ after_set_base (size_of v) (live_at v) v.header.base v.header.point next
  unfolding does
  front-works z =
      let next = sequence_at_of base 1 in
      let v = (window_does w (remove base)).after in
      let same = (does-leaves w ok (remove base) refl z).limits in
      let live = seen w ok (remove base) z in
      let of_size = same_size w ok (remove base) z in
      let point : v.header.point ≡ point_for w = ap (λ (l : Limits). l.point) same ∙ current.point in
      (λ i. point_of (of_size i) (live i).live next) ∙ point-front size (live_at w) base small current.base
      ∙ sym (λ i. after_set_base (of_size i) (live i).live (ap (λ (l : Limits). l.base) same i) (point i) next)
