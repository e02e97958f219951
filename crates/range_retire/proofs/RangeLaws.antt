-- A range of positions retired, over plain variables: in one stretch, or in two round the capacity. Assumes nothing.
use mathlib.Core.Path.{◌≡◌, refl, ap, ◌∙◌}
use mathlib.Core.Bool.{◌&&◌}
use mathlib.Core.List.{List}
use Prim.Native.Nat.{ℕ, ◌+◌, ◌-◌, ◌/◌, ◌%◌, ◌≤◌, ◌<◌}
use native.Mathlib.Omega.{arith}
use native.Mathlib.Decide.{ℕ_discrete}
use borrow.Author.Tests.{le-leb, lt-leb}
use Rattle.window.specs.declared.AdaptiveReceiverPacketWindow.{AdaptiveReceiverPacketWindow}
use Rattle.window.specs.Memory.{Memory, capacity}
use Rattle.window.proofs.MemoryLaws.{capacity-pages}
use Rattle.model.specs.Window.{Window, decode}
use Rattle.model.specs.Steps.{retire_stretch, retire_range_of}
use Rattle.laws_soundness.specs.Retire.{Retiring}
use Rattle.laws_soundness.proofs.RetireRangeLaws.{retiring-stretch}
use Rattle.range_retire.specs.declared.Retired.{Retired}
use Rattle.range_retire.specs.Spans.{partial, span_most, two_stretches}
use Rattle.range_retire.specs.Promises.{Performs}
use Rattle.range_retire.proofs.PerformLaws.{performs-as, performs-then}
use Rattle.range_retire.proofs.SpanLaws.{partial-none, partial-some, most-inside, most-across}

-- ---- how many values there can be

partial_le : (q : ℕ) → partial q ≤ 64
partial_le q = elim (ℕ_discrete (q % 64) 0) [ yes e ↦ omega (arith, partial-none q e) | no e ↦ omega (arith, partial-some q e) ]

pub most-le : (a e : ℕ) → span_most a e ≤ 128
most-le a e = elim (ℕ_discrete (a / 64) ((e - 1) / 64)) [
  | yes q ↦ omega (arith, most-inside a e q)
  | no q ↦ omega (arith, most-across a e q, partial_le a, partial_le e)
]

-- a stretch that ends, or begins, with a whole page
pub most-end : (a e : ℕ) → e % 64 ≡ 0 → span_most a e ≤ 64
most-end a e w = elim (ℕ_discrete (a / 64) ((e - 1) / 64)) [
  | yes q ↦ omega (arith, most-inside a e q)
  | no q ↦ omega (arith, most-across a e q, partial_le a, partial-none e w)
]

pub most-begin : (e : ℕ) → span_most 0 e ≤ 64
most-begin e = elim (ℕ_discrete (0 / 64) ((e - 1) / 64)) [
  | yes q ↦ omega (arith, most-inside 0 e q)
  | no q ↦ omega (arith, most-across 0 e q, partial-none 0 refl, partial_le e)
]

pub capacity-whole : (size e : ℕ) → e ≤ capacity size → capacity size ≤ e → e % 64 ≡ 0
capacity-whole size e l m = omega (arith, capacity-pages size)

-- ---- the code's steps

-- the model's range in two stretches
two_is : (h : AdaptiveReceiverPacketWindow) (m : Memory) (start count : ℕ) → capacity h.window_size < start + count
    → two_stretches start (capacity h.window_size) (start + count - capacity h.window_size) (decode h m) ≡ retire_range_of (decode h m) start count
unfolding retire_range_of decode
two_is h m start count high = rw (lt-leb (start + count) (capacity h.window_size) high)

keeps : (h : AdaptiveReceiverPacketWindow) (m : Memory) (a e : ℕ) → a < e → e ≤ capacity h.window_size → Retiring (decode h m) → Retiring (retire_stretch (decode h m) a e).after
unfolding decode
keeps h m a e less top ok = retiring-stretch (decode h m) a e ok less top

module _ (h : AdaptiveReceiverPacketWindow) (m : Memory) (l : List ℕ) (start count : ℕ) (r : Retired) (m' : Memory) (l' : List ℕ) (end : ℕ) (is : end ≡ capacity h.window_size) where
  -- up to the capacity
  pub range-one : start + count ≤ end → Performs (λ (v : Window). retire_stretch v start (start + count)) (span_most start (start + count)) h m 0 l r m' l'
      → Performs (λ (v : Window). retire_range_of v start count) 128 h m 0 l r m' l'
  unfolding retire_range_of decode
  range-one low t =
      performs-as 128 h m 0 l (span_most start (start + count)) (λ (v : Window). retire_stretch v start (start + count)) (λ (v : Window). retire_range_of v start count) r m' l' (most-le start (start + count))
      (rw (le-leb (start + count) (capacity h.window_size) (omega arith))) t

  -- and round it
  pub range-two : end < start + count → Performs (two_stretches start end (start + count - end)) 128 h m 0 l r m' l' → Performs (λ (v : Window). retire_range_of v start count) 128 h m 0 l r m' l'
  range-two high t =
      performs-as 128 h m 0 l 128 (two_stretches start end (start + count - end)) (λ (v : Window). retire_range_of v start count) r m' l' (omega arith) same t
    where
      two : two_stretches start (capacity h.window_size) (start + count - capacity h.window_size) (decode h m) ≡ retire_range_of (decode h m) start count
      two = two_is h m start count (omega arith)

      same : two_stretches start end (start + count - end) (decode h m) ≡ retire_range_of (decode h m) start count
      same = ap (λ (x : ℕ). two_stretches start x (start + count - x) (decode h m)) is ∙ two

-- two stretches, one after the other
pub round-two : (h : AdaptiveReceiverPacketWindow) (m : Memory) (l : List ℕ) (a e rest : ℕ) (r₁ : Retired) (m₁ : Memory) (l₁ : List ℕ) (r₂ : Retired) (m₂ : Memory) (l₂ : List ℕ)
    → a < e → e ≤ capacity h.window_size → capacity h.window_size ≤ e → (next : ℕ) → next ≡ 0 + r₁.count
    → Performs (λ (v : Window). retire_stretch v a e) (span_most a e) h m 0 l r₁ m₁ l₁ → Performs (λ (v : Window). retire_stretch v 0 rest) (span_most 0 rest) r₁.window m₁ next l₁ r₂ m₂ l₂
    → (r : Retired) → r ≡ record { window = r₂.window; count = r₁.count + r₂.count; sound = r₁.sound && r₂.sound } → Performs (two_stretches a e rest) 128 h m 0 l r m₂ l₂
round-two h m l a e rest r₁ m₁ l₁ r₂ m₂ l₂ less top whole next n t u r er =
    rw er
    (performs-as 128 h m 0 l (span_most a e + span_most 0 rest) (two_stretches a e rest) (two_stretches a e rest) _ m₂ l₂ (omega (arith, most-end a e (capacity-whole h.window_size e top whole), most-begin rest)) refl
    (performs-then (λ (v : Window). retire_stretch v a e) (λ (v : Window). retire_stretch v 0 rest) (span_most a e) (span_most 0 rest) h m 0 l r₁ m₁ l₁ r₂ m₂ l₂ (keeps h m a e less top) t (rw n at u)))
