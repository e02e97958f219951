-- Every call keeps a window sound, and its sizes; the calls of document 01 leave base and point. Assumes nothing.
use mathlib.Core.Path.{◌≡◌, refl, sym, ap, ◌∙◌}
use mathlib.Core.Bool.{Bool, true, false, true≢false}
use Prim.Native.Nat.{ℕ, zero, suc, ◌+◌, ◌^◌, ◌<◌}
use native.Mathlib.Omega.{arith}
use native.Mathlib.Nat.{mod-lt}
use lib.Dec.{leb}
use Rattle.words.proofs.CaseLaws.{bool}
use Rattle.window.specs.declared.AdaptiveReceiverPacketWindow.{AdaptiveReceiverPacketWindow}
use Rattle.window.specs.Memory.{Memory, position}
use Rattle.window.proofs.MemoryLaws.{position-lt}
use Rattle.model.specs.Calls.{Call, insert, exchange, remove, remove_range, clear, clear_bounded, release_retired, set_base, take_front, ask}
use Rattle.model.specs.Table.{finds, sequence_at_of, range_count_of, argument_refusal}
use Rattle.model.specs.Window.{Window, decode, size_of, pages_of, point_for}
use Rattle.model.specs.Steps.{header_from, set_base_of, with_header, retire_all_of, live_here, remove_step, range_step, clear_step, clear_bounded_step, release_step, front_step, Effect, effect, unless_refused, known_by, repoint, window_acts, window_step, window_does}
use Rattle.model.specs.Sound.{SoundWithPoint}
use Rattle.model.proofs.KeepLaws.{count-some}
use Rattle.model.proofs.RefusalLaws.{range-taken, insert-taken, base-taken}
use Rattle.laws_soundness.specs.Change.{Proper, Limits, SameSizes, SameLimits}
use Rattle.laws_soundness.proofs.LimitLaws.{all-limits, release-limits, release-pages-limits, insert-limits, exchange-limits, remove-limits}
use Rattle.laws_soundness.proofs.ProperLaws.{proper-decode}
use Rattle.laws_soundness.proofs.ExchangeRemoveLaws.{proper-exchange, proper-remove}
use Rattle.laws_soundness.proofs.InsertLaws.{proper-insert}
use Rattle.laws_soundness.proofs.VisitLaws.{pages-same, proper-release, pages-released}
use Rattle.laws_soundness.proofs.RetireRangeLaws.{proper-all, all-len}
use Rattle.laws_soundness.proofs.RetireReleaseLaws.{retiring-release, ranged, ranged-limits, retiring-ranged, count-few}

-- ---- base and point are no part of document 01's soundness

pub headed-proper : (w : Window) (base point : ℕ) → Proper w → Proper (with_header w (header_from w.header base point))
headed-proper w base point ok =
    let s = ok.sound in
    record {
      sound = record {
        within = s.within;
        page = s.page;
        dense = s.dense;
        nonempty = s.nonempty;
        summary = s.summary;
        marks = s.marks;
        live = s.live;
        len = s.len;
        held = s.held;
        cursor = s.cursor;
        nonempty_bits = s.nonempty_bits;
        retired_bits = s.retired_bits;
        summary_bits = s.summary_bits;
        retired_block_bits = s.retired_block_bits;
        no_block_mark = s.no_block_mark;
        no_page_mark = s.no_page_mark;
        nonempty_fits = s.nonempty_fits;
        retired_fits = s.retired_fits;
      };
      past = ok.past;
    }

-- ---- what a call leaves of w

-- a call of document 01: base and point as they were
pub record Leaves (w v : Window) : Type 0 where
  pub proper : Proper v
  pub limits : SameLimits w v

abbrev leaves : {w v : Window} → Proper v → SameLimits w v → Leaves w v
leaves ok same = record { proper = ok; limits = same }

-- every call: a base below 2^31 stays below it
pub record Keeps (w v : Window) : Type 0 where
  pub proper : Proper v
  pub sizes : SameSizes w v
  pub base : w.header.base < 2 ^ 31 → v.header.base < 2 ^ 31

pub same-sizes : (w v : Window) → SameLimits w v → SameSizes w v
same-sizes w v = ap (λ (l : Limits). record { size = l.size; cells = l.cells; demote_at = l.demote_at })

leaves-keep : (w v : Window) → Leaves w v → Keeps w v
leaves-keep w v l =
    record { proper = l.proper; sizes = same-sizes w v l.limits; base = λ h. omega (arith, h, ap (λ (x : Limits). x.base) l.limits) }

-- the point worked out afresh
repoint-keeps : (w v : Window) → Keeps w v → Keeps w (repoint v)
repoint-keeps w v k = record { proper = headed-proper v v.header.base (point_for v) k.proper; sizes = k.sizes; base = k.base }

-- the calls of document 01
abbrev pub leaves_base : Call → Bool
leaves_base (insert s v listed) = true
leaves_base (exchange s v) = true
leaves_base (remove s) = true
leaves_base (remove_range a b listed) = true
leaves_base (clear listed) = true
leaves_base (clear_bounded n listed) = true
leaves_base (release_retired b listed) = true
leaves_base (set_base s) = false
leaves_base take_front = false
leaves_base (ask q) = true

module _ (w : Window) (ok : Proper w) where
  range-leaves : (a b : ℕ) → leb (range_count_of a b) (size_of w) ≡ true → Leaves w (range_step w (position (size_of w) a) (range_count_of a b)).after
  unfolding range_step
  range-leaves a b e =
      let start = position (size_of w) a in
      let v = ranged w start (range_count_of a b) in
      let r = retiring-ranged w start (range_count_of a b) ok (position-lt (size_of w) a) (count-some a b) (count-few w ok a b e) in
      leaves (retiring-release v r 256) (release-limits v 256 ∙ ranged-limits w start (range_count_of a b))

  clear-leaves : Leaves w (clear_step w).after
  unfolding clear_step
  clear-leaves =
      let v = retire_all_of w in
      leaves (proper-release 256 v (proper-all w ok)) (release-limits v 256 ∙ all-limits w)

  clear-bounded-leaves : (n : ℕ) → Leaves w (clear_bounded_step w n).after
  unfolding clear_bounded_step
  clear-bounded-leaves n =
      let t = pages-released (pages_of w) 0 n (retire_all_of w) (proper-all w ok) (all-len w) (omega (arith, pages-same w (retire_all_of w) (all-limits w))) in
      leaves t.proper (release-pages-limits (retire_all_of w) (pages_of w) 0 n ∙ all-limits w)

  release-leaves : (b : ℕ) → Leaves w (release_step w b).after
  unfolding release_step
  release-leaves b = leaves (proper-release b w ok) (release-limits w b)

  pub does-leaves : (c : Call) → leaves_base c ≡ true → argument_refusal (known_by w.header) c ≡ 0 → Leaves w (window_does w c).after
  unfolding window_does
  does-leaves (insert s v listed) own z = leaves (proper-insert w s v (insert-taken (known_by w.header) s v listed z) ok) (insert-limits w s v)
  does-leaves (exchange s v) own z = leaves (proper-exchange w s v ok) (exchange-limits w s v)
  does-leaves (remove s) own z = leaves (proper-remove w s ok) (remove-limits w s)
  does-leaves (remove_range a b listed) own z = range-leaves a b (range-taken (known_by w.header) a b listed z)
  does-leaves (clear listed) own z = clear-leaves
  does-leaves (clear_bounded n listed) own z = clear-bounded-leaves n
  does-leaves (release_retired b listed) own z = release-leaves b
  does-leaves (set_base s) own z = absurd (true≢false (sym own))
  does-leaves take_front own z = absurd (true≢false (sym own))
  does-leaves (ask q) own z = leaves ok refl

  -- the base set to a sequence below 2^31
  base-keeps : (v : Window) (s : ℕ) → s < 2 ^ 31 → Proper v → SameSizes w v → Keeps w (with_header v (set_base_of v.header s))
  base-keeps v s l p same = record { proper = headed-proper v s v.header.point p; sizes = same; base = λ h. l }

  front-keeps : Keeps w (front_step w).after
  unfolding front_step
  front-keeps =
      let s = w.header.base in
      let v = (remove_step w s).after in
      bool (finds s (live_here w s))
      (λ e. rw e (base-keeps v (sequence_at_of s 1) (mod-lt (s + 1) {m = 2 ^ 31} (omega arith)) (proper-remove w s ok) (same-sizes w v (remove-limits w s))))
      (λ e. rw e (leaves-keep w w (leaves ok refl)))

  left-keeps : (c : Call) → leaves_base c ≡ true → argument_refusal (known_by w.header) c ≡ 0 → Keeps w (window_does w c).after
  left-keeps c own z = leaves-keep w (window_does w c).after (does-leaves c own z)

  -- what a call does, the point left as it is
  pub does-keeps : (c : Call) → argument_refusal (known_by w.header) c ≡ 0 → Keeps w (window_does w c).after
  unfolding window_does
  does-keeps (insert s v listed) z = left-keeps (insert s v listed) refl z
  does-keeps (exchange s v) z = left-keeps (exchange s v) refl z
  does-keeps (remove s) z = left-keeps (remove s) refl z
  does-keeps (remove_range a b listed) z = left-keeps (remove_range a b listed) refl z
  does-keeps (clear listed) z = left-keeps (clear listed) refl z
  does-keeps (clear_bounded n listed) z = left-keeps (clear_bounded n listed) refl z
  does-keeps (release_retired b listed) z = left-keeps (release_retired b listed) refl z
  does-keeps (set_base s) z = base-keeps w s (base-taken (known_by w.header) s z) ok refl
  does-keeps take_front z = front-keeps
  does-keeps (ask q) z = left-keeps (ask q) refl z

  unless-keeps : (k : ℕ) (e : Effect) → (k ≡ 0 → Keeps w e.after) → Keeps w (unless_refused k w e).after
  unless-keeps zero e h = h refl
  unless-keeps (suc k) e h = leaves-keep w w (leaves ok refl)

  call-keeps : (c : Call) → Keeps w (window_step w c).after
  call-keeps c = unless-keeps (argument_refusal (known_by w.header) c) (window_acts w c) (λ z. repoint-keeps w (window_does w c).after (does-keeps c z))

  pub call-sizes : (c : Call) → SameSizes w (window_step w c).after
  call-sizes c = (call-keeps c).sizes

-- the point of a refused call stays right, that of any other is worked out afresh
unless-point : (w : Window) (k : ℕ) (e : Effect) → w.header.point ≡ point_for w
    → let v = (unless_refused k w (effect (repoint e.after) e.answer e.returned)).after in v.header.point ≡ point_for v
unless-point w zero e p = refl
unless-point w (suc k) e p = p

-- of a state: what a call leaves of a sound one is sound
pub sound-call : (h : AdaptiveReceiverPacketWindow) (m : Memory) (c : Call) → SoundWithPoint (decode h m) → SoundWithPoint (window_step (decode h m) c).after
sound-call h m c ok =
    let w = decode h m in
    let k = call-keeps w (proper-decode h m ok.sound) c in
    record {
      sound = k.proper.sound;
      base = k.base ok.base;
      point = unless-point w (argument_refusal (known_by w.header) c) (window_does w c) ok.point;
    }
