-- No call that reaches one position or none changes window_size, N or demote_at, base or point, and retiring does not (KeptLaws).
-- Assumes nothing.
use mathlib.Core.Path.{ap}
use mathlib.Core.Bool.{Bool, true, false, cond}
use mathlib.Core.Option.{Option, none, some}
use Prim.Native.Nat.{ℕ}
use Rattle.window.specs.declared.Cause.{Cause}
use Rattle.window.specs.declared.Cause.TheVariants.{Single, Range}
use Rattle.model.specs.Window.{Window}
use Rattle.model.specs.Steps.{note_nonempty, drop_block_marks, split_block, release_page_of, release, release_pages_of, retire_stretch, retire_range_of, retire_all_of, insert_step, exchange_step, remove_step}
use Rattle.laws_soundness.specs.Change.{Kept, SameBut, SameLimits}
use Rattle.laws_soundness.specs.Retire.{retire_next, first_page, last_page}
use Rattle.laws_soundness.proofs.KeptLaws.{note-kept, drop-kept, split-kept, release-page-kept, release-kept, release-pages-kept, next-kept, first-kept, last-kept, stretch-kept, range-kept, all-kept, insert-kept, exchange-kept, remove-kept}

pub limits-either : (w u v : Window) (b : Bool) → SameLimits w u → SameLimits w v → SameLimits w (cond b u v)
limits-either w u v true l r = l
limits-either w u v false l r = r

limits_of_lem : (c : Option Cause) (w v : Window) → SameBut c w v → SameLimits w v
limits_of_lem c w v = ap (λ (k : Kept). k.limits)

module _ (w : Window) where
  pub note-limits : (g : ℕ) → SameLimits w (note_nonempty w g)
  note-limits g = limits_of_lem none w (note_nonempty w g) (note-kept none w g)

  pub drop-limits : SameLimits w (drop_block_marks w)
  drop-limits = limits_of_lem none w (drop_block_marks w) (drop-kept none w)

  pub split-limits : (b : ℕ) → SameLimits w (split_block w b)
  split-limits b = limits_of_lem none w (split_block w b) (split-kept none w b)

  pub release-page-limits : (g k : ℕ) → SameLimits w (release_page_of w g k).after
  release-page-limits g k = limits_of_lem none w (release_page_of w g k).after (release-page-kept none w g k)

  pub next-limits : (b from to : ℕ) (several : Bool) → SameLimits w (retire_next w b from to several)
  next-limits b from to several = limits_of_lem none w (retire_next w b from to several) (next-kept none w b from to several)

  pub first-limits : (a : ℕ) → SameLimits w (first_page w a).after
  first-limits a = limits_of_lem (some Range) w (first_page w a).after (first-kept w a)

  pub last-limits : (e : ℕ) → SameLimits w (last_page w e).after
  last-limits e = limits_of_lem (some Range) w (last_page w e).after (last-kept w e)

  pub stretch-limits : (a e : ℕ) → SameLimits w (retire_stretch w a e).after
  stretch-limits a e = limits_of_lem (some Range) w (retire_stretch w a e).after (stretch-kept w a e)

  pub range-limits : (start count : ℕ) → SameLimits w (retire_range_of w start count).after
  range-limits start count = limits_of_lem (some Range) w (retire_range_of w start count).after (range-kept w start count)

  pub all-limits : SameLimits w (retire_all_of w)
  all-limits = limits_of_lem none w (retire_all_of w) (all-kept none w)

  pub release-limits : (b : ℕ) → SameLimits w (release b w).after
  release-limits b = limits_of_lem none w (release b w).after (release-kept none b w)

  pub release-pages-limits : (n g k : ℕ) → SameLimits w (release_pages_of n g k w).after
  release-pages-limits n g k = limits_of_lem none w (release_pages_of n g k w).after (release-pages-kept none n g k w)

  module _ (s : ℕ) where
    pub insert-limits : (v : ℕ) → SameLimits w (insert_step w s v).after
    insert-limits v = limits_of_lem none w (insert_step w s v).after (insert-kept none w s v)

    pub exchange-limits : (v : ℕ) → SameLimits w (exchange_step w s v).after
    exchange-limits v = limits_of_lem none w (exchange_step w s v).after (exchange-kept none w s v)

    pub remove-limits : SameLimits w (remove_step w s).after
    remove-limits = limits_of_lem (some Single) w (remove_step w s).after (remove-kept w s)
