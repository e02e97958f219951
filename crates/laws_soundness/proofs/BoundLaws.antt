-- Bounds on the counts of a sound window. Assumes nothing.
use mathlib.Core.Path.{◌≡◌}
use mathlib.Core.Bool.{true, false}
use Prim.Native.Nat.{ℕ, ◌+◌, ◌*◌, ◌/◌, ◌≤◌, ◌<◌}
use native.Mathlib.Omega.{arith}
use Rattle.words.proofs.CountLaws.{count-le}
use Rattle.window.proofs.MemoryLaws.{capacity-pages}
use Rattle.model.specs.Window.{Window, capacity_of, pages_of, blocks_of, is_retired}
use Rattle.model.specs.Pages.{holds_value}
use Rattle.model.specs.Sound.{live_in, retired_in, Sound}
use Rattle.laws_soundness.proofs.SumLaws.{sum-add, sum-le}
use Rattle.laws_soundness.proofs.PageLaws.{some-counted, page-total, live-counts, retired-counts, live-part, len-part, held-part}

-- a page has at most 64 values, live and retired together
pub page-le : (w : Window) (g : ℕ) → live_in w g + retired_in w g ≤ 64
page-le w g = omega (arith, page-total w g, count-le 64 (w.pages g).occupied)

module _ (w : Window) (ok : Sound w) where
  pub total-le : w.header.len + w.header.retired_held ≤ capacity_of w
  total-le =
      let t = sum-le 64 (pages_of w) (λ (g : ℕ). live_in w g + retired_in w g) (λ g l. page-le w g) in
      omega (arith, t, sum-add (pages_of w) (live_in w) (retired_in w), ok.len, ok.held, capacity-pages w.header.window_size)

  pub len-le : w.header.len ≤ capacity_of w
  len-le = omega (arith, total-le)

  pub held-le : w.header.retired_held ≤ capacity_of w
  held-le = omega (arith, total-le)

  pub live-le : (b : ℕ) → b < blocks_of w → (w.blocks b).live ≤ 4096
  live-le b l = omega (arith, ok.live b l, sum-le 64 64 (λ (i : ℕ). live_in w (64 * b + i)) (λ i k. omega (arith, page-le w (64 * b + i))))

  -- the counts have the values of a page that holds some
  pub live-some : (g : ℕ) → g < pages_of w → is_retired w g ≡ false → holds_value (w.pages g) ≡ true → (1 ≤ (w.blocks (g / 64)).live) × (1 ≤ w.header.len)
  live-some g l r h =
      let n = some-counted (w.pages g) (ok.page g l).occupied_fits h in
      let e = (live-counts w g r).0 in
      (omega (arith, n, e, live-part w ok g l), omega (arith, n, e, len-part w ok g l))

  pub held-some : (g : ℕ) → g < pages_of w → is_retired w g ≡ true → holds_value (w.pages g) ≡ true → 1 ≤ w.header.retired_held
  held-some g l r h = omega (arith, some-counted (w.pages g) (ok.page g l).occupied_fits h, (retired-counts w g r).1, held-part w ok g l)
