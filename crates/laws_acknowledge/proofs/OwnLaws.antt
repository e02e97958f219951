-- A live sequence is one of a range's, or a stranger of it: by the distance alone, since neither has its top bit set. Assumes nothing.
use mathlib.Core.Path.{sym, ap, ◌∙◌, subst}
use Prim.Native.Nat.{ℕ, ◌^◌, ◌<◌}
use native.Mathlib.Omega.{arith}
use borrow.Author.Tests.{lt-leb, leb-false}
use Rattle.model.specs.Table.{distance}
use Rattle.model.specs.Window.{Window}
use Rattle.model.specs.Sound.{Sound}
use Rattle.model.specs.Strangers.{OwnOrStranger}
use Rattle.page_base.proofs.LiveLaws.{Holds, live-wire}
use Rattle.laws_acknowledge.proofs.DistanceLaws.{distance-at, at-distance-own}

pub own-or-stranger : (w : Window) → Sound w → OwnOrStranger w
own-or-stranger w ok = record {
  own = λ first count q s v low l e t.
      let wire : s < 2 ^ 31 = subst (Holds (λ (x : ℕ). x < 2 ^ 31)) e (live-wire w ok q l) in
      (distance first s, leb-false count (distance first s) t, at-distance-own first s low wire);
  no_stranger = λ first count s v low few i.
      let near : distance first s < count = omega (arith, i.1, ap (distance first) (sym i.2) ∙ distance-at first i.0 low (omega (arith, i.1))) in
      lt-leb count (distance first s) near;
}
