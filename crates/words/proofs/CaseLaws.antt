-- Cases on a test, each with the equation that it was met by, and both of two tests. Assumes nothing.
use mathlib.Core.Path.{◌≡◌, refl, sym}
use mathlib.Core.Bool.{Bool, true, false, ◌&&◌, true≢false}

pub bool : {B : Type 0} (b : Bool) → (b ≡ true → B) → (b ≡ false → B) → B
bool true f g = f refl
bool false f g = g refl

pub both : (s t : Bool) → s && t ≡ true → (s ≡ true) × (t ≡ true)
both true t e = (refl, e)
both false t e = absurd (true≢false (sym e))
