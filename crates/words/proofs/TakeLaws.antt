-- The lowest set bit of a word that is not 0, and the word without it: what a loop over the bits of a word needs. Assumes nothing.
use mathlib.Core.Path.{◌≡◌, sym, ap, ◌∙◌}
use Prim.Native.Nat.{ℕ, ◌^◌, ◌<◌}
use native.Mathlib.Omega.{arith}
use native.Mathlib.Decide.{ℕ_discrete}
use Rattle.words.specs.Word.{bit_at, lowest, clear_bit, count}
use Rattle.words.proofs.ChangeLaws.{with-other, with-lt}
use Rattle.words.proofs.CountLaws.{count-clear}
use Rattle.words.proofs.LowestLaws.{lowest-is, lowest-some}

module _ (w : ℕ) (fits : w < 2 ^ 64) (some : w ≡ 0 → ⊥) where
  pub taken-held : bit_at w (lowest w 0) ≡ 1
  taken-held = (lowest-is w 0 (omega arith)).held (lowest-some w fits some)

  pub rest-fits : clear_bit w (lowest w 0) < 2 ^ 64
  rest-fits = with-lt 64 w (lowest w 0) 0 fits (lowest-some w fits some) (omega arith)

  -- its bits are bits of the word
  pub rest-among : (i : ℕ) → bit_at (clear_bit w (lowest w 0)) i ≡ 1 → bit_at w i ≡ 1
  rest-among i e = elim (ℕ_discrete i (lowest w 0)) [
    | yes d ↦ ap (bit_at w) d ∙ taken-held
    | no d ↦ sym (with-other w (lowest w 0) 0 i (omega arith) d) ∙ e
  ]

  pub rest-fewer : count (clear_bit w (lowest w 0)) < count w
  rest-fewer = let c = count-clear 64 w (lowest w 0) (lowest-some w fits some) taken-held in omega (arith, c)
