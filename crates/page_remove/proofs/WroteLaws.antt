-- Values written to a return list twice, one stretch after the other. Assumes nothing.
use mathlib.Core.Path.{◌≡◌, sym, ap, ◌∙◌}
use mathlib.Core.List.{List, ◌++◌}
use Prim.Native.Nat.{ℕ, ◌+◌, ◌≤◌}
use native.Mathlib.Omega.{arith}
use lib.ListN.{length, take, drop, length-drop}
use lib.Seq.{length-take-le, drop-append_seam, take-take, take-add, drop-drop}
use Rattle.page_remove.specs.Promises.{Wrote, stretch}

-- a stretch that the list has room for has its length
pub stretch-length : (at k : ℕ) (l : List ℕ) → at + k ≤ length l → length (stretch at k l) ≡ k
stretch-length at k l room = length-take-le k (drop at l) (omega (arith, length-drop at l))

module _ (at c d : ℕ) (l l₁ l₂ : List ℕ) (first : Wrote at c l l₁) (second : Wrote (at + c) d l₁ l₂) where
  pub wrote_then : Wrote at (c + d) l l₂
  wrote_then = record {
    before =
        sym (take-take at (at + c) l₂ (omega arith)) ∙ ap (take at) second.before ∙ take-take at (at + c) l₁ (omega arith) ∙ first.before;
    past =
        let e : at + (c + d) ≡ at + c + d = omega arith in
        ap (λ (x : ℕ). drop x l₂) e ∙ second.past
        ∙ sym (drop-drop d (at + c) l₁) ∙ ap (drop d) first.past ∙ drop-drop d (at + c) l
        ∙ ap (λ (x : ℕ). drop x l) (sym e);
    long = second.long ∙ first.long;
  }

  -- the first stretch is what follows the part before it
  stretch-is : (x : List ℕ) → stretch at c x ≡ drop (length (take at x)) (take (at + c) x)
  stretch-is x = sym (drop-append_seam (take at x) (stretch at c x)) ∙ ap (drop (length (take at x))) (sym (take-add at c x))

  stretch-kept : stretch at c l₂ ≡ stretch at c l₁
  stretch-kept =
      let b : take at l₂ ≡ take at l₁ = wrote_then.before ∙ sym first.before in
      stretch-is l₂ ∙ (λ i. drop (length (b i)) (second.before i)) ∙ sym (stretch-is l₁)

  pub stretch-then : stretch at (c + d) l₂ ≡ stretch at c l₁ ++ stretch (at + c) d l₂
  stretch-then =
      take-add c d (drop at l₂) ∙ ap (λ (x : List ℕ). stretch at c l₂ ++ take d x) (drop-drop c at l₂) ∙ ap (λ (x : List ℕ). x ++ stretch (at + c) d l₂) stretch-kept
