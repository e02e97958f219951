-- What `new` gives in each of its three cases, over plain variables. Assumes nothing.
use mathlib.Core.Path.{◌≡◌, refl, sym, ap, ◌∙◌}
use mathlib.Core.Bool.{true, false}
use Prim.Native.Nat.{ℕ, zero, suc}
use lib.ListN.{length}
use Rattle.window.specs.declared.refusals.Refusal.{Refusal}
use Rattle.std.specs.Prelude.{Result, Err}
use Rattle.window.specs.Memory.{Memory}
use Rattle.window.specs.Refusals.{refusal_number_of, verdict_number, limits, long_enough_of}
use Rattle.window.proofs.RefusalLaws.{refuses}
use Rattle.window.specs.New.{NewResult, made, refused, new_result, fresh, cleared, short_memory, unless_refused, new_of}

module _ (m : Memory) (size n d : ℕ) where
  stays : (k : ℕ) (r : NewResult) → (k ≡ 0 → ⊥) → unless_refused k m r ≡ new_result (refused k) m
  stays zero r h = absurd (h refl)
  stays (suc k) r h = refl

  -- refusals 1 to 3
  pub new-limits : (t : Result (Unit {0}) Refusal) (why : Refusal) → t ≡ Err why → verdict_number t ≡ limits size n d
      → new_result (refused (refusal_number_of why)) m ≡ new_of m size n d
  unfolding new_of
  new-limits t why e l =
      let k : refusal_number_of why ≡ limits size n d = ap verdict_number (sym e) ∙ l in
      rw (k) (sym (stays (limits size n d) _ (λ z. refuses t why e (l ∙ z))))

  -- refusal 6
  pub new-short : limits size n d ≡ 0 → long_enough_of size (length m.sequences) (length m.values) (length m.pages) (length m.blocks) ≡ false
      → new_result (refused 6) m ≡ new_of m size n d
  unfolding new_of short_memory
  new-short e l = rw (e, l)

  pub new-made : limits size n d ≡ 0 → long_enough_of size (length m.sequences) (length m.values) (length m.pages) (length m.blocks) ≡ true
      → new_of m size n d ≡ new_result (made (fresh size n d)) (cleared size m)
  unfolding new_of short_memory
  new-made e l = rw (e, l)
