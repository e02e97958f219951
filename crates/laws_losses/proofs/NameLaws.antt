-- The list of a set of losses names the sequences that are lost, and no others. Assumes nothing.
use mathlib.Core.Path.{◌≡◌, refl, sym, ap, ◌∙◌}
use mathlib.Core.Bool.{Bool, true, false}
use mathlib.Core.Option.{none}
use mathlib.Core.List.{List, [], ◌∷◌, ◌++◌, append-nil}
use Prim.Native.Nat.{ℕ, zero, suc, ◌+◌, ◌^◌, ◌≤◌, ◌<◌}
use native.Mathlib.Omega.{arith}
use native.Mathlib.Decide.{ℕ_discrete}
use lib.Dec.{ltb}
use lib.ListN.{length, get_or}
use borrow.Author.Tests.{le-leb, lt-leb, eq-eqb, ne_eqb, lt-ltb, le-ltb}
use Rattle.model.specs.Table.{sequence_at_of}
use Rattle.model.specs.Losses.{flags_from, run_words, words_from, loss_words, names_after, named_flags}
use Rattle.laws_acknowledge.proofs.DistanceLaws.{sequence-lt, distance-at}
use Rattle.laws_losses.proofs.WordLaws.{distance-top}

module _ (first : ℕ) (low : first < 2 ^ 31) where
  abbrev names : List ℕ → ℕ → Bool
  names = names_after first none

  -- ---- one word, and the two of a run

  wire : (s : ℕ) → ltb (sequence_at_of first s) (2 ^ 31) ≡ true
  wire s = lt-ltb (sequence_at_of first s) (2 ^ 31) (sequence-lt first s)

  top : (s : ℕ) → ltb (2 ^ 31 + sequence_at_of first s) (2 ^ 31) ≡ false
  top s = le-ltb (2 ^ 31 + sequence_at_of first s) (2 ^ 31) (omega arith)

  -- ---- one run

  module _ (l : List ℕ) (d : ℕ) where
    run-before : (s k : ℕ) → s + k ≤ 2 ^ 31 → d < s → names (run_words first s k ++ l) d ≡ names l d
    unfolding run_words names_after
    run-before s zero u h = refl
    run-before s (suc zero) u h = rw (wire s, distance-at first s low (omega arith), ne_eqb d s (omega arith))
    run-before s (suc (suc zero)) u h =
        rw (wire s, distance-at first s low (omega arith), ne_eqb d s (omega arith), wire (s + 1), distance-at first (s + 1) low (omega arith), ne_eqb d (s + 1) (omega arith))
    run-before s (suc (suc (suc k))) u h = rw (top s, distance-top first s low (omega arith), lt-leb s d h)

    run_past : (s k : ℕ) → s + k ≤ 2 ^ 31 → s + k ≤ d → names (run_words first s k ++ l) d ≡ names l d
    unfolding run_words names_after
    run_past s zero u h = refl
    run_past s (suc zero) u h = rw (wire s, distance-at first s low (omega arith), ne_eqb d s (omega arith))
    run_past s (suc (suc zero)) u h =
        rw (wire s, distance-at first s low (omega arith), ne_eqb d s (omega arith), wire (s + 1), distance-at first (s + 1) low (omega arith), ne_eqb d (s + 1) (omega arith))
    run_past s (suc (suc (suc k))) u h =
        rw (top s, distance-top first s low (omega arith), le-leb s d (omega arith), distance-at first (s + (k + 2)) low (omega arith), lt-leb d (s + (k + 2)) (omega arith))

    run_in : (s k : ℕ) → s + k ≤ 2 ^ 31 → s ≤ d → d < s + k → names (run_words first s k ++ l) d ≡ true
    unfolding run_words names_after
    run_in s zero u g h = absurd (omega arith)
    run_in s (suc zero) u g h = rw (wire s, distance-at first s low (omega arith), eq-eqb d s (omega arith))
    run_in s (suc (suc zero)) u g h = elim (ℕ_discrete d s) [
      | yes e ↦ rw (wire s, distance-at first s low (omega arith), eq-eqb d s e)
      | no e ↦ rw (wire s, distance-at first s low (omega arith), ne_eqb d s e, wire (s + 1), distance-at first (s + 1) low (omega arith), eq-eqb d (s + 1) (omega arith))
    ]
    run_in s (suc (suc (suc k))) u g h =
        rw (top s, distance-top first s low (omega arith), le-leb s d g, distance-at first (s + (k + 2)) low (omega arith), le-leb d (s + (k + 2)) (omega arith))

  -- ---- the flags

  ends : (s k d : ℕ) → names (run_words first s k) d ≡ names (run_words first s k ++ []) d
  ends s k d = ap (λ (l : List ℕ). names l d) (sym (append-nil (run_words first s k)))

  names-before : (f : List Bool) (s k d : ℕ) → s + k + length f ≤ 2 ^ 31 → d < s → names (words_from first s k f) d ≡ false
  unfolding words_from names_after
  names-before [] s k d u h = ends s k d ∙ run-before [] d s k (omega arith) h
  names-before (true ∷ f) s k d u h = names-before f s (suc k) d (omega arith) h
  names-before (false ∷ f) s k d u h =
      run-before (words_from first (suc (s + k)) 0 f) d s k (omega arith) h ∙ names-before f (suc (s + k)) 0 d (omega arith) (omega arith)

  names-run : (f : List Bool) (s k d : ℕ) → s + k + length f ≤ 2 ^ 31 → s ≤ d → d < s + k → names (words_from first s k f) d ≡ true
  unfolding words_from
  names-run [] s k d u g h = ends s k d ∙ run_in [] d s k (omega arith) g h
  names-run (true ∷ f) s k d u g h = names-run f s (suc k) d (omega arith) g (omega arith)
  names-run (false ∷ f) s k d u g h = run_in (words_from first (suc (s + k)) 0 f) d s k (omega arith) g h

  -- from the end of the run on, each flag
  names-flags : (f : List Bool) (s k j : ℕ) → s + k + length f ≤ 2 ^ 31 → names (words_from first s k f) (s + k + j) ≡ get_or f j false
  unfolding words_from names_after
  names-flags [] s k j u = ends s k (s + k + j) ∙ run_past [] (s + k + j) s k (omega arith) (omega arith)
  names-flags (true ∷ f) s k zero u = names-run f s (suc k) (s + k + 0) (omega arith) (omega arith) (omega arith)
  names-flags (true ∷ f) s k (suc j) u =
      let e : s + k + suc j ≡ s + suc k + j = omega arith in
      ap (names (words_from first s (suc k) f)) e ∙ names-flags f s (suc k) j (omega arith)
  names-flags (false ∷ f) s k zero u =
      run_past (words_from first (suc (s + k)) 0 f) (s + k + 0) s k (omega arith) (omega arith)
      ∙ names-before f (suc (s + k)) 0 (s + k + 0) (omega arith) (omega arith)
  names-flags (false ∷ f) s k (suc j) u =
      let e : s + k + suc j ≡ suc (s + k) + 0 + j = omega arith in
      run_past (words_from first (suc (s + k)) 0 f) (s + k + suc j) s k (omega arith) (omega arith)
      ∙ ap (names (words_from first (suc (s + k)) 0 f)) e ∙ names-flags f (suc (s + k)) 0 j (omega arith)

  -- the list of a set of losses names exactly them
  pub losses-named : (f : List Bool) (d : ℕ) → length f ≤ 2 ^ 31 → names_after first none (loss_words first f) d ≡ get_or f d false
  losses-named f d u =
      let e : d ≡ 0 + 0 + d = omega arith in
      ap (names (loss_words first f)) e ∙ names-flags f 0 0 d (omega arith)

  -- flags that a test gives one after another
  each : (P : ℕ → Bool) (g : List Bool) (d : ℕ) → ((j : ℕ) → P (d + j) ≡ get_or g j false) → flags_from P d (length g) ≡ g
  unfolding flags_from
  each P [] d h = refl
  each P (b ∷ g) d h =
      let z : d ≡ d + 0 = omega arith in
      λ i. (ap P z ∙ h 0) i ∷ each P g (suc d) (λ j. let s : suc d + j ≡ d + suc j = omega arith in ap P s ∙ h (suc j)) i

  -- and so the flags that it names are theirs
  pub named-flags : (f : List Bool) → length f ≤ 2 ^ 31 → named_flags first (length f) (loss_words first f) ≡ f
  named-flags f u = each (names (loss_words first f)) f 0 (λ j. let z : 0 + j ≡ j = omega arith in ap (names (loss_words first f)) z ∙ losses-named f j u)
