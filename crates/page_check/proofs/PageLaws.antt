-- A page of kind 0: whether it is sound, over plain variables. Assumes nothing.
use mathlib.Core.Path.{◌≡◌, ap}
use mathlib.Core.List.{List}
use Prim.Native.Nat.{ℕ, ◌^◌, ◌≤◌, ◌<◌}
use native.Mathlib.Omega.{arith}
use lib.Dec.{eqb}
use Rattle.words.specs.Word.{bit_at}
use Rattle.words.proofs.BitLaws.{bit-none}
use Rattle.model.specs.Sound.{SoundPage}
use Rattle.page_base.specs.declared.PageWords.{PageWords}
use Rattle.page_base.specs.Page.{page, cells}
use Rattle.page_check.specs.Promises.{Decides, SoundCells}
use Rattle.page_check.proofs.DecideLaws.{decides-same, decides_eq}

module _ (n cap g : ℕ) (w : PageWords) (ss vs : List ℕ) where
  module _ (occupied_fits : w.occupied < 2 ^ 64) (filled_fits : w.filled < 2 ^ 64) where
    page-of : SoundCells n cap g w (cells ss) → w.kind ≤ 2 → (w.kind ≡ 0 → w.occupied ≡ 0) → (w.kind ≡ 0 → w.filled ≡ 0)
        → ((w.kind ≡ 0 → ⊥) → w.occupied ≡ 0 → ⊥) → (w.kind ≡ 2 → w.filled ≡ w.occupied) → SoundPage n cap g (page w ss vs)
    page-of ok kinds none_occupied none_filled some_occupied dense_filled = record {
      kinds = kinds;
      none_occupied = none_occupied;
      none_filled = none_filled;
      some_occupied = some_occupied;
      named = ok.named;
      filled_by = ok.filled_by;
      once = ok.once;
      here = λ c l u. (ok.cell c l u).here;
      wire = λ c l u. (ok.cell c l u).wire;
      sparse = λ k c l u. (ok.cell c l u).sparse k;
      dense_filled = dense_filled;
      dense_cells = λ k c l u. (ok.cell c l u).dense k;
      occupied_fits = occupied_fits;
      filled_fits = filled_fits;
    }

    -- kind 0, and occupied is 0
    pub none-decides : w.kind ≡ 0 → w.occupied ≡ 0 → Decides (SoundPage n cap g (page w ss vs)) (eqb w.filled 0)
    none-decides k o = decides-same (eqb w.filled 0) (decides_eq w.filled 0)
        (λ e. page-of (no_cells e) (omega arith) (λ _. o) (λ _. e) (λ h. absurd (h k)) (λ d. absurd (omega (arith, k, d))))
        (λ ok. ok.none_filled k)
      where
        unused : w.filled ≡ 0 → (c : ℕ) → bit_at w.filled c ≡ 1 → ⊥
        unused e c u = omega (arith, u, ap (λ (x : ℕ). bit_at x c) e, bit-none c)

        no_cells : w.filled ≡ 0 → SoundCells n cap g w (cells ss)
        no_cells e = record {
          cell = λ c l u. absurd (unused e c u);
          named = λ c l u. absurd (unused e c u);
          filled_by = λ j l b. absurd (omega (arith, b, ap (λ (x : ℕ). bit_at x j) o, bit-none j));
          once = λ c d l m u. absurd (unused e c u);
        }
