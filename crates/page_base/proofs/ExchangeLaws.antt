-- An exchange by sequence: what stands afterwards, and soundness. Assumes nothing.
use mathlib.Core.Path.{◌≡◌, refl, sym, ap, ◌∙◌}
use mathlib.Core.Bool.{Bool, true, false, cond}
use mathlib.Core.Option.{Option, none, some}
use Prim.Native.Nat.{ℕ, ◌%◌, ◌<◌}
use native.Mathlib.Decide.{ℕ_discrete}
use lib.Dec.{eqb}
use borrow.Author.Tests.{eq-eqb, ne_eqb}
use Rattle.words.proofs.CaseLaws.{bool}
use Rattle.model.specs.Table.{Pair, pair_of, exchange_at, finds}
use Rattle.model.specs.Window.{Page, cell_of, stands_at}
use Rattle.model.specs.Pages.{set_value}
use Rattle.model.specs.Sound.{Used, SoundPage}
use Rattle.page_base.specs.Page.{Placed}
use Rattle.page_base.specs.Promises.{exchanged}
use Rattle.page_base.proofs.PlaceLaws.{placed, all_here, sound-of}
use Rattle.page_base.proofs.StandLaws.{In, stands-cell, stands_same}
use Rattle.page_base.proofs.ReadLaws.{Found, found-cell, finds-at}

-- ---- one position, by whether the sequence is found there

-- position r gets y, which is x if the sequence is found there, and else o
module _ (j r : ℕ) (x y o : Option Pair) (b : Bool) (is : y ≡ cond b x o) where
  pub at-found : (j ≡ r → b ≡ true) → cond (eqb j r) x o ≡ cond (eqb j r) y o
  at-found f = elim (ℕ_discrete j r) [
    | yes e ↦ rw (eq-eqb j r e) (sym (is ∙ ap (λ (t : Bool). cond t x o) (f e)))
    | no e ↦ rw (ne_eqb j r e)
  ]

  pub at-absent : (j ≡ r → b ≡ false) → o ≡ cond (eqb j r) y o
  at-absent f = elim (ℕ_discrete j r) [
    | yes e ↦ rw (eq-eqb j r e) (sym (is ∙ ap (λ (t : Bool). cond t x o) (f e)))
    | no e ↦ rw (ne_eqb j r e)
  ]

exchange-at : (s v : ℕ) (o : Option Pair) → exchange_at s v o ≡ cond (finds s o) (some (pair_of s v)) o
exchange-at s v none = refl
exchange-at s v (some e) = refl

-- ---- an exchange

pub exchange-cases : (p : Page) (s v : ℕ) (B : Page → Type 0)
    → (finds s (stands_at p (s % 64)) ≡ true → (c : ℕ) → Found p s c → B (set_value p c v))
    → (finds s (stands_at p (s % 64)) ≡ false → B p) → B (exchanged p s v)
unfolding exchanged
exchange-cases p s v B f g =
    bool (finds s (stands_at p (s % 64))) (λ t. rw t (f t (cell_of p (s % 64)) (found-cell p s t))) (λ t. rw t (g t))

pub value-placed : (n : ℕ) (p : Page) (c v : ℕ) → Placed n p → Placed n (set_value p c v)
value-placed n p c v ok = record {
  kinds = ok.kinds;
  none_occupied = ok.none_occupied;
  none_filled = ok.none_filled;
  named = ok.named;
  filled_by = ok.filled_by;
  once = ok.once;
  sparse = ok.sparse;
  dense_filled = ok.dense_filled;
  dense_cells = ok.dense_cells;
  occupied_fits = ok.occupied_fits;
  filled_fits = ok.filled_fits;
}

module _ (n : ℕ) (p : Page) (ok : Placed n p) (v : ℕ) where
  pub value-stands : (c : ℕ) → c < 64 → Used p c → (j : ℕ) → j < 64
      → stands_at (set_value p c v) j ≡ cond (eqb j (p.sequences c % 64)) (some (pair_of (p.sequences c) v)) (stands_at p j)
  value-stands c l u j m =
      elim (ℕ_discrete j (p.sequences c % 64)) [
        | yes e ↦ rw (eq-eqb j (p.sequences c % 64) e) (stands-cell n (set_value p c v) (value-placed n p c v ok) c j l u (sym e) ∙ rw (eq-eqb c c refl))
        | no e ↦ rw (ne_eqb j (p.sequences c % 64) e) (stands_same n n j p (set_value p c v) ok (value-placed n p c v ok) m refl (other e))
      ]
    where
      other : (j ≡ p.sequences c % 64 → ⊥) → (d : ℕ) → d < 64 → Used p d → p.sequences d % 64 ≡ j → In (set_value p c v) (p.sequences d) (p.values d)
      other e d k w q = record {
        cell = d;
        inside = k;
        used = w;
        sequence = refl;
        value = rw (ne_eqb d c (λ z. e (sym q ∙ ap (λ (x : ℕ). p.sequences x % 64) z)));
      }

  pub exchange-stands : (s j : ℕ) → j < 64 → stands_at (exchanged p s v) j ≡ cond (eqb j (s % 64)) (exchange_at s v (stands_at p j)) (stands_at p j)
  exchange-stands s j l =
      exchange-cases p s v (λ (q : Page). stands_at q j ≡ cond (eqb j (s % 64)) (exchange_at s v (stands_at p j)) (stands_at p j))
      (λ t c f.
      value-stands c f.inside f.used j l
      ∙ ap (λ (x : ℕ). cond (eqb j (x % 64)) (some (pair_of x v)) (stands_at p j)) f.sequence
      ∙ at-found j (s % 64) (some (pair_of s v)) (exchange_at s v (stands_at p j)) (stands_at p j) (finds s (stands_at p j)) (exchange-at s v (stands_at p j)) (finds-at p s true t j))
      (λ t. at-absent j (s % 64) (some (pair_of s v)) (exchange_at s v (stands_at p j)) (stands_at p j) (finds s (stands_at p j)) (exchange-at s v (stands_at p j)) (finds-at p s false t j))

  pub exchange-placed : (s : ℕ) → Placed n (exchanged p s v)
  exchange-placed s = exchange-cases p s v (Placed n) (λ t c f. value-placed n p c v ok) (λ t. ok)

pub exchange-sound : (n cap g : ℕ) (p : Page) (s v : ℕ) → SoundPage n cap g p → SoundPage n cap g (exchanged p s v)
exchange-sound n cap g p s v sound =
    exchange-cases p s v (SoundPage n cap g)
    (λ t c f. sound-of n cap g (set_value p c v) (value-placed n p c v (placed n cap g p sound)) sound.some_occupied (all_here n cap g p sound))
    (λ t. sound)
