-- The loop that passes over the cells in use, from the lowest on, over plain variables. Assumes nothing.
use mathlib.Core.Path.{◌≡◌, sym, ap, ◌∙◌}
use mathlib.Core.Bool.{true, false}
use mathlib.Core.List.{List}
use Prim.Native.Nat.{ℕ, ◌%◌, ◌^◌, ◌<◌}
use native.Mathlib.Omega.{arith}
use native.Mathlib.Decide.{ℕ_discrete}
use lib.Dec.{eqb}
use lib.ListN.{get_or}
use borrow.Author.Tests.{eqb-true, eqb-false}
use Rattle.words.specs.Word.{bit_at, is_set, set_bit, clear_bit, count, lowest}
use Rattle.words.proofs.BitLaws.{bit-lt, bit-none, ext-bits}
use Rattle.words.proofs.ChangeLaws.{with-same, with-other, with-lt}
use Rattle.words.proofs.CountLaws.{count-clear}
use Rattle.words.proofs.LowestLaws.{lowest-is, lowest-some}
use Rattle.page_base.specs.declared.PageWords.{PageWords}
use Rattle.page_base.specs.Page.{cells}
use Rattle.page_base.proofs.PartLaws.{cell_in}
use Rattle.page_check.specs.Promises.{Decides, SoundCell, SoundCells}
use Rattle.page_check.proofs.DecideLaws.{decides-no, decides-same, decides_eq}

-- cell c, which holds sequence s, is one of the rest
pub record Next (f : ℕ → ℕ) (rest c s : ℕ) : Type 0 where
  pub inside : c < 64
  pub held : bit_at rest c ≡ 1
  pub sequence : f c ≡ s

-- the lowest of them
pub next_of : (ss : List ℕ) (rest c : ℕ) → rest < 2 ^ 64 → (rest ≡ 0 → ⊥) → c ≡ lowest rest 0 → Next (cells ss) rest c (get_or ss c 0)
next_of ss rest c l more e =
    let below : c < 64 = omega (arith, e, lowest-some rest l more) in
    record {
      inside = below;
      held = ap (bit_at rest) e ∙ (lowest-is rest 0 (omega arith)).held (lowest-some rest l more);
      sequence = cell_in ss c below;
    }

-- one fewer is left
pub rest-less : (f : ℕ → ℕ) (rest c s : ℕ) → Next f rest c s → count (clear_bit rest c) < count rest
rest-less f rest c s at = omega (arith, count-clear 64 rest c at.inside at.held)

module _ (n cap g : ℕ) (w : PageWords) (f : ℕ → ℕ) where
  -- cell c is in use and was passed: it is not among the rest
  pub record IsPassed (rest c : ℕ) : Type 0 where
    pub inside : c < 64
    pub used : bit_at w.filled c ≡ 1
    pub passed : bit_at rest c ≡ 0

  -- the cells passed are sound, `named` has just their positions, each of one cell
  pub record Passed (rest named : ℕ) : Type 0 where
    pub fits : rest < 2 ^ 64
    pub named-fits : named < 2 ^ 64
    pub part : (c : ℕ) → bit_at rest c ≡ 1 → bit_at w.filled c ≡ 1
    pub cell : (c : ℕ) → IsPassed rest c → SoundCell n cap g w.kind c (f c)
    pub names : (c : ℕ) → IsPassed rest c → bit_at named (f c % 64) ≡ 1
    pub named_by : (j : ℕ) → j < 64 → bit_at named j ≡ 1 → (c : ℕ) × IsPassed rest c × (f c % 64 ≡ j)
    pub once : (c d : ℕ) → IsPassed rest c → IsPassed rest d → f c % 64 ≡ f d % 64 → c ≡ d

  pub passed-begins : w.filled < 2 ^ 64 → Passed w.filled 0
  passed-begins l = record {
    fits = l;
    named-fits = omega arith;
    part = λ c u. u;
    cell = λ c i. absurd (none c i);
    names = λ c i. absurd (none c i);
    named_by = λ j m b. absurd (omega (arith, b, bit-none j));
    once = λ c d i. absurd (none c i);
  }
    where
      none : (c : ℕ) → IsPassed w.filled c → ⊥
      none c i = omega (arith, i.used, i.passed)

  module _ (rest named : ℕ) (t : Passed rest named) where
    -- the next cell, cell c, holds sequence s
    module _ (c s : ℕ) (at : Next f rest c s) where
      used : bit_at w.filled c ≡ 1
      used = t.part c at.held

      position : f c % 64 ≡ s % 64
      position = ap (λ (x : ℕ). x % 64) at.sequence

      -- it is not sound
      pub not_sound : (SoundCell n cap g w.kind c s → ⊥) → SoundCells n cap g w f → ⊥
      not_sound h ok = h (rw at.sequence at (ok.cell c at.inside used))

      -- its position was named already
      pub named-twice : is_set named (s % 64) ≡ true → SoundCells n cap g w f → ⊥
      named-twice b ok =
          let h = t.named_by (s % 64) (omega arith) (eqb-true _ _ b) in
          let e = ok.once h.0 c h.1.inside at.inside h.1.used used (h.2 ∙ sym position) in
          omega (arith, ap (bit_at rest) e, h.1.passed, at.held)

      -- it is sound, and its position was not named
      module _ (sound : SoundCell n cap g w.kind c s) (free : is_set named (s % 64) ≡ false) where
        earlier : (d : ℕ) → IsPassed (clear_bit rest c) d → (d ≡ c → ⊥) → IsPassed rest d
        earlier d i h = record { inside = i.inside; used = i.used; passed = sym (with-other rest c 0 d (omega arith) h) ∙ i.passed }

        later : (d : ℕ) → IsPassed rest d → IsPassed (clear_bit rest c) d
        later d i =
            let h : d ≡ c → ⊥ = λ e. omega (arith, i.passed, ap (bit_at rest) e, at.held) in
            record { inside = i.inside; used = i.used; passed = with-other rest c 0 d (omega arith) h ∙ i.passed }

        -- no cell passed earlier has this position
        apart : (d : ℕ) → IsPassed rest d → f d % 64 ≡ f c % 64 → ⊥
        apart d i e = eqb-false _ _ free (ap (bit_at named) (sym position ∙ sym e) ∙ t.names d i)

        pub passed-turn : Passed (clear_bit rest c) (set_bit named (s % 64))
        passed-turn = record {
          fits = with-lt 64 rest c 0 t.fits at.inside (omega arith);
          named-fits = with-lt 64 named (s % 64) 1 t.named-fits (omega arith) (omega arith);
          part = λ d u. elim (ℕ_discrete d c) [
            | yes e ↦ absurd (omega (arith, u, ap (bit_at (clear_bit rest c)) e, with-same rest c 0 (omega arith)))
            | no e ↦ t.part d (sym (with-other rest c 0 d (omega arith) e) ∙ u)
          ];
          cell = λ d i. elim (ℕ_discrete d c) [
            | yes e ↦ rw (e, at.sequence) sound
            | no e ↦ t.cell d (earlier d i e)
          ];
          names = λ d i. elim (ℕ_discrete (f d % 64) (s % 64)) [
            | yes e ↦ rw e (with-same named (s % 64) 1 (omega arith))
            | no e ↦ with-other named (s % 64) 1 (f d % 64) (omega arith) e ∙ t.names d (earlier d i (λ q. e (ap (λ (x : ℕ). f x % 64) q ∙ position)))
          ];
          named_by = λ j m b. elim (ℕ_discrete j (s % 64)) [
            | yes e ↦ (c, record { inside = at.inside; used = used; passed = with-same rest c 0 (omega arith) }, position ∙ sym e)
            | no e ↦
                let h = t.named_by j m (sym (with-other named (s % 64) 1 j (omega arith) e) ∙ b) in
                (h.0, later h.0 h.1, h.2)
          ];
          once = λ a b i k e. elim (ℕ_discrete a c) [
            | yes x ↦ elim (ℕ_discrete b c) [
              | yes y ↦ x ∙ sym y
              | no y ↦ absurd (apart b (earlier b k y) (sym e ∙ ap (λ (z : ℕ). f z % 64) x))
            ]
            | no x ↦ elim (ℕ_discrete b c) [
              | yes y ↦ absurd (apart a (earlier a i x) (e ∙ ap (λ (z : ℕ). f z % 64) y))
              | no y ↦ t.once a b (earlier a i x) (earlier b k y) e
            ]
          ];
        }

    -- all are passed
    module _ (end : rest ≡ 0) where
      all : (c : ℕ) → c < 64 → bit_at w.filled c ≡ 1 → IsPassed rest c
      all c l u = record { inside = l; used = u; passed = ap (λ (x : ℕ). bit_at x c) end ∙ bit-none c }

      whole : named ≡ w.occupied → SoundCells n cap g w f
      whole e = record {
        cell = λ c l u. t.cell c (all c l u);
        named = λ c l u. ap (λ (x : ℕ). bit_at x (f c % 64)) (sym e) ∙ t.names c (all c l u);
        filled_by = λ j l b.
            let h = t.named_by j l (ap (λ (x : ℕ). bit_at x j) e ∙ b) in
            (h.0, h.1.inside, h.1.used, h.2);
        once = λ c d l m u v e. t.once c d (all c l u) (all d m v) e;
      }

      same : SoundCells n cap g w f → (j : ℕ) → j < 64 → bit_at named j ≡ bit_at w.occupied j
      same ok j l = elim (ℕ_discrete (bit_at named j) 1) [
        | yes b ↦
            let h = t.named_by j l b in
            b ∙ sym (ap (bit_at w.occupied) (sym h.2) ∙ ok.named h.0 h.1.inside h.1.used)
        | no b ↦ elim (ℕ_discrete (bit_at w.occupied j) 1) [
          | yes o ↦
              let h = ok.filled_by j l o in
              absurd (b (ap (bit_at named) (sym h.3) ∙ t.names h.0 (all h.0 h.1 h.2)))
          | no o ↦ omega (arith, bit-lt named j, bit-lt w.occupied j)
        ]
      ]

      pub passed-ends : w.occupied < 2 ^ 64 → Decides (SoundCells n cap g w f) (eqb named w.occupied)
      passed-ends l = decides-same (eqb named w.occupied) (decides_eq named w.occupied) whole
          (λ ok. ext-bits 64 named w.occupied t.named-fits l (same ok))

-- the position of the next cell was named already: the page is not sound
pub not_once : (n cap g : ℕ) (w : PageWords) (ss : List ℕ) (rest named c : ℕ) → Passed n cap g w (cells ss) rest named
    → (rest ≡ 0 → ⊥) → c ≡ lowest rest 0 → is_set named (get_or ss c 0 % 64) ≡ true → Decides (SoundCells n cap g w (cells ss)) false
not_once n cap g w ss rest named c t more e b = decides-no (named-twice n cap g w (cells ss) rest named t c _ (next_of ss rest c t.fits more e) b)

pub ruleset naming = (not_once)
