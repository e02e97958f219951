-- What stands at each position of a page: after a cell is taken out of use, after packing, and after a removal. Assumes nothing.
use mathlib.Core.Path.{◌≡◌, refl, sym, ap, ◌∙◌}
use mathlib.Core.Bool.{true, false, true≢false, cond, not}
use mathlib.Core.Option.{none}
use Prim.Native.Nat.{ℕ, ◌+◌, ◌%◌, ◌≤◌, ◌<◌}
use native.Mathlib.Omega.{arith}
use native.Mathlib.Decide.{ℕ_discrete, dec_lt}
use lib.Dec.{eqb}
use borrow.Author.Tests.{eq-eqb, ne_eqb, eqb-true, eqb-false, lt-ltb, leb-true, leb-false}
use Rattle.words.proofs.CaseLaws.{bool, both}
use Rattle.words.specs.Word.{bit_at, clear_bit, count, count_below, span}
use Rattle.words.proofs.BitLaws.{bit-none}
use Rattle.words.proofs.ChangeLaws.{with-same, with-other}
use Rattle.words.proofs.CountLaws.{count-le, count-clear}
use Rattle.words.proofs.SpanLaws.{span-in, span-above, span-lt}
use Rattle.model.specs.Window.{Page, stands_at}
use Rattle.model.specs.Pages.{words, take_cell_of, nth_set, packed, unless_emptied_of, demotes, after_removal}
use Rattle.model.specs.Sound.{Used}
use Rattle.page_base.specs.Page.{Placed}
use Rattle.page_base.proofs.StandLaws.{stands-none, stands_same}
use Rattle.page_base.proofs.PlaceLaws.{take-placed}
use Rattle.page_remove.proofs.NthLaws.{IsNth, nth-is, nth-eq, nth-lt}

-- ---- a cell taken out of use

-- a bit that is set after another was cleared
pub clear-fewer : (w k j : ℕ) → bit_at (clear_bit w k) j ≡ 1 → bit_at w j ≡ 1
clear-fewer w k j b =
    elim (ℕ_discrete j k) [
      | yes e ↦ absurd (omega (arith, with-same w k 0 (omega arith), ap (bit_at (clear_bit w k)) e))
      | no e ↦ sym (with-other w k 0 j (omega arith) e) ∙ b
    ]

module _ (n : ℕ) (p : Page) (ok : Placed n p) (c : ℕ) (l : c < 64) (u : Used p c) where
  gone : stands_at (take_cell_of p c) (p.sequences c % 64) ≡ none
  gone = stands-none n (take_cell_of p c) (take-placed n p ok c l u) (p.sequences c % 64) (with-same p.occupied (p.sequences c % 64) 0 (omega arith))

  kept : (j : ℕ) → j < 64 → (j ≡ p.sequences c % 64 → ⊥) → stands_at (take_cell_of p c) j ≡ stands_at p j
  kept j m q =
      stands_same n n j p (take_cell_of p c) ok (take-placed n p ok c l u) m (with-other p.occupied (p.sequences c % 64) 0 j (omega arith) q)
      (λ d k v e. record {
        cell = d;
        inside = k;
        used = with-other p.filled c 0 d (omega arith) (λ z. q (sym e ∙ ap (λ (x : ℕ). p.sequences x % 64) z)) ∙ v;
        sequence = refl;
        value = refl;
      })

  pub take-stands : (j : ℕ) → j < 64 → stands_at (take_cell_of p c) j ≡ cond (eqb j (p.sequences c % 64)) none (stands_at p j)
  take-stands j m =
      elim (ℕ_discrete j (p.sequences c % 64)) [
        | yes e ↦ rw (eq-eqb j (p.sequences c % 64) e) (ap (stands_at (take_cell_of p c)) e ∙ gone)
        | no e ↦ rw (ne_eqb j (p.sequences c % 64) e) (kept j m e)
      ]

  -- one value fewer
  pub take_count : count (take_cell_of p c).occupied + 1 ≡ count p.occupied
  take_count = count-clear 64 p.occupied (p.sequences c % 64) (omega arith) (ok.named c l u)

-- ---- a dense page packed

module _ (p : Page) where
  pub packed-kind : (packed p).kind ≡ 1
  unfolding packed
  packed-kind = refl

  pub packed-occupied : (packed p).occupied ≡ p.occupied
  unfolding packed
  packed-occupied = refl

  pub packed-filled : (packed p).filled ≡ span 0 (count p.occupied)
  unfolding packed
  packed-filled = refl

  pub packed-sequence : (c : ℕ) → c < count p.occupied → (packed p).sequences c ≡ p.sequences (nth_set p.occupied c)
  unfolding packed
  packed-sequence c l = rw (lt-ltb c (count p.occupied) l)

  pub packed-value : (c : ℕ) → c < count p.occupied → (packed p).values c ≡ p.values (nth_set p.occupied c)
  unfolding packed
  packed-value c l = rw (lt-ltb c (count p.occupied) l)

  -- just the first cells are in use
  pub packed-used : (c : ℕ) → Used (packed p) c → c < count p.occupied
  packed-used c u =
      let b : bit_at (span 0 (count p.occupied)) c ≡ 1 = ap (λ (w : ℕ). bit_at w c) (sym packed-filled) ∙ u in
      elim (dec_lt c (count p.occupied)) [
        | yes l ↦ l
        | no l ↦ absurd (omega (arith, span-above 0 (count p.occupied) c (omega arith)))
      ]

  packed-uses : (c : ℕ) → c < count p.occupied → Used (packed p) c
  packed-uses c l = ap (λ (w : ℕ). bit_at w c) packed-filled ∙ span-in 0 (count p.occupied) c (omega arith) l

module _ (n : ℕ) (p : Page) (ok : Placed n p) (dense : p.kind ≡ 2) where
  -- an occupied position is the cell in use
  dense-used : (j : ℕ) → bit_at p.occupied j ≡ 1 → Used p j
  dense-used j b = ap (λ (w : ℕ). bit_at w j) (ok.dense_filled dense) ∙ b

  -- the value of a packed cell in use was in the cell of its position
  pub packed-from : (c : ℕ) → c < count p.occupied → Used p (nth_set p.occupied c)
  packed-from c l = dense-used (nth_set p.occupied c) (nth-is p.occupied c l).set

  packed-at : (c : ℕ) → c < count p.occupied → (packed p).sequences c % 64 ≡ nth_set p.occupied c
  packed-at c l =
      ap (λ (s : ℕ). s % 64) (packed-sequence p c l)
      ∙ ok.dense_cells dense (nth_set p.occupied c) (nth-is p.occupied c l).inside (packed-from c l)

  -- the packed cell of an occupied position
  packed-cell : (j : ℕ) → j < 64 → bit_at p.occupied j ≡ 1 → (c : ℕ) × (c < count p.occupied) × (nth_set p.occupied c ≡ j)
  packed-cell j l b =
      let c = count_below j p.occupied in
      let i : IsNth p.occupied c j = record { inside = l; set = b; below = refl } in
      (c, nth-lt p.occupied c j i, nth-eq p.occupied c j i)

  pub packed-placed : (m : ℕ) → count p.occupied ≤ m → Placed m (packed p)
  packed-placed m few = record {
    kinds = omega (arith, packed-kind p);
    none_occupied = λ e. absurd (omega (arith, packed-kind p));
    none_filled = λ e. absurd (omega (arith, packed-kind p));
    named = λ c l u.
        let k = packed-used p c u in
        ap (λ (w : ℕ). bit_at w ((packed p).sequences c % 64)) (packed-occupied p) ∙ ap (bit_at p.occupied) (packed-at c k) ∙ (nth-is p.occupied c k).set;
    filled_by = λ j l b.
        let f = packed-cell j l (ap (λ (w : ℕ). bit_at w j) (sym (packed-occupied p)) ∙ b) in
        (f.0, omega (arith, f.1, count-le 64 p.occupied), packed-uses p f.0 f.1, packed-at f.0 f.1 ∙ f.2);
    once = λ c d k l u v e.
        let x = packed-used p c u in
        let y = packed-used p d v in
        let z : nth_set p.occupied c ≡ nth_set p.occupied d = sym (packed-at c x) ∙ e ∙ packed-at d y in
        sym (nth-is p.occupied c x).below ∙ ap (λ (q : ℕ). count_below q p.occupied) z ∙ (nth-is p.occupied d y).below;
    sparse = λ e c l u. omega (arith, packed-used p c u);
    dense_filled = λ e. absurd (omega (arith, packed-kind p));
    dense_cells = λ e. absurd (omega (arith, packed-kind p));
    occupied_fits = omega (arith, packed-occupied p, ok.occupied_fits);
    filled_fits = omega (arith, packed-filled p, span-lt 64 0 (count p.occupied) (count-le 64 p.occupied));
  }

  pub packed-stands : (j : ℕ) → j < 64 → stands_at (packed p) j ≡ stands_at p j
  packed-stands j l =
      stands_same n 64 j p (packed p) ok (packed-placed 64 (count-le 64 p.occupied)) l (ap (λ (w : ℕ). bit_at w j) (packed-occupied p))
      (λ c m u e.
      let f = packed-cell c m (ap (λ (w : ℕ). bit_at w c) (sym (ok.dense_filled dense)) ∙ u) in
      record {
        cell = f.0;
        inside = omega (arith, f.1, count-le 64 p.occupied);
        used = packed-uses p f.0 f.1;
        sequence = packed-sequence p f.0 f.1 ∙ ap p.sequences f.2;
        value = packed-value p f.0 f.1 ∙ ap p.values f.2;
      })

-- ---- an emptied page

pub emptied-placed : (n : ℕ) (p : Page) → Placed n (words 0 0 0 p)
emptied-placed n p = record {
  kinds = omega arith;
  none_occupied = λ e. refl;
  none_filled = λ e. refl;
  named = λ c l u. absurd (omega (arith, bit-none c));
  filled_by = λ j l b. absurd (omega (arith, bit-none j));
  once = λ c d k l u v e. absurd (omega (arith, bit-none c));
  sparse = λ e c l u. absurd (omega (arith, bit-none c));
  dense_filled = λ e. refl;
  dense_cells = λ e c l u. absurd (omega (arith, bit-none c));
  occupied_fits = omega arith;
  filled_fits = omega arith;
}

pub emptied-stands : (n : ℕ) (p : Page) → Placed n p → p.occupied ≡ 0 → (j : ℕ) → stands_at (words 0 0 0 p) j ≡ stands_at p j
emptied-stands n p ok e j =
    stands-none n (words 0 0 0 p) (emptied-placed n p) j (bit-none j) ∙ sym (stands-none n p ok j (ap (λ (w : ℕ). bit_at w j) e ∙ bit-none j))

-- ---- after a removal

module _ (B : Page → Type 0) (p : Page) where
  -- an emptied page, or the page itself
  pub unless-cases : (p.occupied ≡ 0 → B (words 0 0 0 p)) → ((p.occupied ≡ 0 → ⊥) → B p) → B (unless_emptied_of p)
  unless-cases f g = bool (eqb p.occupied 0) (λ e. rw e (f (eqb-true p.occupied 0 e))) (λ e. rw e (g (eqb-false p.occupied 0 e)))

  -- a dense page of few values, an emptied one, or the page itself
  pub after-cases : (d : ℕ) → (p.kind ≡ 2 → (p.occupied ≡ 0 → ⊥) → count p.occupied ≤ d → B (packed p)) → (p.occupied ≡ 0 → B (words 0 0 0 p))
      → ((p.occupied ≡ 0 → ⊥) → (p.kind ≡ 2 → d < count p.occupied) → B p) → B (after_removal d p)
  after-cases d f g h =
      bool (demotes d p)
      (λ e.
      let t = both (eqb p.kind 2) _ e in
      let r = both _ _ t.1 in
      rw e (f (eqb-true p.kind 2 t.0) (held r.0) (leb-true (count p.occupied) d r.1)))
      (λ e. rw e (unless-cases g (λ o. h o (more e o))))
    where
      held : not (eqb p.occupied 0) ≡ true → p.occupied ≡ 0 → ⊥
      held t e = true≢false (sym t ∙ ap not (eq-eqb p.occupied 0 e))

      more : demotes d p ≡ false → (p.occupied ≡ 0 → ⊥) → p.kind ≡ 2 → d < count p.occupied
      more e o k = leb-false (count p.occupied) d (rw (eq-eqb p.kind 2 k, ne_eqb p.occupied 0 o) at e)

module _ (n : ℕ) (p : Page) (ok : Placed n p) (d : ℕ) where
  pub after-stands : (j : ℕ) → j < 64 → stands_at (after_removal d p) j ≡ stands_at p j
  after-stands j l =
      after-cases (λ (q : Page). stands_at q j ≡ stands_at p j) p d
      (λ k o few. packed-stands n p ok k j l) (λ e. emptied-stands n p ok e j) (λ o more. refl)

  pub after-placed : d ≤ n → Placed n (after_removal d p)
  after-placed m =
      after-cases (Placed n) p d (λ k o few. packed-placed n p ok k n (omega arith)) (λ e. emptied-placed n p) (λ o more. ok)

module _ (n : ℕ) (p : Page) (ok : Placed n p) where
  pub unless-stands : (j : ℕ) → stands_at (unless_emptied_of p) j ≡ stands_at p j
  unless-stands j = unless-cases (λ (q : Page). stands_at q j ≡ stands_at p j) p (λ e. emptied-stands n p ok e j) (λ o. refl)

  pub unless-placed : Placed n (unless_emptied_of p)
  unless-placed = unless-cases (Placed n) p (λ e. emptied-placed n p) (λ o. ok)

-- the number of values stays
module _ (p : Page) where
  pub unless-count : count (unless_emptied_of p).occupied ≡ count p.occupied
  unless-count = unless-cases (λ (q : Page). count q.occupied ≡ count p.occupied) p (λ e. ap count (sym e)) (λ o. refl)

  pub after-count : (d : ℕ) → count (after_removal d p).occupied ≡ count p.occupied
  after-count d =
      after-cases (λ (q : Page). count q.occupied ≡ count p.occupied) p d
      (λ k o few. ap count (packed-occupied p)) (λ e. ap count (sym e)) (λ o more. refl)

  -- a page that stays dense has more values
  pub after-dense : (d : ℕ) → (after_removal d p).kind ≡ 2 → d < count (after_removal d p).occupied
  after-dense d =
      after-cases (λ (q : Page). q.kind ≡ 2 → d < count q.occupied) p d
      (λ k o few e. absurd (omega (arith, packed-kind p))) (λ e k. absurd (omega arith)) (λ o more k. more k)
