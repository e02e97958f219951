-- The positions that hold a live value, bit by bit, and those that taking out values and retiring clear. Assumes nothing.
use mathlib.Core.Path.{◌≡◌, refl, sym, ap, ◌∙◌}
use mathlib.Core.Bool.{Bool, true, false, cond, not, ◌&&◌, ◌||◌, true≢false}
use Prim.Native.Nat.{ℕ, zero, suc, ◌+◌, ◌*◌, ◌/◌, ◌%◌, ◌≤◌, ◌<◌}
use native.Mathlib.Omega.{arith}
use native.Mathlib.Decide.{ℕ_discrete}
use lib.Dec.{leb, ltb}
use borrow.Author.Tests.{eq-eqb, ne_eqb, le-leb, lt-ltb, eqb-true, eqb-false, leb-true, ltb-true}
use Rattle.words.proofs.CaseLaws.{bool, both}
use Rattle.words.specs.Word.{bit_at, is_set, clear_bit}
use Rattle.words.proofs.BitLaws.{bit-lt, bit-none}
use Rattle.words.proofs.ChangeLaws.{with-same, with-other}
use Rattle.words.proofs.TestLaws.{word_set}
use Rattle.model.specs.Window.{Page, Block, Window, pages_of, capacity_of, is_retired, cell_of}
use Rattle.model.specs.Pages.{PageDrained, drain_page, take_cell_of, holds_value, after_removal}
use Rattle.model.specs.Steps.{note_nonempty, remove_slots_of, pages_in, retire_in_block, retire_block_of}
use Rattle.page_base.specs.Page.{Placed}
use Rattle.page_base.proofs.PlaceLaws.{cell-some, cell-used, take-placed, placed}
use Rattle.page_remove.proofs.StandLaws.{after-cases, packed-occupied}
use Rattle.laws_soundness.proofs.SplitLaws.{unnoted-empty}
use Rattle.laws_soundness.specs.Retire.{with_block_marks, Retiring}
use Rattle.block_retire.proofs.InBlockLaws.{new_at, split_marks, new_block, in_block, in-block-is}

-- position q holds a live value: 1 or 0
abbrev pub live_bit : Window → ℕ → ℕ
live_bit w q = cond (is_retired w (q / 64)) 0 (bit_at (w.pages (q / 64)).occupied (q % 64))

-- of the positions below cap, those in S hold no live value in v, and the others what they hold in w
pub record Clears (cap : ℕ) (w v : Window) (S : ℕ → Type 0) : Type 0 where
  pub gone : (q : ℕ) → q < cap → S q → live_bit v q ≡ 0
  pub kept : (q : ℕ) → q < cap → (S q → ⊥) → live_bit v q ≡ live_bit w q

pub clears-as : (cap : ℕ) (w v : Window) (S T : ℕ → Type 0) → ((q : ℕ) → q < cap → T q → S q) → ((q : ℕ) → q < cap → S q → T q) → Clears cap w v S → Clears cap w v T
clears-as cap w v S T f g t = record { gone = λ q l i. t.gone q l (f q l i); kept = λ q l n. t.kept q l (λ i. n (g q l i)) }

-- ---- a page drained

module _ (n : ℕ) (P : ℕ → Bool) where
  -- the positions before those that are drained
  bits_below : (m j k : ℕ) (p : Page) → j + m ≤ 64 → Placed n p → (i : ℕ) → i < j → bit_at (drain_page m j P k p).page.occupied i ≡ bit_at p.occupied i
  unfolding drain_page
  bits_below zero j k p l ok i b = refl
  bits_below (suc m) j zero p l ok i b = refl
  bits_below (suc m) j (suc k) p l ok i b =
      bool (P j && is_set p.occupied j)
      (λ e.
      let c = cell_of p j in
      let s = cell-some n p ok j (omega arith) (eqb-true (bit_at p.occupied j) 1 (both (P j) (is_set p.occupied j) e).1) in
      let u = cell-used p j s in
      rw (e, drain_page) (bits_below m (suc j) k (take_cell_of p c) (omega arith) (take-placed n p ok c s u.0) i (omega arith)
      ∙ with-other p.occupied (p.sequences c % 64) 0 i (omega arith) (λ z. omega (arith, u.1))))
      (λ e. rw (e, drain_page) (bits_below m (suc j) (suc k) p (omega arith) ok i (omega arith)))

  bits-drained : (m j k : ℕ) (p : Page) → j + m ≤ 64 → m ≤ k → Placed n p → (i : ℕ) → j ≤ i → i < j + m
      → bit_at (drain_page m j P k p).page.occupied i ≡ cond (P i) 0 (bit_at p.occupied i)
  unfolding drain_page
  bits-drained zero j k p l few ok i a b = absurd (omega arith)
  bits-drained (suc m) j zero p l few ok i a b = absurd (omega arith)
  bits-drained (suc m) j (suc k) p l few ok i a b =
      bool (P j && is_set p.occupied j)
      (λ e.
      let t = both (P j) (is_set p.occupied j) e in
      let c = cell_of p j in
      let s = cell-some n p ok j (omega arith) (eqb-true (bit_at p.occupied j) 1 t.1) in
      let u = cell-used p j s in
      let q = take_cell_of p c in
      rw (e, drain_page)
      (elim (ℕ_discrete i j) [
        | yes z ↦
            bits_below m (suc j) k q (omega arith) (take-placed n p ok c s u.0) i (omega arith)
            ∙ ap (λ (x : ℕ). bit_at (clear_bit p.occupied (p.sequences c % 64)) x) (z ∙ sym u.1) ∙ with-same p.occupied (p.sequences c % 64) 0 (omega arith)
            ∙ rw (z, t.0)
        | no z ↦
            bits-drained m (suc j) k q (omega arith) (omega arith) (take-placed n p ok c s u.0) i (omega arith) (omega arith)
            ∙ ap (cond (P i) 0) (with-other p.occupied (p.sequences c % 64) 0 i (omega arith) (λ y. z (y ∙ u.1)))
      ]))
      (λ e.
      rw (e, drain_page)
      (elim (ℕ_discrete i j) [
        | yes z ↦ bits_below m (suc j) (suc k) p (omega arith) ok i (omega arith) ∙ rw z (unselected j e)
        | no z ↦ bits-drained m (suc j) (suc k) p (omega arith) (omega arith) ok i (omega arith) (omega arith)
      ]))
    where
      unselected : (x : ℕ) → P x && is_set p.occupied x ≡ false → bit_at p.occupied x ≡ cond (P x) 0 (bit_at p.occupied x)
      unselected x e = bool (P x) (λ y. rw y (omega (arith, eqb-false (bit_at p.occupied x) 1 (rw y at e), bit-lt p.occupied x))) (λ y. rw y)

-- a removal that is settled has the same positions
after-occupied : (p : Page) (d : ℕ) → (after_removal d p).occupied ≡ p.occupied
after-occupied p d = after-cases (λ (q : Page). q.occupied ≡ p.occupied) p d (λ k o few. packed-occupied p) (λ e. sym e) (λ o more. refl)

-- ---- positions of one page

module _ (w : Window) (g : ℕ) (P : ℕ → Bool) (ok : Retiring w) (below : g < pages_of w) where
  abbrev d : PageDrained
  d = drain_page 64 0 P 64 (w.pages g)

  abbrev v : Window
  v = (remove_slots_of w g P).after

  at_place : Placed w.header.n (w.pages g)
  at_place = placed w.header.n (capacity_of w) g (w.pages g) (ok.proper.sound.page g below)

  -- the marks stay
  same-retired : (h : ℕ) → is_retired (remove_slots_of w g P).after h ≡ is_retired w h
  unfolding remove_slots_of note_nonempty
  same-retired h =
      bool (is_retired w g || not (holds_value (w.pages g)))
      (λ e. rw e)
      (λ e. rw e (elim (ℕ_discrete (h / 64) (g / 64)) [
        | yes z ↦ rw (eq-eqb (h / 64) (g / 64) z, z, eq-eqb (g / 64) (g / 64) refl)
        | no z ↦ rw (ne_eqb (h / 64) (g / 64) z)
      ]))

  other-page : (h : ℕ) → (h ≡ g → ⊥) → (remove_slots_of w g P).after.pages h ≡ w.pages h
  unfolding remove_slots_of note_nonempty
  other-page h n = bool (is_retired w g || not (holds_value (w.pages g))) (λ e. rw e) (λ e. rw (e, ne_eqb h g n))

  own_page : is_retired w g ≡ false → ((w.pages g).occupied ≡ 0 → ⊥) → ((remove_slots_of w g P).after.pages g).occupied ≡ d.page.occupied
  unfolding remove_slots_of note_nonempty
  own_page r o = rw (r, ne_eqb (w.pages g).occupied 0 o, eq-eqb g g refl) (after-occupied d.page w.header.demote_at)

  empty-page : (w.pages g).occupied ≡ 0 → (remove_slots_of w g P).after.pages g ≡ w.pages g
  unfolding remove_slots_of
  empty-page z = bool (is_retired w g) (λ e. rw e) (λ e. rw (e, eq-eqb (w.pages g).occupied 0 z))

  -- what position j of the page is then
  own-bit : is_retired w g ≡ false → (j : ℕ) → j < 64 → bit_at ((remove_slots_of w g P).after.pages g).occupied j ≡ cond (P j) 0 (bit_at (w.pages g).occupied j)
  own-bit r j l =
      elim (ℕ_discrete (w.pages g).occupied 0) [
        | yes z ↦
            ap (λ (x : Page). bit_at x.occupied j) (empty-page z)
            ∙ bool (P j) (λ e. rw (e, z, bit-none j)) (λ e. rw e)
        | no z ↦ ap (λ (x : ℕ). bit_at x j) (own_page r z) ∙ bits-drained w.header.n P 64 0 64 (w.pages g) (omega arith) (omega arith) at_place j (omega arith) (omega arith)
      ]

  live-there : (q : ℕ) → q / 64 ≡ g → live_bit (remove_slots_of w g P).after q ≡ cond (P (q % 64)) 0 (live_bit w q)
  live-there q e =
      bool (is_retired w g)
      (λ r. rw (e, same-retired g, r) (bool (P (q % 64)) (λ t. rw t) (λ t. rw t)))
      (λ r. rw (e, same-retired g, r) (own-bit r (q % 64) (omega arith)))

  pub slots-clear : (cap : ℕ) → Clears cap w (remove_slots_of w g P).after (λ (q : ℕ). (q / 64 ≡ g) × (P (q % 64) ≡ true))
  slots-clear cap = record {
    gone = λ q l i. live-there q i.0 ∙ rw i.1;
    kept = λ q l n. elim (ℕ_discrete (q / 64) g) [
      | yes e ↦ live-there q e ∙ bool (P (q % 64)) (λ t. absurd (n (e, t))) (λ t. rw t)
      | no e ↦ (λ i. cond (same-retired (q / 64) i) 0 (bit_at (other-page (q / 64) e i).occupied (q % 64)))
    ];
  }

-- ---- a whole block

pub block-clear : (cap : ℕ) (w : Window) (b : ℕ) → Clears cap w (retire_block_of w b) (λ (q : ℕ). q / 64 / 64 ≡ b)
unfolding retire_block_of
block-clear cap w b = record {
  gone = λ q l e. rw (e, with-same w.header.retired_blocks b 1 (omega arith));
  kept = λ q l n. rw (with-other w.header.retired_blocks b 1 (q / 64 / 64) (omega arith) n, ne_eqb (q / 64 / 64) b n);
}

-- ---- pages of a block

-- what is live of a bit x: m, the block is marked; s, the page is; n, the page holds a value; p, it is one of those retired
marked-bit : (m s n p : Bool) (r : Bool) (x : ℕ) → r ≡ cond m n s → (n ≡ false → x ≡ 0) → cond (r || (p && (n && not r))) 0 x ≡ cond p 0 (cond (m || s) 0 x)
marked-bit m s true p r x e z = bool m
    (λ y. rw (e, y) (bool p (λ t. rw t) (λ t. rw t)))
    (λ y. rw (e, y) (bool s (λ u. rw u (bool p (λ t. rw t) (λ t. rw t))) (λ u. rw u (bool p (λ t. rw t) (λ t. rw t)))))
marked-bit m s false p r x e z =
    rw (z refl) (bool (r || (p && (false && not r))) (λ t. rw t (none m s p)) (λ t. rw t (none m s p)))
  where
    none : (m s p : Bool) → ◌≡◌ {A = ℕ} 0 (cond p 0 (cond (m || s) 0 0))
    none m s p = bool p (λ t. rw t) (λ t. rw t (bool (m || s) (λ u. rw u) (λ u. rw u)))

-- the marks that the block then has
new-marks : (pages : ℕ → Page) (x : Block) (m : Bool) (from to b i : ℕ) → i < 64
    → is_set (new_block pages x m from to b).retired i ≡ (is_set (split_marks pages x m from to b) i || new_at pages x m from to b i)
unfolding new_block
new-marks pages x m from to b i l = word_set (λ (j : ℕ). is_set (split_marks pages x m from to b) j || new_at pages x m from to b j) i l

module _ (w : Window) (from to b : ℕ) (ok : Retiring w) where
  abbrev rb : ℕ
  rb = w.header.retired_blocks

  -- page i of the block, marked or not
  own_bits : (q : ℕ) → q / 64 / 64 ≡ b → live_bit (retire_in_block w from to b) q ≡ cond (pages_in from to b (q / 64 % 64)) 0 (live_bit w q)
  own_bits q e =
      let i = q / 64 % 64 in
      let x = w.blocks b in
      let m = is_set rb b in
      let there : 64 * (q / 64 / 64) + i ≡ q / 64 = omega arith in
      let mark : is_set (clear_bit rb b) b ≡ false = ne_eqb (bit_at (clear_bit rb b) b) 1 (λ z. omega (arith, z, with-same rb b 0 (omega arith))) in
      let empty : is_set x.nonempty i ≡ false → bit_at (w.pages (q / 64)).occupied (q % 64) ≡ 0 = λ z.
      ap (λ (y : ℕ). bit_at y (q % 64)) (unnoted-empty (with_block_marks w ok.marks) ok.proper (q / 64) (λ y. true≢false (sym (ap (λ (c : ℕ). is_set (w.blocks c).nonempty i) (sym e) ∙ eq-eqb _ 1 y) ∙ z))) ∙ bit-none (q % 64) in
      ap (λ (u : Window). live_bit u q) (in-block-is w from to b)
      ∙ ap (λ (t : Bool). cond t 0 (bit_at (w.pages (q / 64)).occupied (q % 64))) (after-marks q e mark)
      ∙ marked-bit m (is_set x.retired i) (is_set x.nonempty i) (pages_in from to b i) (is_set (split_marks w.pages x m from to b) i) (bit_at (w.pages (q / 64)).occupied (q % 64)) (split-bit m i) empty
      ∙ ap (λ (c : ℕ). cond (pages_in from to b i) 0 (cond (is_set rb c || is_set (w.blocks c).retired i) 0 (bit_at (w.pages (q / 64)).occupied (q % 64)))) (sym e)
    where
      split-bit : (m : Bool) (i : ℕ) → is_set (split_marks w.pages (w.blocks b) m from to b) i ≡ cond m (is_set (w.blocks b).nonempty i) (is_set (w.blocks b).retired i)
      split-bit true i = refl
      split-bit false i = refl

      after-marks : (q : ℕ) → q / 64 / 64 ≡ b → is_set (clear_bit rb b) b ≡ false
          → is_retired (in_block w from to b) (q / 64) ≡ (is_set (split_marks w.pages (w.blocks b) (is_set rb b) from to b) (q / 64 % 64) || new_at w.pages (w.blocks b) (is_set rb b) from to b (q / 64 % 64))
      after-marks q e mark = rw (e, eq-eqb b b refl, mark) (new-marks w.pages (w.blocks b) (is_set rb b) from to b (q / 64 % 64) (omega arith))

  other-bits : (q : ℕ) → (q / 64 / 64 ≡ b → ⊥) → live_bit (retire_in_block w from to b) q ≡ live_bit w q
  other-bits q n =
      ap (λ (u : Window). live_bit u q) (in-block-is w from to b)
      ∙ rw (with-other rb b 0 (q / 64 / 64) (omega arith) n, ne_eqb (q / 64 / 64) b n)

  pub in-block-clear : (cap : ℕ) → Clears cap w (retire_in_block w from to b) (λ (q : ℕ). (q / 64 / 64 ≡ b) × (from ≤ q / 64) × (q / 64 < to))
  in-block-clear cap = record {
    gone = λ q l i.
        let y : 64 * b + q / 64 % 64 ≡ q / 64 = omega (arith, i.0) in
        own_bits q i.0 ∙ rw (y, le-leb from (q / 64) i.1, lt-ltb (q / 64) to i.2);
    kept = λ q l n. elim (ℕ_discrete (q / 64 / 64) b) [
      | yes e ↦
          let y : 64 * b + q / 64 % 64 ≡ q / 64 = omega (arith, e) in
          own_bits q e ∙ rw y (bool (leb from (q / 64) && ltb (q / 64) to)
          (λ t. absurd (n (e, leb-true from (q / 64) (both (leb from (q / 64)) (ltb (q / 64) to) t).0, ltb-true (q / 64) to (both (leb from (q / 64)) (ltb (q / 64) to) t).1)))
          (λ t. rw t))
      | no e ↦ other-bits q e
    ];
  }
