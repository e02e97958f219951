-- Blocks retired with one bit each: the first of them, none, by another test; a block that has its mark; the counts stay in their
-- bounds. Assumes nothing.
use Rattle.std.proofs.Common.{◌≡◌, ℕ, zero, suc, ◌+◌, ◌-◌, ◌<◌, ◌≤◌, Bool, true, false, cond, not, ◌&&◌, eqb, sym, refl, ap, ◌∙◌, arith, eq-eqb, ne_eqb, eqb-true}
use native.Mathlib.Decide.{ℕ_discrete}
use Rattle.words.proofs.CaseLaws.{bool}
use Rattle.words.specs.Word.{bit_at, is_set, with_bit, set_bit}
use Rattle.words.proofs.ChangeLaws.{with-own, with-other}
use Rattle.model.specs.Window.{Window, upd}
use Rattle.model.specs.Steps.{retiring_header, set_live, retire_block_of}
use Rattle.block_retire.specs.Retire.{retire_each}
use Rattle.block_retire.specs.Promises.{Counted}

-- room for fewer blocks
pub counted-fewer : (w : Window) (a m : ℕ) → a ≤ m → Counted m w → Counted a w
counted-fewer w a m l t = record { held = omega (arith, t.held); live = t.live; idle = t.idle }

-- ---- one block

module _ (w : Window) (b : ℕ) where
  own-live : ((retire_block_of w b).blocks b).live ≡ 0
  unfolding retire_block_of
  own-live = rw (eq-eqb b b refl) (omega arith)

  pub other_block : (d : ℕ) → (d ≡ b → ⊥) → (retire_block_of w b).blocks d ≡ w.blocks d
  unfolding retire_block_of
  other_block d n = rw (ne_eqb d b n)

  other-mark : (d : ℕ) → (d ≡ b → ⊥) → is_set (retire_block_of w b).header.retired_blocks d ≡ is_set w.header.retired_blocks d
  unfolding retire_block_of
  other-mark d n = ap (λ (x : ℕ). eqb x 1) (with-other w.header.retired_blocks b 1 d (omega arith) n)

  -- a block that has its mark, and so no live value, stays as it is
  pub block-idle : is_set w.header.retired_blocks b ≡ true → (w.blocks b).live ≡ 0 → retire_block_of w b ≡ w
  unfolding retire_block_of
  block-idle m z =
      let rb = w.header.retired_blocks in
      let k = (w.blocks b).live in
      let bits : set_bit rb b ≡ rb = ap (λ (x : ℕ). with_bit rb b x) (sym (eqb-true (bit_at rb b) 1 m)) ∙ with-own rb b in
      let len : w.header.len - k ≡ w.header.len = omega (arith, z) in
      let held : w.header.retired_held + k ≡ w.header.retired_held = omega (arith, z) in
      let live : (w.blocks b).live - k ≡ (w.blocks b).live = omega (arith, z) in
      λ i. record {
        header = retiring_header w.header (len i) (held i) (bits i);
        pages = w.pages;
        blocks = λ d. same ((w.blocks b).live - k) live d i;
      }
    where
      same : (x : ℕ) → x ≡ (w.blocks b).live → (d : ℕ) → upd w.blocks b (set_live (w.blocks b) x) d ≡ w.blocks d
      same x e d = elim (ℕ_discrete d b) [
        | yes q ↦ rw (q, eq-eqb b b refl) (λ i. set_live (w.blocks b) (e i))
        | no q ↦ rw (ne_eqb d b q)
      ]

  pub counted-block : (m : ℕ) → Counted (suc m) w → Counted m (retire_block_of w b)
  unfolding retire_block_of
  counted-block m t = record {
    held = omega (arith, t.held, t.live b);
    live = λ d. elim (ℕ_discrete d b) [ yes q ↦ rw q (omega (arith, own-live)) | no q ↦ rw (other_block d q) (t.live d) ];
    idle = λ d e. elim (ℕ_discrete d b) [
      | yes q ↦ rw q own-live
      | no q ↦ rw (other_block d q) (t.idle d (sym (other-mark d q) ∙ e))
    ];
  }

-- ---- several

pub each_none : (n b : ℕ) (P : ℕ → Bool) (w : Window) → ((i : ℕ) → b ≤ i → i < n + b → P i ≡ false) → retire_each n b P w ≡ w
unfolding retire_each
each_none zero b P w h = refl
each_none (suc n) b P w h = rw (h b (omega arith) (omega arith)) (each_none n (suc b) P w (λ i x y. h i (omega arith) (omega arith)))

pub each_same : (n b : ℕ) (P Q : ℕ → Bool) (w : Window) → ((i : ℕ) → b ≤ i → i < n + b → P i ≡ Q i) → retire_each n b P w ≡ retire_each n b Q w
unfolding retire_each
each_same zero b P Q w h = refl
each_same (suc n) b P Q w h =
    ap (λ (t : Bool). retire_each n (suc b) P (cond t (retire_block_of w b) w)) (h b (omega arith) (omega arith))
    ∙ each_same n (suc b) P Q (cond (Q b) (retire_block_of w b) w) (λ i x y. h i (omega arith) (omega arith))

-- the first m of them, then the rest
pub each-split : (m n b t e : ℕ) (P : ℕ → Bool) (w : Window) → t ≡ m + n → e ≡ m + b → retire_each t b P w ≡ retire_each n e P (retire_each m b P w)
unfolding retire_each
each-split zero n b t e P w p q =
    let x : t ≡ n = omega arith in
    let y : b ≡ e = omega arith in
    λ i. retire_each (x i) (y i) P w
each-split (suc m) n b t e P w p q =
    let x : t ≡ suc (m + n) = omega arith in
    ap (λ (s : ℕ). retire_each s b P w) x ∙ each-split m n (suc b) (m + n) e P (cond (P b) (retire_block_of w b) w) refl (omega arith)

each-suc : (n b : ℕ) (P : ℕ → Bool) (w : Window) → P b ≡ true → retire_each (suc n) b P w ≡ retire_each n (suc b) P (retire_block_of w b)
unfolding retire_each
each-suc n b P w e = rw e

each-pass : (n b : ℕ) (P : ℕ → Bool) (w : Window) → P b ≡ false → retire_each (suc n) b P w ≡ retire_each n (suc b) P w
unfolding retire_each
each-pass n b P w e = rw e

-- the first block q where P holds, and Q, which holds where P does but there
pub each_first : (P Q : ℕ → Bool) (q : ℕ) (w : Window) → q < 64 → P q ≡ true → Q q ≡ false → ((i : ℕ) → i < q → P i ≡ false) → ((i : ℕ) → (i ≡ q → ⊥) → Q i ≡ P i)
    → retire_each 64 0 P w ≡ retire_each 64 0 Q (retire_block_of w q)
each_first P Q q w l on off none same =
    let m = 63 - q in
    each-split q (suc m) 0 64 q P w (omega arith) (omega arith)
    ∙ ap (retire_each (suc m) q P) (each_none q 0 P w (λ i x y. none i (omega arith)))
    ∙ each-suc m q P w on
    ∙ each_same m (suc q) P Q (retire_block_of w q) (λ i x y. sym (same i (λ z. omega arith)))
    ∙ sym (each-pass m q Q (retire_block_of w q) off)
    ∙ ap (retire_each (suc m) q Q) (sym (each_none q 0 Q (retire_block_of w q) (λ i x y. same i (λ z. omega arith) ∙ none i (omega arith))))
    ∙ sym (each-split q (suc m) 0 64 q Q (retire_block_of w q) (omega arith) (omega arith))

-- blocks that have their mark may be passed over
pub each-unmarked : (n b marks m : ℕ) (P : ℕ → Bool) (w : Window) → Counted (n + m) w → ((i : ℕ) → b ≤ i → is_set w.header.retired_blocks i ≡ is_set marks i)
    → retire_each n b (λ (i : ℕ). P i && not (is_set marks i)) w ≡ retire_each n b P w
unfolding retire_each
each-unmarked zero b marks m P w t h = refl
each-unmarked (suc n) b marks m P w t h =
    bool (P b)
    (λ p. bool (is_set marks b)
    (λ e. rw (p, e) (each-unmarked n (suc b) marks (suc m) P w (counted-fewer w (n + suc m) (suc n + m) (omega arith) t) (λ i l. h i (omega arith)) ∙ ap (retire_each n (suc b) P) (sym (block-idle w b (h b (omega arith) ∙ e) (t.idle b (h b (omega arith) ∙ e))))))
    (λ e. rw (p, e) (each-unmarked n (suc b) marks m P (retire_block_of w b) (counted-block w b (n + m) (counted-fewer w (suc (n + m)) (suc n + m) (omega arith) t)) (λ i l. other-mark w b i (λ z. omega arith) ∙ h i (omega arith)))))
    (λ p. rw p (each-unmarked n (suc b) marks (suc m) P w (counted-fewer w (n + suc m) (suc n + m) (omega arith) t) (λ i l. h i (omega arith))))
