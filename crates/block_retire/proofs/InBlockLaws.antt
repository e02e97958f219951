-- Pages of one block marked: what becomes of the window, in one step; the counts stay in their bounds; another block retired before or
-- after it makes no difference. Assumes nothing.
use Rattle.std.proofs.Common.{◌≡◌, ℕ, zero, suc, ◌+◌, ◌-◌, ◌*◌, ◌^◌, ◌<◌, ◌≤◌, Bool, false, cond, not, ◌&&◌, ◌||◌, eqb, sym, refl, ap, ◌∙◌, true≢false, arith, eq-eqb, ne_eqb}
use native.Mathlib.Decide.{ℕ_discrete}
use borrow.Author.Tests.{eqb-false}
use Rattle.words.proofs.CaseLaws.{bool}
use Rattle.words.specs.Word.{bit_at, is_set, with_bit, set_bit, clear_bit, word_of}
use Rattle.words.proofs.BitLaws.{bit-lt, bit_le}
use Rattle.words.proofs.ChangeLaws.{with-own, with-same, with-other}
use Rattle.words.proofs.CountLaws.{count-le}
use Rattle.model.specs.Table.{sum}
use Rattle.model.specs.Window.{Page, Block, Window, window, upd}
use Rattle.model.specs.Pages.{values_in_of}
use Rattle.model.specs.Steps.{retiring_header, set_retired, set_live, set_marks, split_block, pages_in, new_marks, retire_live, retire_in_block, retire_block_of}
use Rattle.laws_soundness.proofs.SumLaws.{sum-le}
use Rattle.block_retire.specs.Retire.{retire_each}
use Rattle.block_retire.specs.Promises.{Counted}
use Rattle.block_retire.proofs.EachLaws.{other_block}

-- ---- bits

-- two bits made what they are to be, in either order
with-comm : (w a x b y : ℕ) → x < 2 → y < 2 → (a ≡ b → ⊥) → with_bit (with_bit w a x) b y ≡ with_bit (with_bit w b y) a x
unfolding with_bit
with-comm w a x b y l m n =
    let low : bit_at w b * 2 ^ b ≤ with_bit w a 0 = ap-le in
    rw (with-other w a x b l (λ e. n (sym e)), with-other w b y a m n) (omega (arith, low, bit_le w a, bit_le w b))
  where
    ap-le : bit_at w b * 2 ^ b ≤ with_bit w a 0
    ap-le = rw (← with-other w a 0 b (omega arith) (λ e. n (sym e))) (bit_le (with_bit w a 0) b)

-- ---- in one step

module _ (pages : ℕ → Page) (x : Block) (marked : Bool) (from to b : ℕ) where
  -- the marks once the block's own is split
  abbrev pub split_marks : ℕ
  split_marks = cond marked x.nonempty x.retired

  abbrev pub new_at : ℕ → Bool
  new_at i = pages_in from to b i && (is_set x.nonempty i && not (is_set split_marks i))

  -- the values that are retired
  unfoldable pub new_values : ℕ
  new_values = sum 64 (λ (i : ℕ). cond (new_at i) (values_in_of (pages (64 * b + i))) 0)

  unfoldable pub new_block : Block
  new_block = set_live (set_retired x (word_of (λ (i : ℕ). is_set split_marks i || new_at i))) (x.live - new_values)

  pub values-few : new_values ≤ 4096
  unfolding new_values
  values-few =
      omega (arith, sum-le 64 64 (λ (i : ℕ). cond (new_at i) (values_in_of (pages (64 * b + i))) 0) (λ i l. bool (new_at i) (λ e. rw e (count-le 64 (pages (64 * b + i)).occupied)) (λ e. rw e (omega arith))))

  pub new-live : new_block.live ≤ x.live
  unfolding new_block
  new-live = omega arith

pub upd_same : (f : ℕ → Block) (b : ℕ) (x : Block) → upd f b x b ≡ x
upd_same f b x = rw (eq-eqb b b refl)

-- a block's words written, and written again
pub upd-again : (f : ℕ → Block) (b : ℕ) (x y : Block) (d : ℕ) → upd (upd f b x) b y d ≡ upd f b y d
upd-again f b x y d = elim (ℕ_discrete d b) [ yes e ↦ rw (eq-eqb d b e) | no e ↦ rw (ne_eqb d b e) ]

upd-own : (f : ℕ → Block) (b d : ℕ) → upd f b (f b) d ≡ f d
upd-own f b d = elim (ℕ_discrete d b) [ yes e ↦ rw (e, eq-eqb b b refl) | no e ↦ rw (ne_eqb d b e) ]

upd-comm : (f : ℕ → Block) (a b : ℕ) (x y : Block) → (a ≡ b → ⊥) → (d : ℕ) → upd (upd f a x) b y d ≡ upd (upd f b y) a x d
upd-comm f a b x y n d = elim (ℕ_discrete d a) [
  | yes e ↦ rw (eq-eqb d a e, ne_eqb d b (λ z. n (sym e ∙ z)))
  | no e ↦ rw (ne_eqb d a e)
]

-- k values retired in a block whose marks are set
marks-retired : (u : Window) (b word k : ℕ) →
    let h = u.header in
    retire_live (set_marks u b word) b k
    ≡ window (retiring_header h (h.len - k) (h.retired_held + k) h.retired_blocks)
    u.pages (upd u.blocks b (set_live (set_retired (u.blocks b) word) ((u.blocks b).live - k)))
marks-retired u b word k =
    let h = u.header in
    let x = set_retired (u.blocks b) word in
    let g = retiring_header h (h.len - k) (h.retired_held + k) h.retired_blocks in
    ap (λ (y : Block). window g u.pages (upd (upd u.blocks b x) b (set_live y (y.live - k)))) (upd_same u.blocks b x)
    ∙ (λ i. window g u.pages (λ d. upd-again u.blocks b x (set_live x (x.live - k)) d i))

module _ (w : Window) (b : ℕ) where
  abbrev rb : ℕ
  rb = w.header.retired_blocks

  abbrev x : Block
  x = set_retired (w.blocks b) (cond (is_set rb b) (w.blocks b).nonempty (w.blocks b).retired)

  -- the block split, marked or not
  abbrev split_here : Window
  split_here =
      let h = w.header in
      window (retiring_header h h.len h.retired_held (clear_bit rb b))
      w.pages (upd w.blocks b x)

  clear-own : is_set w.header.retired_blocks b ≡ false → w.header.retired_blocks ≡ clear_bit w.header.retired_blocks b
  clear-own e =
      let z : bit_at rb b ≡ 0 = omega (arith, eqb-false (bit_at rb b) 1 e, bit-lt rb b) in
      sym (with-own rb b) ∙ ap (with_bit rb b) z

  split-is : split_block w b ≡ split_here
  unfolding split_block
  split-is =
      bool (is_set rb b)
      (λ e. rw e)
      (λ e.
      rw e
      (λ i.
      let h = w.header in
      window (retiring_header h h.len h.retired_held (clear-own e i))
      w.pages (λ d. sym (upd-own w.blocks b d) i)))

module _ (w : Window) (from to b : ℕ) where
  abbrev pub values_here : ℕ
  values_here = new_values w.pages (w.blocks b) (is_set w.header.retired_blocks b) from to b

  abbrev pub block_here : Block
  block_here = new_block w.pages (w.blocks b) (is_set w.header.retired_blocks b) from to b

  abbrev pub in_block : Window
  in_block =
      let h = w.header in
      window (retiring_header h (h.len - values_here) (h.retired_held + values_here) (clear_bit h.retired_blocks b))
      w.pages (upd w.blocks b block_here)

  -- the marks and the count that a split block's words give
  abbrev new : Block → ℕ → Bool
  new y i = pages_in from to b i && (is_set y.nonempty i && not (is_set y.retired i))

  abbrev many : Block → ℕ
  many y = sum 64 (λ (i : ℕ). cond (new y i) (values_in_of (w.pages (64 * b + i))) 0)

  abbrev made : Block → Window
  made y =
      let h = w.header in
      window (retiring_header h (h.len - many y) (h.retired_held + many y) (clear_bit h.retired_blocks b))
      w.pages (upd (upd w.blocks b (x w b)) b (set_live (set_retired y (word_of (λ (i : ℕ). is_set y.retired i || new y i))) (y.live - many y)))

  pub in-block-is : retire_in_block w from to b ≡ in_block
  unfolding retire_in_block new_values new_block
  in-block-is =
      ap (λ (u : Window). retire_live (set_marks u b (word_of (λ (i : ℕ). is_set (u.blocks b).retired i || new_marks u from to b i))) b (sum 64 (λ (i : ℕ). cond (new_marks u from to b i) (values_in_of (u.pages (64 * b + i))) 0))) (split-is w b)
      ∙ marks-retired (split_here w b) b (word_of (λ (i : ℕ). is_set ((split_here w b).blocks b).retired i || new_marks (split_here w b) from to b i)) (sum 64 (λ (i : ℕ). cond (new_marks (split_here w b) from to b i) (values_in_of (w.pages (64 * b + i))) 0))
      ∙ ap made (upd_same w.blocks b (x w b))
      ∙ (λ i. window in_block.header w.pages (λ d. upd-again w.blocks b (x w b) block_here d i))

  -- ---- the counts

  pub counted-in-block : (m : ℕ) → Counted (suc m) w → Counted m (retire_in_block w from to b)
  counted-in-block m t = rw in-block-is (record {
    held = omega (arith, t.held, values-few w.pages (w.blocks b) (is_set w.header.retired_blocks b) from to b);
    live = λ d. elim (ℕ_discrete d b) [
      | yes q ↦ rw (eq-eqb d b q) (omega (arith, t.live b, new-live w.pages (w.blocks b) (is_set w.header.retired_blocks b) from to b))
      | no q ↦ rw (ne_eqb d b q) (t.live d)
    ];
    idle = λ d e. elim (ℕ_discrete d b) [
      | yes q ↦ absurd (true≢false (sym e ∙ rw (q, with-same w.header.retired_blocks b 0 (omega arith))))
      | no q ↦ rw (ne_eqb d b q) (t.idle d (ap (λ (y : ℕ). eqb y 1) (sym (with-other w.header.retired_blocks b 0 d (omega arith) q)) ∙ e))
    ];
  })

-- ---- another block

module _ (w : Window) (from to a b : ℕ) (apart : a ≡ b → ⊥) where
  abbrev marks : ℕ
  marks = w.header.retired_blocks

  -- what retiring block a leaves of block b, and the other way round
  mark-kept : is_set (set_bit w.header.retired_blocks a) b ≡ is_set w.header.retired_blocks b
  mark-kept = ap (λ (y : ℕ). eqb y 1) (with-other marks a 1 b (omega arith) (λ e. apart (sym e)))

  block-kept : (retire_block_of w a).blocks b ≡ w.blocks b
  block-kept = other_block w a b (λ e. apart (sym e))

  abbrev k : ℕ
  k = values_here w from to b

  abbrev l : ℕ
  l = (w.blocks a).live

  abbrev both : Block → ℕ → Window
  both y live =
      let h = w.header in
      window (retiring_header h (h.len - live - k) (h.retired_held + live + k) (clear_bit (set_bit marks a) b))
      w.pages (upd (upd w.blocks a (set_live (w.blocks a) ((w.blocks a).live - live))) b y)

  first-a : retire_in_block (retire_block_of w a) from to b ≡ both (block_here w from to b) l
  unfolding retire_block_of
  first-a =
      in-block-is (retire_block_of w a) from to b
      ∙ (λ i.
      let h = w.header in
      let q = new_values w.pages (block-kept i) (mark-kept i) from to b in
      window (retiring_header h (h.len - l - q) (h.retired_held + l + q) (clear_bit (set_bit marks a) b))
      w.pages (upd (retire_block_of w a).blocks b (new_block w.pages (block-kept i) (mark-kept i) from to b)))

  first-b : retire_block_of (in_block w from to b) a ≡ both (block_here w from to b) l
  unfolding retire_block_of
  first-b =
      let h = w.header in
      let y = upd w.blocks b (block_here w from to b) in
      let own : y a ≡ w.blocks a = rw (ne_eqb a b apart) in
      let len : h.len - k - l ≡ h.len - l - k = omega arith in
      let held : h.retired_held + k + l ≡ h.retired_held + l + k = omega arith in
      ap (λ (z : Block). window (retiring_header h (h.len - k - z.live) (h.retired_held + k + z.live) (set_bit (clear_bit marks b) a)) w.pages (upd y a (set_live z (z.live - z.live)))) own
      ∙ (λ i.
      window (retiring_header h (len i) (held i) (with-comm marks b 0 a 1 (omega arith) (omega arith) (λ e. apart (sym e)) i))
      w.pages (λ d. upd-comm w.blocks b a (block_here w from to b) (set_live (w.blocks a) (l - l)) (λ e. apart (sym e)) d i))

  -- block a retired with one bit, before or after pages of block b
  pub block-comm : retire_in_block (retire_block_of w a) from to b ≡ retire_block_of (retire_in_block w from to b) a
  block-comm = first-a ∙ sym first-b ∙ ap (λ (v : Window). retire_block_of v a) (sym (in-block-is w from to b))

-- several blocks, before or after pages of block b
pub each-comm : (n c : ℕ) (P : ℕ → Bool) (w : Window) (from to b : ℕ) → ((i : ℕ) → c ≤ i → i < n + c → i ≡ b → ⊥)
    → retire_each n c P (retire_in_block w from to b) ≡ retire_in_block (retire_each n c P w) from to b
unfolding retire_each
each-comm zero c P w from to b h = refl
each-comm (suc n) c P w from to b h =
    bool (P c)
    (λ e.
    rw e
    (ap (retire_each n (suc c) P) (sym (block-comm w from to c b (h c (omega arith) (omega arith))))
    ∙ each-comm n (suc c) P (retire_block_of w c) from to b (λ i x y. h i (omega arith) (omega arith))))
    (λ e. rw e (each-comm n (suc c) P w from to b (λ i x y. h i (omega arith) (omega arith))))
