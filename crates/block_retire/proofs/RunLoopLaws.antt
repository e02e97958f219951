-- A run of whole pages retired, over plain variables: its first block, its last, those between, and all of them. Assumes nothing.
use Rattle.std.proofs.Common.{◌≡◌, ℕ, suc, ◌+◌, ◌-◌, ◌*◌, ◌/◌, ◌%◌, ◌<◌, ◌≤◌, true, cond, eqb, List, length, sym, refl, ap, ◌∙◌, true≢false, arith, ne_eqb}
use native.Mathlib.Decide.{dec_lt}
use Rattle.words.proofs.CaseLaws.{bool}
use Rattle.words.specs.Word.{is_set, span}
use Rattle.window.specs.declared.AdaptiveReceiverPacketWindow.{AdaptiveReceiverPacketWindow}
use Rattle.window.specs.Memory.{memory, page_count_of, words_per_page, words_per_block}
use Rattle.model.specs.Window.{Window, decode}
use Rattle.model.specs.Steps.{retire_in_block, retire_pages_of}
use Rattle.page_base.proofs.DecodeLaws.{header_at}
use Rattle.laws_soundness.specs.Change.{Limits}
use Rattle.block_retire.specs.Retire.{retire_each}
use Rattle.block_retire.specs.Promises.{PagesNamed, BlocksNamed, Room, Touches, Counted, Run, RetiresInBlock, RetiresBlocks, RetiresFirst, RetiresLast, RetiresBetween, RetiresPages}
use Rattle.block_retire.proofs.EachLaws.{counted-fewer, each_none}
use Rattle.block_retire.proofs.InBlockLaws.{counted-in-block}
use Rattle.block_retire.proofs.RunLaws.{span-unset-above, span-pages, every, each-span, pages-one, pages-several, pages-none}

-- ---- what is touched

pub touches_none : (h : AdaptiveReceiverPacketWindow) (blocks : List ℕ) (to : ℕ) → Touches h blocks to h blocks
touches_none h blocks to = record { limits = refl; long = refl; past = λ n l. refl }

pub touches-more : (h : AdaptiveReceiverPacketWindow) (blocks : List ℕ) (a b : ℕ) (r : AdaptiveReceiverPacketWindow) (blocks' : List ℕ) → a ≤ b → Touches h blocks a r blocks' → Touches h blocks b r blocks'
touches-more h blocks a b r blocks' l t = record { limits = t.limits; long = t.long; past = λ n m. t.past n (omega arith) }

pub touches-then : (h : AdaptiveReceiverPacketWindow) (blocks : List ℕ) (to : ℕ) (r : AdaptiveReceiverPacketWindow) (blocks' : List ℕ) (s : AdaptiveReceiverPacketWindow) (blocks'' : List ℕ)
    → Touches h blocks to r blocks' → Touches r blocks' to s blocks'' → Touches h blocks to s blocks''
touches-then h blocks to r blocks' s blocks'' t u = record {
  limits = u.limits ∙ t.limits;
  long = u.long ∙ t.long;
  past = λ n l. u.past n l ∙ t.past n l;
}

-- a run stays one of the window
run-kept : (h : AdaptiveReceiverPacketWindow) (blocks : List ℕ) (to a : ℕ) (r : AdaptiveReceiverPacketWindow) (blocks' : List ℕ) → Touches h blocks a r blocks' → Run h blocks to → Run r blocks' to
run-kept h blocks to a r blocks' t run =
    let e : r.window_size ≡ h.window_size = ap (λ (y : Limits). y.size) t.limits in
    record {
      inside = rw e run.inside;
      long = rw (e, t.long) run.long;
    }

-- ---- pages of one block named by a span of bits

-- the pages that a span names are in the list
pub span-named : (pages : List ℕ) (b f t : ℕ) → f ≤ t → words_per_page * (64 * b + t) ≤ length pages → PagesNamed pages b (span f t)
span-named pages b f t le long i l e =
    elim (dec_lt i t) [ yes q ↦ omega arith | no q ↦ absurd (true≢false (sym e ∙ span-unset-above f t i le (omega arith))) ]

module _ (h : AdaptiveReceiverPacketWindow) (pages blocks : List ℕ) where
  room_in : (m : ℕ) (ss vs : List ℕ) (to b : ℕ) → Run h blocks to → 64 * b < to → Counted (suc m) (decode h (memory ss vs pages blocks)) → Room h blocks b
  room_in m ss vs to b run l c = record {
    below = omega (arith, run.inside);
    blocks_long = run.long;
    held = omega (arith, c.held, ap (λ (y : AdaptiveReceiverPacketWindow). y.retired_held) (header_at h (memory ss vs pages blocks)));
  }

  -- ---- the first block

  module _ (r : AdaptiveReceiverPacketWindow) (blocks' : List ℕ) (mask : ℕ) where
    pub first_part : (from : ℕ) → (from % 64 ≡ 0 → ⊥) → mask ≡ span (from % 64) 64 → RetiresInBlock h pages blocks (from / 64) mask r blocks' → RetiresFirst h pages blocks from r blocks'
    first_part from e s t = record {
      touches = t.touches;
      gives = λ to run l m ss vs c.
          rw (ne_eqb (from % 64) 0 e)
          (t.gives (room_in m ss vs to (from / 64) run (omega arith) c) from to run.inside
          (λ i k. ap (λ (y : ℕ). is_set y i) s ∙ span-pages (from % 64) 64 from to (from / 64) i (omega arith) k (λ x. omega arith) (λ x. omega arith) (λ x. omega arith) (λ x. omega arith)) ss vs);
    }

    -- ---- the last block

    pub last-part : (to : ℕ) → (to % 64 ≡ 0 → ⊥) → mask ≡ span 0 (to % 64) → RetiresInBlock h pages blocks (to / 64) mask r blocks' → RetiresLast h pages blocks to r blocks'
    last-part to e s t = record {
      touches = touches-more h blocks (to / 64 + 1) ((to + 63) / 64) r blocks' (omega arith) t.touches;
      gives = λ from run l m ss vs c.
          rw (ne_eqb (to % 64) 0 e)
          (t.gives (room_in m ss vs to (to / 64) run (omega arith) c) from to run.inside
          (λ i k. ap (λ (y : ℕ). is_set y i) s ∙ span-pages 0 (to % 64) from to (to / 64) i (omega arith) k (λ x. omega arith) (λ x. omega arith) (λ x. omega arith) (λ x. omega arith)) ss vs);
    }

    -- ---- one block

    pub one_block : (from to : ℕ) → from < to → from / 64 ≡ (to - 1) / 64 → mask ≡ span (from % 64) ((to - 1) % 64 + 1)
        → RetiresInBlock h pages blocks (from / 64) mask r blocks' → RetiresPages h pages blocks from to r blocks'
    one_block from to less e s t = record {
      touches = touches-more h blocks (from / 64 + 1) ((to + 63) / 64) r blocks' (omega arith) t.touches;
      gives = λ run ss vs c.
          t.gives (room_in 65 ss vs to (from / 64) run (omega arith) c) from to run.inside
          (λ i k. ap (λ (y : ℕ). is_set y i) s ∙ span-pages (from % 64) ((to - 1) % 64 + 1) from to (from / 64) i (omega arith) k (λ x. omega arith) (λ x. omega arith) (λ x. omega arith) (λ x. omega arith)) ss vs
          ∙ sym (pages-one (decode h (memory ss vs pages blocks)) from to less (inside_of run ss vs) e);
    }
      where
        inside_of : Run h blocks to → (ss vs : List ℕ) → to ≤ page_count_of (decode h (memory ss vs pages blocks)).header.window_size
        inside_of run ss vs = rw (header_at h (memory ss vs pages blocks)) run.inside

  pub pages-empty : (from to : ℕ) → to ≤ from → RetiresPages h pages blocks from to h blocks
  pages-empty from to l = record {
    touches = touches_none h blocks ((to + 63) / 64);
    gives = λ run ss vs c. sym (pages-none (decode h (memory ss vs pages blocks)) from to l);
  }

-- ---- the blocks between

module _ (h : AdaptiveReceiverPacketWindow) (blocks : List ℕ) (from to : ℕ) where
  pub between_none : to / 64 ≤ (from + 63) / 64 → RetiresBetween h blocks from to h blocks
  between_none l = record {
    touches = touches_none h blocks (to / 64);
    gives = λ run ss vs pages c. sym (each_none (to / 64 - (from + 63) / 64) ((from + 63) / 64) every (decode h (memory ss vs pages blocks)) (λ i x y. absurd (omega arith)));
  }

  -- the blocks of a span
  in_span : (i : ℕ) → (from + 63) / 64 < to / 64 → is_set (span ((from + 63) / 64) (to / 64)) i ≡ true → i < to / 64
  in_span i less e =
      elim (dec_lt i (to / 64)) [ yes q ↦ q | no q ↦ absurd (true≢false (sym e ∙ span-unset-above ((from + 63) / 64) (to / 64) i (omega arith) (omega arith))) ]

  module _ (less : (from + 63) / 64 < to / 64) (mask : ℕ) (named : mask ≡ span ((from + 63) / 64) (to / 64)) where
    in-mask : (i : ℕ) → is_set mask i ≡ true → i < to / 64
    in-mask i e = in_span i less (ap (λ (y : ℕ). is_set y i) (sym named) ∙ e)

    pub between-named : to ≤ 1024 → words_per_block * (to / 64) ≤ length blocks → BlocksNamed blocks mask
    between-named few long i l e = (omega (arith, in-mask i e), omega (arith, in-mask i e))

    pub between-some : to ≤ 1024 → (r : AdaptiveReceiverPacketWindow) (blocks' : List ℕ) → RetiresBlocks h blocks mask r blocks' → RetiresBetween h blocks from to r blocks'
    between-some few r blocks' t = record {
      touches = t.touches (to / 64) (λ i l e. in-mask i e);
      gives = λ run ss vs pages c.
          t.gives (λ i l e. omega (arith, in-mask i e, run.inside)) run.long ss vs pages c
          ∙ ap (λ (y : ℕ). retire_each 64 0 (is_set y) (decode h (memory ss vs pages blocks))) named
          ∙ each-span ((from + 63) / 64) (to / 64) (decode h (memory ss vs pages blocks)) (omega arith) (omega arith);
    }

-- ---- pages of several blocks

module _ (h : AdaptiveReceiverPacketWindow) (pages blocks : List ℕ) (from to : ℕ) (far : 64 * (from / 64) + 64 < to)
    (begun : AdaptiveReceiverPacketWindow) (blocks₁ : List ℕ) (ended : AdaptiveReceiverPacketWindow) (blocks₂ : List ℕ) (r : AdaptiveReceiverPacketWindow) (blocks₃ : List ℕ)
    (first : RetiresFirst h pages blocks from begun blocks₁) (last : RetiresLast begun pages blocks₁ to ended blocks₂) (rest : RetiresBetween ended blocks₂ from to r blocks₃) where
  begun-touches : Touches h blocks ((to + 63) / 64) begun blocks₁
  begun-touches = touches-more h blocks (from / 64 + 1) ((to + 63) / 64) begun blocks₁ (omega arith) first.touches

  ended-touches : Touches h blocks ((to + 63) / 64) ended blocks₂
  ended-touches = touches-then h blocks ((to + 63) / 64) begun blocks₁ ended blocks₂ begun-touches last.touches

  module _ (run : Run h blocks to) (ss vs : List ℕ) (c : Counted 66 (decode h (memory ss vs pages blocks))) where
    abbrev v : Window
    v = decode h (memory ss vs pages blocks)

    abbrev one : Window
    one = cond (eqb (from % 64) 0) v (retire_in_block v from to (from / 64))

    abbrev two : Window
    two = cond (eqb (to % 64) 0) one (retire_in_block one from to (to / 64))

    one-counted : Counted 65 one
    one-counted = bool (eqb (from % 64) 0) (λ e. rw e (counted-fewer v 65 66 (omega arith) c)) (λ e. rw e (counted-in-block v from to (from / 64) 65 c))

    two-counted : Counted 64 two
    two-counted = bool (eqb (to % 64) 0) (λ e. rw e (counted-fewer one 64 65 (omega arith) one-counted)) (λ e. rw e (counted-in-block one from to (to / 64) 64 one-counted))

    one-is : decode begun (memory ss vs pages blocks₁) ≡ one
    one-is = first.gives to run (omega arith) 65 ss vs c

    two_is : decode ended (memory ss vs pages blocks₂) ≡ two
    two_is =
        last.gives from (run-kept h blocks to (from / 64 + 1) begun blocks₁ first.touches run) (omega arith) 64 ss vs (rw one-is one-counted)
        ∙ ap (λ (y : Window). cond (eqb (to % 64) 0) y (retire_in_block y from to (to / 64))) one-is

    all-is : decode r (memory ss vs pages blocks₃) ≡ retire_pages_of v from to
    all-is =
        rest.gives (run-kept h blocks to ((to + 63) / 64) ended blocks₂ ended-touches run) ss vs pages (rw two_is two-counted)
        ∙ ap (retire_each (to / 64 - (from + 63) / 64) ((from + 63) / 64) every) two_is
        ∙ sym (pages-several v from to (omega arith) (rw (header_at h (memory ss vs pages blocks)) run.inside) (λ e. omega arith))

  pub several-blocks : RetiresPages h pages blocks from to r blocks₃
  several-blocks = record {
    touches = touches-then h blocks ((to + 63) / 64) ended blocks₂ r blocks₃ ended-touches (touches-more ended blocks₂ (to / 64) ((to + 63) / 64) r blocks₃ (omega arith) rest.touches);
    gives = all-is;
  }
