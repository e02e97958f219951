-- The values of pages, as they are counted, are the model's live and retired values. Assumes nothing.
use mathlib.Core.Path.{◌≡◌, refl, sym, ap, ◌∙◌}
use mathlib.Core.Bool.{cond}
use mathlib.Core.List.{List}
use Prim.Native.Nat.{ℕ, zero, suc, ◌+◌, ◌*◌, ◌/◌, ◌≤◌, ◌<◌}
use native.Mathlib.Numerals.{add-one}
use native.Mathlib.Omega.{arith}
use lib.Dec.{eqb, ltb}
use mir.Val.{bool_byte}
use borrow.Author.Tests.{le-ltb, ltb-false}
use Rattle.words.proofs.CaseLaws.{bool}
use Rattle.words.proofs.CountLaws.{count-le}
use Rattle.words.specs.Word.{count}
use Rattle.window.specs.declared.AdaptiveReceiverPacketWindow.{AdaptiveReceiverPacketWindow}
use Rattle.window.specs.Memory.{Memory, page_count_of}
use Rattle.model.specs.Table.{sum}
use Rattle.model.specs.Window.{Page, decode, is_retired}
use Rattle.model.specs.Pages.{values_in_of}
use Rattle.model.specs.Sound.{live_in, retired_in}
use Rattle.page_base.specs.Page.{words_at}
use Rattle.page_base.proofs.DecodeLaws.{page-at}
use Rattle.block_marks.specs.declared.BlockWords.{BlockWords}
use Rattle.block_marks.specs.Blocks.{block_words_at}
use Rattle.block_marks.specs.Marks.{page_retired_of}
use Rattle.block_marks.proofs.BlockLaws.{block_at}
use Rattle.block_marks.proofs.MarkLaws.{page-retired-is}
use Rattle.laws_soundness.proofs.SumLaws.{sum-zero, sum-suc, sum_same, sum-le, sum_past}
use Rattle.laws_soundness.proofs.PageLaws.{empty-counts}
use Rattle.laws_soundness.proofs.ProperLaws.{decode-past}
use Rattle.call_base.proofs.RetiredLaws.{retired-lt}
use Rattle.call_check.specs.Clauses.{pages_in_block_of, values_at_of, values_where_of}

-- ---- one page

bit-number : (d : ℕ) → d < 2 → bool_byte (eqb d 1) ≡ d
bit-number zero l = refl
bit-number (suc zero) l = refl
bit-number (suc (suc d)) l = absurd (omega arith)

-- a mark, tested, as a number
pub mark-number : (b : ℕ) (x : BlockWords) (g : ℕ) → bool_byte (eqb (page_retired_of b x g) 1) ≡ page_retired_of b x g
mark-number b x g = bit-number (page_retired_of b x g) (retired-lt b x g)

-- ---- how the count grows

module _ (pages blocks : List ℕ) (retired_blocks retired from : ℕ) where
  pub where-none : values_where_of pages blocks retired_blocks retired from 0 ≡ 0
  unfolding values_where_of
  where-none = sum-zero (λ (i : ℕ). values_at_of pages blocks retired_blocks retired (from + i))

  pub where-more : (n : ℕ) → values_where_of pages blocks retired_blocks retired from (n + 1)
      ≡ values_where_of pages blocks retired_blocks retired from n + values_at_of pages blocks retired_blocks retired (from + n)
  unfolding values_where_of
  where-more n = rw (add-one n) (sum-suc n (λ (i : ℕ). values_at_of pages blocks retired_blocks retired (from + i)))

  at-le : (g : ℕ) → values_at_of pages blocks retired_blocks retired g ≤ 64
  at-le g =
      let t = eqb (page_retired_of retired_blocks (block_words_at blocks (g / 64)) g) retired in
      bool t (λ e. rw e (count-le 64 (words_at pages g).occupied)) (λ e. rw e (omega arith))

  pub where-le : (n : ℕ) → values_where_of pages blocks retired_blocks retired from n ≤ n * 64
  unfolding values_where_of
  where-le n = sum-le 64 n (λ (i : ℕ). values_at_of pages blocks retired_blocks retired (from + i)) (λ i l. at-le (from + i))

-- ---- a window read from the lent lists

when-live : (d k : ℕ) → d < 2 → cond (eqb d 0) k 0 ≡ cond (eqb d 1) 0 k
when-live zero k l = refl
when-live (suc zero) k l = refl
when-live (suc (suc d)) k l = absurd (omega arith)

module _ (h : AdaptiveReceiverPacketWindow) (m : Memory) where
  module _ (g : ℕ) (below : g < page_count_of h.window_size) where
    -- whether it is retired, as its block's words and the header say
    pub retired-page : eqb (page_retired_of h.retired_blocks (block_words_at m.blocks (g / 64)) g) 1 ≡ is_retired (decode h m) g
    unfolding decode
    retired-page = page-retired-is (decode h m) h.retired_blocks (block_words_at m.blocks (g / 64)) g refl (block_at h m (g / 64) (omega arith))

    held-is : count (words_at m.pages g).occupied ≡ values_in_of ((decode h m).pages g)
    held-is = ap (λ (p : Page). values_in_of p) (sym (page-at h m g below))

    live_at_lem : values_at_of m.pages m.blocks h.retired_blocks 0 g ≡ live_in (decode h m) g
    live_at_lem =
        when-live (page_retired_of h.retired_blocks (block_words_at m.blocks (g / 64)) g) (count (words_at m.pages g).occupied)
        (retired-lt h.retired_blocks (block_words_at m.blocks (g / 64)) g)
        ∙ (λ i. cond (retired-page i) 0 (held-is i))

    retired-at : values_at_of m.pages m.blocks h.retired_blocks 1 g ≡ retired_in (decode h m) g
    retired-at = λ i. cond (retired-page i) (held-is i) 0

  -- no page past the last
  page-past : (g : ℕ) → page_count_of h.window_size ≤ g → ((decode h m).pages g).occupied ≡ 0
  unfolding decode
  page-past g l = ap (λ (p : Page). p.occupied) (decode-past h m g l)

  pub live-sum : values_where_of m.pages m.blocks h.retired_blocks 0 0 (page_count_of h.window_size)
      ≡ sum (page_count_of h.window_size) (live_in (decode h m))
  unfolding values_where_of
  live-sum =
      sum_same (page_count_of h.window_size) (λ (i : ℕ). values_at_of m.pages m.blocks h.retired_blocks 0 (0 + i)) (live_in (decode h m))
      (λ g l. let e : 0 + g ≡ g = omega arith in rw e (live_at_lem g l))

  pub retired-sum : values_where_of m.pages m.blocks h.retired_blocks 1 0 (page_count_of h.window_size)
      ≡ sum (page_count_of h.window_size) (retired_in (decode h m))
  unfolding values_where_of
  retired-sum =
      sum_same (page_count_of h.window_size) (λ (i : ℕ). values_at_of m.pages m.blocks h.retired_blocks 1 (0 + i)) (retired_in (decode h m))
      (λ g l. let e : 0 + g ≡ g = omega arith in rw e (retired-at g l))

  -- the live values of a block: its pages past the last hold none
  module _ (b : ℕ) where
    abbrev n : ℕ
    n = pages_in_block_of (page_count_of h.window_size) b

    -- of the pages of the block
    abbrev live_of : ℕ → ℕ
    live_of i = cond (ltb i n) (live_in (decode h m) (64 * b + i)) 0

    live-of : (i : ℕ) → i < 64 → live_of i ≡ live_in (decode h m) (64 * b + i)
    live-of i l =
        bool (ltb i n)
        (λ e. rw e)
        (λ e. rw e (sym (empty-counts (decode h m) (64 * b + i) (page-past (64 * b + i) (omega (arith, ltb-false i n e)))).0))

    pub block-sum : values_where_of m.pages m.blocks h.retired_blocks 0 (64 * b) (pages_in_block_of (page_count_of h.window_size) b)
        ≡ sum 64 (λ (i : ℕ). live_in (decode h m) (64 * b + i))
    unfolding values_where_of
    block-sum =
        sum_same n (λ (i : ℕ). values_at_of m.pages m.blocks h.retired_blocks 0 (64 * b + i)) live_of
        (λ i l. live_at_lem (64 * b + i) (omega arith) ∙ sym (live-of i (omega arith)))
        ∙ sym (sum_past n 64 live_of (omega arith) (λ i l. rw (le-ltb i n l)))
        ∙ sum_same 64 live_of (λ (i : ℕ). live_in (decode h m) (64 * b + i)) live-of

pub ruleset marks = (mark-number)

pub ruleset counting = (where-none, where-more)
