-- One block of a window read from the lent lists, by its words. Assumes nothing.
use mathlib.Core.Path.{◌≡◌, sym, ap, ◌∙◌, subst}
use mathlib.Core.Bool.{Bool, true, false, not}
use mathlib.Core.List.{List}
use Prim.Native.Nat.{ℕ, ◌*◌, ◌^◌, ◌<◌}
use lib.Dec.{eqb}
use borrow.Author.Tests.{eqb-true, eqb-false}
use Rattle.window.specs.declared.AdaptiveReceiverPacketWindow.{AdaptiveReceiverPacketWindow}
use Rattle.window.specs.Memory.{memory, page_count_of, block_count_of}
use Rattle.window.proofs.MemoryLaws.{page-count-le, block-count-le}
use Rattle.model.specs.Demand3.{one}
use Rattle.model.specs.Window.{Block, Window, decode}
use Rattle.block_marks.specs.declared.BlockWords.{BlockWords}
use Rattle.block_marks.specs.Blocks.{block_words_at, block_of}
use Rattle.block_marks.proofs.BlockLaws.{block_at}
use Rattle.page_check.specs.Promises.{Decides}
use Rattle.page_check.proofs.DecideLaws.{decides-no}
use Rattle.call_check.specs.Clauses.{SoundBlock, pages_in_block_of, values_where_of}
use Rattle.call_check.specs.Promises.{BitMatches, DecidesBlock}
use Rattle.call_check.proofs.ValueLaws.{block-sum}

module _ (h : AdaptiveReceiverPacketWindow) (pages blocks : List ℕ) (b : ℕ) (below : b < block_count_of h.window_size)
    (x : BlockWords) (ex : x ≡ block_words_at blocks b) where
  module _ (ss vs : List ℕ) where
    abbrev v : Window
    v = decode h (memory ss vs pages blocks)

    block-is : v.blocks b ≡ block_of x
    block-is = block_at h (memory ss vs pages blocks) b below ∙ ap block_of (sym ex)

    summary-of : SoundBlock v b → BitMatches h.nonempty_summary b x.nonempty
    unfolding decode
    summary-of s = s.summary ∙ ap (λ (y : Block). one (not (eqb y.nonempty 0))) block-is

  -- t is what the summary's test gave
  pub summary_differs : (t : Bool) → Decides (BitMatches h.nonempty_summary b x.nonempty) t → t ≡ false
      → DecidesBlock h pages blocks b false
  summary_differs t d e = record { is = λ ss vs. decides-no (λ s. d.fails e (summary-of ss vs s)) }

  -- n is the number of the block's pages
  module _ (n : ℕ) (en : n ≡ pages_in_block_of (page_count_of h.window_size) b) where
    abbrev most : ℕ
    most = pages_in_block_of (page_count_of h.window_size) b

    module _ (ss vs : List ℕ) where
      few-nonempty : SoundBlock (v ss vs) b → x.nonempty < 2 ^ n
      unfolding decode
      few-nonempty s = rw en (subst (λ (y : Block). y.nonempty < 2 ^ most) (block-is ss vs) s.nonempty_bits)

      few-retired : SoundBlock (v ss vs) b → x.retired < 2 ^ n
      unfolding decode
      few-retired s = rw en (subst (λ (y : Block). y.retired < 2 ^ most) (block-is ss vs) s.retired_bits)

    pub nonempty_past : (t : Bool) → Decides (x.nonempty < 2 ^ n) t → t ≡ false → DecidesBlock h pages blocks b false
    nonempty_past t d e = record { is = λ ss vs. decides-no (λ s. d.fails e (few-nonempty ss vs s)) }

    pub retired_past : (t : Bool) → Decides (x.retired < 2 ^ n) t → t ≡ false → DecidesBlock h pages blocks b false
    retired_past t d e = record { is = λ ss vs. decides-no (λ s. d.fails e (few-retired ss vs s)) }

    -- live is what was counted
    module _ (live : ℕ) (el : live ≡ values_where_of pages blocks h.retired_blocks 0 (64 * b) n) where
      pub block_decided : (t u r : Bool) → Decides (BitMatches h.nonempty_summary b x.nonempty) t → t ≡ true
          → Decides (x.nonempty < 2 ^ n) u → u ≡ true → Decides (x.retired < 2 ^ n) r → r ≡ true
          → DecidesBlock h pages blocks b (eqb x.live live)
      unfolding decode
      block_decided t u r dt et du eu dr er = record {
        is = λ ss vs.
            let m = memory ss vs pages blocks in
            let sum = el ∙ ap (values_where_of pages blocks h.retired_blocks 0 (64 * b)) en ∙ block-sum h m b in
            record {
              holds = λ e. record {
                summary = dt.holds et ∙ ap (λ (y : Block). one (not (eqb y.nonempty 0))) (sym (block-is ss vs));
                live = ap (λ (y : Block). y.live) (block-is ss vs) ∙ eqb-true x.live live e ∙ sum;
                nonempty_bits = subst (λ (y : Block). y.nonempty < 2 ^ most) (sym (block-is ss vs)) (rw (← en) (du.holds eu));
                retired_bits = subst (λ (y : Block). y.retired < 2 ^ most) (sym (block-is ss vs)) (rw (← en) (dr.holds er));
              };
              fails = λ e s. eqb-false x.live live e (ap (λ (y : Block). y.live) (sym (block-is ss vs)) ∙ s.live ∙ sym sum);
            };
      }

pub ruleset tested = (summary_differs, nonempty_past, retired_past, block_decided, page-count-le, block-count-le)
