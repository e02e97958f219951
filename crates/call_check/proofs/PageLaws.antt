-- One page of a window read from the lent lists, by its words, its cells and its block's words. Assumes nothing.
use mathlib.Core.Path.{◌≡◌, sym, ap, ◌∙◌, subst}
use mathlib.Core.Bool.{Bool, true, false}
use mathlib.Core.List.{List}
use Prim.Native.Nat.{ℕ, ◌/◌, ◌%◌, ◌<◌}
use native.Mathlib.Omega.{arith}
use lib.Dec.{eqb}
use Rattle.words.specs.Word.{bit_at, count}
use Rattle.window.specs.declared.AdaptiveReceiverPacketWindow.{AdaptiveReceiverPacketWindow}
use Rattle.window.specs.Memory.{memory, capacity, page_count_of}
use Rattle.model.specs.Demand3.{one}
use Rattle.model.specs.Window.{Page, Block, Window, decode, is_retired}
use Rattle.model.specs.Pages.{values_in_of, holds_value}
use Rattle.model.specs.Sound.{SoundPage}
use Rattle.page_base.specs.declared.PageWords.{PageWords}
use Rattle.page_base.specs.Page.{words_at, part_of, page}
use Rattle.page_base.proofs.PartLaws.{part_length}
use Rattle.call_base.proofs.FitLaws.{page-bounds}
use Rattle.page_base.proofs.DecodeLaws.{page-at}
use Rattle.block_marks.specs.declared.BlockWords.{BlockWords}
use Rattle.block_marks.specs.Blocks.{block_words_at, block_of}
use Rattle.block_marks.specs.Marks.{page_retired_of}
use Rattle.block_marks.proofs.BlockLaws.{block_at}
use Rattle.page_check.specs.Promises.{Decides, DecidesPage}
use Rattle.page_check.proofs.DecideLaws.{decides-no}
use Rattle.call_check.specs.Clauses.{SoundAt}
use Rattle.call_check.specs.Promises.{PageMatches, DecidesAt}
use Rattle.call_check.proofs.ValueLaws.{retired-page}

module _ (h : AdaptiveReceiverPacketWindow) (ss pages blocks : List ℕ) (g : ℕ) (below : g < page_count_of h.window_size)
    (w : PageWords) (ew : w ≡ words_at pages g) (x : BlockWords) (ex : x ≡ block_words_at blocks (g / 64)) where
  module _ (vs : List ℕ) where
    abbrev v : Window
    v = decode h (memory ss vs pages blocks)

    page-is : v.pages g ≡ page w (part_of g ss) (part_of g vs)
    page-is = page-at h (memory ss vs pages blocks) g below ∙ ap (λ (y : PageWords). page y (part_of g ss) (part_of g vs)) (sym ew)

    block-is : v.blocks (g / 64) ≡ block_of x
    block-is = block_at h (memory ss vs pages blocks) (g / 64) (omega arith) ∙ ap block_of (sym ex)

    retired-is : eqb (page_retired_of h.retired_blocks x g) 1 ≡ is_retired v g
    retired-is =
        ap (λ (y : BlockWords). eqb (page_retired_of h.retired_blocks y g) 1) ex ∙ retired-page h (memory ss vs pages blocks) g below

    values-is : values_in_of (v.pages g) ≡ count w.occupied
    values-is = ap (λ (p : Page). values_in_of p) page-is

    -- what a sound page is beside its block's words
    matching : SoundAt v g → PageMatches h w x g
    unfolding decode
    matching s = record {
      dense = record { more = λ e k n. omega (arith, values-is, s.dense (sym retired-is ∙ e) (ap (λ (p : Page). p.kind) page-is ∙ k) n) };
      nonempty = ap (λ (y : Block). bit_at y.nonempty (g % 64)) (sym block-is) ∙ s.nonempty ∙ ap (λ (p : Page). one (holds_value p)) page-is;
      marks = λ e. ap (λ (p : Page). holds_value p) (sym page-is) ∙ s.marks (ap (λ (y : Block). bit_at y.retired (g % 64)) block-is ∙ e);
    }

    by_itself : SoundAt v g → SoundPage h.n (capacity h.window_size) g (page w (part_of g ss) (part_of g vs))
    unfolding decode
    by_itself s = subst (λ (p : Page). SoundPage h.n (capacity h.window_size) g p) page-is s.page

    -- and both make it sound
    made : PageMatches h w x g → SoundPage h.n (capacity h.window_size) g (page w (part_of g ss) (part_of g vs)) → SoundAt v g
    unfolding decode
    made t s = record {
      page = subst (λ (p : Page). SoundPage h.n (capacity h.window_size) g p) (sym page-is) s;
      dense = λ e k n. omega (arith, values-is, t.dense.more (retired-is ∙ e) (ap (λ (p : Page). p.kind) (sym page-is) ∙ k) n);
      nonempty = ap (λ (y : Block). bit_at y.nonempty (g % 64)) block-is ∙ t.nonempty ∙ ap (λ (p : Page). one (holds_value p)) (sym page-is);
      marks = λ e. ap (λ (p : Page). holds_value p) page-is ∙ t.marks (ap (λ (y : Block). bit_at y.retired (g % 64)) (sym block-is) ∙ e);
    }

  -- t is what the page's match gave
  module _ (t : Bool) (matched : Decides (PageMatches h w x g) t) where
    pub page_unmatched : t ≡ false → DecidesAt h ss pages blocks g false
    page_unmatched e = record { is = λ vs. decides-no (λ s. matched.fails e (matching vs s)) }

    pub page_decided : t ≡ true → (cs : List ℕ) → cs ≡ part_of g ss → (n : ℕ) → n ≡ h.n → (r : Bool) → DecidesPage n h.window_size g w cs r
        → DecidesAt h ss pages blocks g r
    page_decided e cs ec n en r d = record {
      is = λ vs.
          let q : Decides (SoundPage h.n (capacity h.window_size) g (page w (part_of g ss) (part_of g vs))) r
          = rw (← ec, ← en) (d.is (part_of g vs)) in
          record {
            holds = λ b. made vs (matched.holds e) (q.holds b);
            fails = λ b s. q.fails b (by_itself vs s);
          };
    }

pub ruleset tested = (page_unmatched, page_decided, page-bounds, part_length)
