-- Values of a page handed back, over plain variables: the page's values written to the list, its words settled, and the bookkeeping
-- for it in the lent lists. Assumes nothing.
use mathlib.Core.Path.{◌≡◌, refl, sym, ap, ◌∙◌}
use mathlib.Core.Bool.{Bool, cond, not}
use mathlib.Core.List.{List}
use Prim.Native.Nat.{ℕ, ◌+◌, ◌-◌, ◌*◌, ◌/◌, ◌%◌, ◌^◌, ◌≤◌, ◌<◌}
use native.Mathlib.Omega.{arith}
use lib.Dec.{eqb}
use lib.ListN.{length, drop, length-drop}
use lib.Seq.{length-take-le}
use borrow.Author.Tests.{eq-eqb}
use Rattle.words.proofs.CaseLaws.{bool}
use Rattle.words.specs.Word.{is_set, clear_bit}
use Rattle.words.proofs.TestLaws.{all_set}
use Rattle.window.specs.declared.AdaptiveReceiverPacketWindow.{AdaptiveReceiverPacketWindow}
use Rattle.window.specs.Memory.{memory, block_count_of, words_per_page, RowIn}
use Rattle.model.specs.Window.{Page, Window, window, decode}
use Rattle.model.specs.Pages.{PageDrained, page_drained, drain_page, holds_value, unless_emptied_of}
use Rattle.model.specs.Steps.{release_page_of, with_page, with_header, set_held, set_marks, all_positions}
use Rattle.page_base.specs.declared.PageWords.{PageWords}
use Rattle.page_base.specs.Page.{words_at, part_of, page}
use Rattle.page_base.proofs.PartLaws.{part_length, part-own}
use Rattle.page_base.proofs.DecodeLaws.{header_at, page-at}
use Rattle.page_remove.specs.declared.drain.Drained.{Drained}
use Rattle.page_remove.specs.Promises.{Drains, stretch}
use Rattle.page_remove.proofs.DrainLaws.{drain-same}
use Rattle.block_marks.specs.declared.Change.{Change}
use Rattle.block_marks.specs.Blocks.{block_words_at, block_of, changed}
use Rattle.block_marks.proofs.BlockLaws.{block_at}
use Rattle.page_store.specs.Promises.{Released, Stores, holds, note_released, without_mark, after_release}
use Rattle.page_store.proofs.StoreLaws.{stored-pages, stored-blocks, pages_past, blocks_past, decode-stored}
use Rattle.laws_soundness.specs.Change.{Limits, limits_of, SameLimits}
use Rattle.laws_soundness.proofs.LimitLaws.{limits-either, note-limits, drop-limits}
use Rattle.page_release.specs.Promises.{settled_words, Inside, ReleasesPage}

-- ---- the model's release of a page

holds-unless : (p : Page) → holds_value (unless_emptied_of p) ≡ holds_value p
holds-unless p = bool (eqb p.occupied 0) (λ e. rw e) (λ e. rw e (ap not e))

page-same : (v : Window) (g : ℕ) (p : Page) → (with_page v g p).pages g ≡ p
page-same v g p = rw (eq-eqb g g refl)

-- the page put in place, then the bookkeeping for it
release-is : (v : Window) (g k : ℕ) →
    let d = drain_page 64 0 all_positions k (v.pages g) in
    (release_page_of v g k).after ≡ after_release (with_page v g (unless_emptied_of d.page)) g (length d.out)
unfolding release_page_of
release-is v g k =
    let d = drain_page 64 0 all_positions k (v.pages g) in
    let u = with_page v g (unless_emptied_of d.page) in
    let n = note_released u g (length d.out) in
    ap (λ (b : Bool). cond b n (without_mark n g)) (sym (ap holds_value (page-same v g (unless_emptied_of d.page)) ∙ holds-unless d.page))

release-out : (v : Window) (g k : ℕ) → (release_page_of v g k).out ≡ (drain_page 64 0 all_positions k (v.pages g)).out
unfolding release_page_of
release-out v g k = refl

-- ---- the bookkeeping leaves the limits as they were

-- page g without its mark
abbrev unmarked : Window → ℕ → Window
unmarked v g = set_marks v (g / 64) (clear_bit (v.blocks (g / 64)).retired (g % 64))

release-limits : (v : Window) (g k : ℕ) → SameLimits v (after_release v g k)
release-limits v g k =
    let n = note-limits (with_header v (set_held v.header (v.header.retired_held - k))) g in
    limits-either v (note_released v g k) (without_mark (note_released v g k) g) (holds_value (v.pages g)) n (drop-limits (unmarked (note_released v g k) g) ∙ n)

-- ---- words

settled-page : (w : PageWords) (ss vs : List ℕ) → page (settled_words w) ss vs ≡ unless_emptied_of (page w ss vs)
unfolding settled_words
settled-page w ss vs = bool (eqb w.occupied 0) (λ e. rw e) (λ e. rw e)

-- ---- the code's steps

module _ (h : AdaptiveReceiverPacketWindow) (n : ℕ) (ss vs pages blocks l : List ℕ) (g at limit : ℕ) (d : Drained) (r : AdaptiveReceiverPacketWindow)
    (pages' blocks' l' : List ℕ) (first : 64 * g + 64 ≤ length ss) (second : 64 * g + 64 ≤ length vs) (words : RowIn words_per_page g pages)
    (room : at + limit ≤ length l)
    (taken : Drains n (words_at pages g) (part_of g ss) (part_of g vs) (2 ^ 64 - 1) at limit l d l')
    (stored : Stores (Released h (block_words_at blocks (g / 64)) g (holds (settled_words d.words)) d.count) pages blocks g (settled_words d.words) r pages' blocks') where
  -- the words that are left
  abbrev left : PageWords
  left = settled_words d.words

  -- how the header and the block's words change
  abbrev Releases : Change → Type 0
  Releases = Released h (block_words_at blocks (g / 64)) g (holds left) d.count

  abbrev ps : List ℕ
  ps = part_of g ss

  abbrev qs : List ℕ
  qs = part_of g vs

  abbrev v : Window
  v = decode h (memory ss vs pages blocks)

  -- what the model takes out of the page
  abbrev out : PageDrained
  out = drain_page 64 0 all_positions limit (v.pages g)

  -- the window with the page as its words now say
  abbrev u : Window
  u = with_page v g (page left ps qs)

  -- on any memory
  limits-kept : limits_of r ≡ limits_of h
  limits-kept =
      let any = window h (λ (x : ℕ). page left ps qs) (λ (b : ℕ). block_of (block_words_at blocks (g / 64))) in
      ap (λ (y : Window). limits_of y.header) (stored.changes.gives any refl refl refl) ∙ release-limits any g d.count

  -- as many values as were counted
  counted : length (stretch at d.count l') ≡ d.count
  counted = length-take-le d.count (drop at l') (omega (arith, taken.few, taken.wrote.long, length-drop at l'))

  module _ (i : Inside h n ss vs pages blocks l g) where
    drained-is : page_drained (page d.words ps qs) (stretch at d.count l') ≡ out
    drained-is =
        taken.gives i.placed
        ∙ drain-same (is_set (2 ^ 64 - 1)) all_positions 64 0 limit (page (words_at pages g) ps qs) (λ j low high. all_set j (omega arith))
        ∙ ap (drain_page 64 0 all_positions limit) (sym (page-at h (memory ss vs pages blocks) g i.below))

    block-below : g / 64 < block_count_of h.window_size
    block-below = omega (arith, i.below)

    noted : changed u (g / 64) (record { window = r; block = stored.block }) ≡ after_release u g d.count
    noted =
        stored.changes.gives u (header_at h (memory ss vs pages blocks)) (block_at h (memory ss vs pages blocks) (g / 64) block-below)
        (ap holds_value (page-same v g (page left ps qs)))

    page-is : page left ps qs ≡ unless_emptied_of out.page
    page-is = settled-page d.words ps qs ∙ ap (λ (x : PageDrained). unless_emptied_of x.page) drained-is

    count-is : d.count ≡ length out.out
    count-is = sym counted ∙ ap (λ (x : PageDrained). length x.out) drained-is

    page-gives : decode r (memory ss vs pages' blocks') ≡ (release_page_of v g limit).after
    page-gives =
        sym (λ j. decode r (memory (part-own g ss j) (part-own g vs j) pages' blocks'))
        ∙ decode-stored Releases pages blocks g left r pages' blocks' stored
        h ss vs ps qs (ap (λ (x : Limits). x.size) limits-kept) i.below block-below words i.blocks_long first second (part_length g ss first) (part_length g vs second)
        ∙ noted
        ∙ (λ j. after_release (with_page v g (page-is j)) g (count-is j))
        ∙ sym (release-is v g limit)

    page-out : stretch at d.count l' ≡ (release_page_of v g limit).out
    page-out = ap (λ (x : PageDrained). x.out) drained-is ∙ sym (release-out v g limit)

  page-released : ReleasesPage h n ss vs pages blocks l g at limit (record { window = r; count = d.count; sound = d.sound }) pages' blocks' l'
  page-released =
      record {
        within = record {
          pages_long = stored-pages Releases pages blocks g left r pages' blocks' stored;
          blocks_long = stored-blocks Releases pages blocks g left r pages' blocks' stored;
          pages_past = pages_past Releases pages blocks g left r pages' blocks' stored;
          blocks_past = blocks_past Releases pages blocks g left r pages' blocks' stored;
        };
        wrote = taken.wrote;
        few = taken.few;
        limits = limits-kept;
        sound = λ i. taken.sound i.placed;
        gives = page-gives;
        out = page-out;
      }

-- the same, of what the callees gave
pub release-gives : (h : AdaptiveReceiverPacketWindow) (n : ℕ) (ss vs pages blocks l : List ℕ) (g at limit : ℕ) (d : Drained) (r : AdaptiveReceiverPacketWindow)
    (pages' blocks' l' : List ℕ) → 64 * g + 64 ≤ length ss → 64 * g + 64 ≤ length vs → RowIn words_per_page g pages → at + limit ≤ length l
    → (w left : PageWords) (ps qs : List ℕ) → w ≡ words_at pages g → ps ≡ part_of g ss → qs ≡ part_of g vs → left ≡ settled_words d.words
    → Drains n w ps qs (2 ^ 64 - 1) at limit l d l'
    → Stores (Released h (block_words_at blocks (g / 64)) g (holds left) d.count) pages blocks g left r pages' blocks'
    → ReleasesPage h n ss vs pages blocks l g at limit (record { window = r; count = d.count; sound = d.sound }) pages' blocks' l'
release-gives h n ss vs pages blocks l g at limit d r pages' blocks' l' first second words room w left ps qs e f q s taken stored =
    page-released h n ss vs pages blocks l g at limit d r pages' blocks' l' first second words room (rw (e, f, q) at taken) (rw s at stored)
