-- Values taken out of one page by position, over plain variables: drained into the list, the page settled, the bookkeeping for it in
-- the lent lists. Assumes nothing.
use mathlib.Core.Path.{◌≡◌, refl, sym, ap, ◌∙◌, subst}
use mathlib.Core.Bool.{Bool, true, false, cond, not, ◌||◌}
use mathlib.Core.List.{List, []}
use Prim.Native.Nat.{ℕ, ◌+◌, ◌*◌, ◌/◌, ◌≤◌, ◌<◌}
use native.Mathlib.Omega.{arith}
use lib.Dec.{eqb}
use lib.ListN.{length, drop, length-drop}
use lib.Seq.{length-take-le}
use borrow.Author.Tests.{eq-eqb, ne_eqb}
use Rattle.words.proofs.CaseLaws.{bool}
use Rattle.words.specs.Word.{is_set}
use Rattle.window.specs.declared.AdaptiveReceiverPacketWindow.{AdaptiveReceiverPacketWindow}
use Rattle.window.specs.declared.Cause.TheVariants.{Range}
use Rattle.window.specs.Memory.{Memory, memory, capacity, page_count_of, block_count_of, words_per_page, words_per_block}
use Rattle.window.proofs.MemoryLaws.{capacity-pages, page-count-le}
use Rattle.window.specs.Refusals.{Fits}
use Rattle.model.specs.Window.{Page, Window, window, decode, is_retired}
use Rattle.model.specs.Pages.{PageDrained, page_drained, drain_page, holds_value}
use Rattle.model.specs.Steps.{returned_by, with_page, note_nonempty, remove_slots_of}
use Rattle.model.specs.Contract.{SamePast, SameLengths}
use Rattle.page_base.specs.declared.PageWords.{PageWords}
use Rattle.page_base.specs.Page.{words_at, part_of, page, Placed}
use Rattle.page_base.proofs.PartLaws.{with-part-length, part-past}
use Rattle.page_base.proofs.PlaceLaws.{placed}
use Rattle.page_base.proofs.DecodeLaws.{header_at, page-at}
use Rattle.page_remove.specs.declared.Settled.{Settled}
use Rattle.page_remove.specs.declared.drain.Drained.{Drained}
use Rattle.page_remove.specs.Remove.{SettledPage, settled_of, settle_page_of}
use Rattle.page_remove.specs.Promises.{Drains, stretch}
use Rattle.page_remove.proofs.RemoveLaws.{settled-told}
use Rattle.page_remove.proofs.DrainLaws.{drain-placed}
use Rattle.block_marks.specs.declared.Change.{Change}
use Rattle.block_marks.specs.Blocks.{block_words_at, block_of, changed}
use Rattle.block_marks.proofs.BlockLaws.{block_at}
use Rattle.block_marks.specs.Marks.{page_retired_of}
use Rattle.block_marks.proofs.MarkLaws.{page-retired-is}
use Rattle.page_store.specs.Promises as updates
use Rattle.page_store.specs.Promises.{Stores, after_remove_of, any_left}
use Rattle.page_store.proofs.StoreLaws.{stored-pages, stored-blocks, pages_past, blocks_past, decode-stored}
use Rattle.laws_soundness.specs.Change.{Limits, limits_of}
use Rattle.laws_soundness.specs.Retire.{Retiring}
use Rattle.range_retire.specs.declared.Retired.{Retired}
use Rattle.range_retire.specs.Slots.{take_slots_of}
use Rattle.range_retire.specs.Promises.{SettlesPage, Performs}
use Rattle.range_retire.proofs.PerformLaws.{performs-still, performs-as}

-- ---- page g of a window that fits its lists

pub record PageIn (h : AdaptiveReceiverPacketWindow) (g s v p b : ℕ) : Type 0 where
  pub few : g < 1024
  pub sequences : 64 * g + 64 ≤ s
  pub values : 64 * g + 64 ≤ v
  pub words : words_per_page * g + words_per_page ≤ p
  pub block : words_per_block * (g / 64) + words_per_block ≤ b
  pub block-below : g / 64 < block_count_of h.window_size
  pub cells : h.n < 64

pub page-in : (h : AdaptiveReceiverPacketWindow) (g s v p b : ℕ) → Fits h s v p b → g < page_count_of h.window_size → PageIn h g s v p b
page-in h g s v p b f l = let size = h.window_size in record {
  few = omega (arith, page-count-le size);
  sequences = omega (arith, capacity-pages size, f.long.sequences_long);
  values = omega (arith, capacity-pages size, f.long.values_long);
  words = omega (arith, f.long.pages_long);
  block = omega (arith, f.long.blocks_long);
  block-below = omega arith;
  cells = omega (arith, f.within.n_high);
}

-- its values are in their places
pub placed_at : (h : AdaptiveReceiverPacketWindow) (ss vs pages blocks : List ℕ) (g : ℕ) → Retiring (decode h (memory ss vs pages blocks)) → g < page_count_of h.window_size
    → Placed h.n (page (words_at pages g) (part_of g ss) (part_of g vs))
unfolding decode
placed_at h ss vs pages blocks g ok l =
    subst (Placed h.n) (page-at h (memory ss vs pages blocks) g l) (placed h.n (capacity h.window_size) g ((decode h (memory ss vs pages blocks)).pages g) (ok.proper.sound.page g l))

-- ---- the code's steps

module _ (h : AdaptiveReceiverPacketWindow) (ss vs pages blocks l : List ℕ) (g slots at : ℕ) (d : Drained) (s : Settled) (r : AdaptiveReceiverPacketWindow)
    (ss' vs' pages' blocks' l' : List ℕ) (fits : Fits h (length ss) (length vs) (length pages) (length blocks)) (below : g < page_count_of h.window_size) (room : at + 64 ≤ length l)
    (taken : Drains h.n (words_at pages g) (part_of g ss) (part_of g vs) slots at 64 l d l') (settles : SettlesPage h.demote_at g d.words ss vs s ss' vs')
    (stored : Stores (updates.Removed h (block_words_at blocks (g / 64)) g s.left Range d.count) pages blocks g s.words r pages' blocks') where
  in-lists : PageIn h g (length ss) (length vs) (length pages) (length blocks)
  in-lists = page-in h g (length ss) (length vs) (length pages) (length blocks) fits below

  -- how the header and the block's words change
  abbrev Removes : Change → Type 0
  Removes = updates.Removed h (block_words_at blocks (g / 64)) g s.left Range d.count

  abbrev change : Change
  change = record { window = r; block = stored.block }

  -- on any memory
  stays : limits_of r ≡ limits_of h
  unfolding note_nonempty
  stays =
      ap (λ (y : Window). limits_of y.header)
      (stored.changes.gives (window h (λ q. record { kind = 0; occupied = s.left.values; filled = 0; sequences = λ c. 0; values = λ c. 0 }) (λ b. block_of (block_words_at blocks (g / 64)))) refl refl refl)

  same-past : SamePast h.window_size (memory ss vs pages blocks) (memory ss' vs' pages' blocks')
  same-past = record {
    sequences = ap (drop (capacity h.window_size)) settles.sequences_are ∙ part-past h.window_size g ss settles.first below fits.long.sequences_long settles.full;
    values = ap (drop (capacity h.window_size)) settles.values_are ∙ part-past h.window_size g vs settles.second below fits.long.values_long settles.filled;
    pages = pages_past Removes pages blocks g s.words r pages' blocks' stored (page_count_of h.window_size) below;
    blocks = blocks_past Removes pages blocks g s.words r pages' blocks' stored (block_count_of h.window_size) in-lists.block-below;
  }

  same-lengths : SameLengths (memory ss vs pages blocks) (memory ss' vs' pages' blocks')
  same-lengths = record {
    sequences = ap length settles.sequences_are ∙ with-part-length g ss settles.first in-lists.sequences settles.full;
    values = ap length settles.values_are ∙ with-part-length g vs settles.second in-lists.values settles.filled;
    pages = stored-pages Removes pages blocks g s.words r pages' blocks' stored;
    blocks = stored-blocks Removes pages blocks g s.words r pages' blocks' stored;
  }

  -- as many values as were counted
  counted : length (stretch at d.count l') ≡ d.count
  counted = length-take-le d.count (drop at l') (omega (arith, taken.few, taken.wrote.long, length-drop at l'))

  abbrev v : Window
  v = decode h (memory ss vs pages blocks)

  -- what the model takes out of the page
  abbrev out : PageDrained
  out = drain_page 64 0 (is_set slots) 64 (v.pages g)

  abbrev p : Page
  p = page s.words settles.first settles.second

  module _ (ok : Retiring (decode h (memory ss vs pages blocks))) where
    drained-is : page_drained (page d.words (part_of g ss) (part_of g vs)) (stretch at d.count l') ≡ out
    drained-is = taken.gives (placed_at h ss vs pages blocks g ok below) ∙ ap (drain_page 64 0 (is_set slots) 64) (sym (page-at h (memory ss vs pages blocks) g below))

    settled_is : settled_of s settles.first settles.second ≡ settle_page_of h.demote_at out.page
    settled_is = settles.settled ∙ ap (λ (x : PageDrained). settle_page_of h.demote_at x.page) drained-is

    count-is : d.count ≡ length out.out
    count-is = sym counted ∙ ap (λ (x : PageDrained). length x.out) drained-is

    there : (with_page v g p).pages g ≡ p
    there = rw (eq-eqb g g refl)

    -- the page holds a value just if one was left
    told : holds_value ((with_page v g p).pages g) ≡ any_left s.left
    told =
        let rest = drain-placed (is_set slots) h.n 64 0 64 (v.pages g) (omega arith) (subst (Placed h.n) (sym (page-at h (memory ss vs pages blocks) g below)) (placed_at h ss vs pages blocks g ok below)) in
        ap holds_value there ∙ ap (λ (x : SettledPage). holds_value x.page) settled_is ∙ settled-told h.n out.page rest h.demote_at ∙ ap (λ (x : SettledPage). any_left x.left) (sym settled_is)

    noted : changed (with_page v g p) (g / 64) change ≡ after_remove_of (with_page v g p) g Range s.left.demoted d.count
    noted =
        stored.changes.gives (with_page v g p) (header_at h (memory ss vs pages blocks)) (block_at h (memory ss vs pages blocks) (g / 64) in-lists.block-below) told

    take-is : after_remove_of (with_page v g (settle_page_of h.demote_at out.page).page) g Range (settle_page_of h.demote_at out.page).left.demoted (length out.out) ≡ (take_slots_of v g (is_set slots)).after
    unfolding take_slots_of decode
    take-is = refl

    taken_is : decode r (memory ss' vs' pages' blocks') ≡ (take_slots_of v g (is_set slots)).after
    taken_is =
        (λ i. decode r (memory (settles.sequences_are i) (settles.values_are i) pages' blocks'))
        ∙ decode-stored Removes pages blocks g s.words r pages' blocks' stored h ss vs settles.first settles.second (ap (λ (y : Limits). y.size) stays)
        below in-lists.block-below in-lists.words fits.long.blocks_long in-lists.sequences in-lists.values settles.full settles.filled
        ∙ noted
        ∙ (λ i. after_remove_of (with_page v g (settled_is i).page) g Range (settled_is i).left.demoted (count-is i))
        ∙ take-is

    out-is : stretch at d.count l' ≡ (take_slots_of v g (is_set slots)).out
    unfolding take_slots_of
    out-is = ap (λ (x : PageDrained). x.out) drained-is

  pub takes-slots : Performs (λ (w : Window). take_slots_of w g (is_set slots)) 64 h (memory ss vs pages blocks) at l (record { window = r; count = d.count; sound = d.sound }) (memory ss' vs' pages' blocks') l'
  takes-slots = record {
    limits = stays;
    past = same-past;
    lengths = same-lengths;
    wrote = taken.wrote;
    few = taken.few;
    sound = λ ok. taken.sound (placed_at h ss vs pages blocks g ok below);
    gives = taken_is;
    out = out-is;
  }

-- ---- a page that is empty, or retired, and another

module _ (h : AdaptiveReceiverPacketWindow) (ss vs pages blocks l : List ℕ) (g slots at : ℕ) (below : g < page_count_of h.window_size) where
  abbrev w : Window
  w = decode h (memory ss vs pages blocks)

  -- whether the page is skipped
  abbrev skips : Bool
  skips = is_retired w g || not (holds_value (w.pages g))

  slots-are : remove_slots_of w g (is_set slots) ≡ cond skips (returned_by w []) (take_slots_of w g (is_set slots))
  unfolding remove_slots_of take_slots_of
  slots-are = refl

  skipped : skips ≡ true → Performs (λ (v : Window). remove_slots_of v g (is_set slots)) 64 h (memory ss vs pages blocks) at l (record { window = h; count = 0; sound = true }) (memory ss vs pages blocks) l
  skipped e =
      performs-still 64 h (memory ss vs pages blocks) at l (λ (v : Window). remove_slots_of v g (is_set slots))
      (slots-are ∙ ap (λ (t : Bool). cond t (returned_by w []) (take_slots_of w g (is_set slots))) e)

  occupied-is : (w.pages g).occupied ≡ (words_at pages g).occupied
  occupied-is = ap (λ (x : Page). x.occupied) (page-at h (memory ss vs pages blocks) g below)

  retired-is : (q : Bool) → q ≡ eqb (page_retired_of h.retired_blocks (block_words_at blocks (g / 64)) g) 1 → q ≡ is_retired w g
  retired-is q e =
      e
      ∙ page-retired-is w h.retired_blocks (block_words_at blocks (g / 64)) g (ap (λ (y : AdaptiveReceiverPacketWindow). y.retired_blocks) (header_at h (memory ss vs pages blocks)))
      (block_at h (memory ss vs pages blocks) (g / 64) (omega arith))

  module _ (x : PageWords) (found : x ≡ words_at pages g) where
    own-words : (w.pages g).occupied ≡ x.occupied
    own-words = occupied-is ∙ ap (λ (y : PageWords). y.occupied) (sym found)

    pub skips-empty : x.occupied ≡ 0 → Performs (λ (v : Window). remove_slots_of v g (is_set slots)) 64 h (memory ss vs pages blocks) at l (record { window = h; count = 0; sound = true }) (memory ss vs pages blocks) l
    skips-empty e = skipped (bool (is_retired w g) (λ t. rw t) (λ t. rw (t, own-words, e)))

    pub removes-slots : (q : Bool) → q ≡ eqb (page_retired_of h.retired_blocks (block_words_at blocks (g / 64)) g) 1 → q ≡ false → (x.occupied ≡ 0 → ⊥) → (r : Retired) (m' : Memory) (l' : List ℕ)
        → Performs (λ (v : Window). take_slots_of v g (is_set slots)) 64 h (memory ss vs pages blocks) at l r m' l'
        → Performs (λ (v : Window). remove_slots_of v g (is_set slots)) 64 h (memory ss vs pages blocks) at l r m' l'
    removes-slots q e o some r m' l' t =
        let live : is_retired w g ≡ false = sym (retired-is q e) ∙ o in
        let here : skips ≡ false = rw (live, ne_eqb (w.pages g).occupied 0 (λ z. some (sym own-words ∙ z))) in
        performs-as 64 h (memory ss vs pages blocks) at l 64 (λ (v : Window). take_slots_of v g (is_set slots)) (λ (v : Window). remove_slots_of v g (is_set slots)) r m' l' (omega arith)
        (sym (slots-are ∙ ap (λ (y : Bool). cond y (returned_by w []) (take_slots_of w g (is_set slots))) here)) t

-- a page that is retired is left as it is
pub retired-skipped : (h : AdaptiveReceiverPacketWindow) (m : Memory) (g slots : ℕ) → g < page_count_of h.window_size
    → eqb (page_retired_of h.retired_blocks (block_words_at m.blocks (g / 64)) g) 1 ≡ true → remove_slots_of (decode h m) g (is_set slots) ≡ returned_by (decode h m) []
retired-skipped h m g slots below o =
    let marked : is_retired (decode h m) g ≡ true = sym (retired-is h m.sequences m.values m.pages m.blocks [] g slots 0 below _ refl) ∙ o in
    slots-are h m.sequences m.values m.pages m.blocks [] g slots 0 below
    ∙ ap (λ (t : Bool). cond (t || not (holds_value ((decode h m).pages g))) (returned_by (decode h m) []) (take_slots_of (decode h m) g (is_set slots))) marked

-- what the tactics know of a page that is retired
pub ruleset skipping = (retired-skipped)
