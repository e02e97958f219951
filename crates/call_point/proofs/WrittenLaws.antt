-- The lists after one page was written, what they read as, and what a call promises that wrote no other page. Assumes nothing.
use mathlib.Core.Path.{◌≡◌, refl, sym, ap, ◌∙◌}
use mathlib.Core.List.{List, []}
use Prim.Native.Nat.{ℕ, ◌+◌, ◌*◌, ◌-◌, ◌/◌, ◌≤◌, ◌<◌}
use native.Mathlib.Decide.{ℕ_discrete}
use native.Mathlib.Omega.{arith}
use lib.ListN.{length, take, drop}
use borrow.Author.Tests.{lt-ltb, eq-eqb, ne_eqb}
use borrow.Rule.Slice.PartMut.{put_mid}
use Rattle.window.specs.declared.AdaptiveReceiverPacketWindow.{AdaptiveReceiverPacketWindow}
use Rattle.window.specs.declared.answers.Step.{Step}
use Rattle.window.specs.Memory.{Memory, memory, capacity, page_count_of, block_count_of, words_per_page, words_per_block}
use Rattle.window.specs.Refusals.{Fits}
use Rattle.model.specs.Calls.{Call, refused}
use Rattle.model.specs.Window.{Page, Window, decode, page_at, upd}
use Rattle.model.specs.Steps.{Effect, effect, window_does, with_page}
use Rattle.model.specs.Sound.{Sound}
use Rattle.model.specs.Contract.{SamePast, SameLengths}
use Rattle.page_base.specs.declared.PageWords.{PageWords}
use Rattle.page_base.specs.Page.{words_at, part_of, with_part, cells, page}
use Rattle.page_base.proofs.PartLaws.{cells-part, cells-other, part_length, part-own, part_same, with-part-length, part-past}
use Rattle.page_base.proofs.LentPartLaws.{lent, back}
use Rattle.block_marks.specs.declared.Change.{Change}
use Rattle.block_marks.specs.Blocks.{changed}
use Rattle.page_store.specs.Promises.{Stores}
use Rattle.page_store.proofs.StoreLaws.{change, decode-stored}
use Rattle.call_base.specs.Answers.{answer_of, state_of, left_of}
use Rattle.call_base.specs.Promises.{Admitted}
use Rattle.call_base.proofs.FitLaws.{page-bounds}
use Rattle.call_point.specs.Promises.{Cells, PageOnly}

-- ---- a page that was put

pub put-there : (v : Window) (g : ℕ) (q : Page) → (with_page v g q).pages g ≡ q
put-there v g q = rw (eq-eqb g g refl)

page-own : (v : Window) (g r : ℕ) → upd v.pages g (v.pages g) r ≡ v.pages r
page-own v g r = elim (ℕ_discrete r g) [ yes e ↦ rw (e, eq-eqb g g refl) | no e ↦ rw (ne_eqb r g e) ]

-- as it was
pub same-page : (v : Window) (g : ℕ) → with_page v g (v.pages g) ≡ v
same-page v g = λ i. record { header = v.header; pages = λ r. page-own v g r i; blocks = v.blocks }

-- ---- the cells of a page

-- its part, lent and given back as ys
abbrev pub lent-cells : (g : ℕ) (xs ys : List ℕ) → 64 * g + 64 ≤ length xs → length ys ≡ length (take ((64 * g + 64) - 64 * g) (drop (64 * g) xs))
    → Cells g xs (put_mid (64 * g) ((64 * g + 64) - 64 * g) xs ys)
lent-cells g xs ys l kept = record { part = ys; full = kept ∙ ap length (lent g xs) ∙ part_length g xs l; are = back g xs ys }

-- as they were
abbrev pub same-cells : (g : ℕ) (list : List ℕ) → 64 * g + 64 ≤ length list → Cells g list list
same-cells g list l = record { part = part_of g list; full = part_length g list l; are = sym (part-own g list) }

abbrev pub same-only : (g : ℕ) (m : Memory) → 64 * g + 64 ≤ length m.sequences → 64 * g + 64 ≤ length m.values → PageOnly g m m
same-only g m first second = record {
  sequences = same-cells g m.sequences first;
  values = same-cells g m.values second;
  words = record { pages_long = refl; blocks_long = refl; pages_past = λ n l. refl; blocks_past = λ n l. refl };
}

-- ---- what the lists read as

module _ (m : Memory) (g : ℕ) (xs ys : List ℕ) (first : 64 * g + 64 ≤ length m.sequences) (second : 64 * g + 64 ≤ length m.values)
    (full : length xs ≡ 64) (filled : length ys ≡ 64) where
  abbrev written : Memory
  written = memory (with_part g m.sequences xs) (with_part g m.values ys) m.pages m.blocks

  read_same : page_at written g ≡ page (words_at m.pages g) xs ys
  unfolding words_at
  read_same = λ i. record {
    kind = (words_at m.pages g).kind;
    occupied = (words_at m.pages g).occupied;
    filled = (words_at m.pages g).filled;
    sequences = (sym (cells-part g (with_part g m.sequences xs)) ∙ ap cells (part_same g m.sequences xs first full)) i;
    values = (sym (cells-part g (with_part g m.values ys)) ∙ ap cells (part_same g m.values ys second filled)) i;
  }

  read-other : (r : ℕ) → (r ≡ g → ⊥) → page_at written r ≡ page_at m r
  read-other r n = λ i. record {
    kind = (page_at m r).kind;
    occupied = (page_at m r).occupied;
    filled = (page_at m r).filled;
    sequences = cells-other g m.sequences xs first full r n i;
    values = cells-other g m.values ys second filled r n i;
  }

  decode-parts : (h : AdaptiveReceiverPacketWindow) → g < page_count_of h.window_size
      → decode h (memory (with_part g m.sequences xs) (with_part g m.values ys) m.pages m.blocks) ≡ with_page (decode h m) g (page (words_at m.pages g) xs ys)
  unfolding decode
  decode-parts h l = λ i. record { header = h; pages = λ r. each r i; blocks = (decode h m).blocks }
    where
      each : (r : ℕ) → (decode h written).pages r ≡ upd (decode h m).pages g (page (words_at m.pages g) xs ys) r
      each r = elim (ℕ_discrete r g) [
        | yes e ↦ rw (eq-eqb r g e, e, lt-ltb g (page_count_of h.window_size) l) read_same
        | no e ↦ rw (ne_eqb r g e, read-other r e)
      ]

module _ (h : AdaptiveReceiverPacketWindow) (m : Memory) (g : ℕ) (below : g < page_count_of h.window_size)
    (first : 64 * g + 64 ≤ length m.sequences) (second : 64 * g + 64 ≤ length m.values)
    (ss vs : List ℕ) (a : Cells g m.sequences ss) (b : Cells g m.values vs) where
  -- the cells of page g written, its words as they were
  pub decode-cells : decode h (memory ss vs m.pages m.blocks) ≡ with_page (decode h m) g (page (words_at m.pages g) a.part b.part)
  decode-cells = (λ i. decode h (memory (a.are i) (b.are i) m.pages m.blocks)) ∙ decode-parts m g a.part b.part first second a.full b.full h below

  -- its words w written too, and those of its block with the header r
  pub decode-kept : (P : Change → Type 0) (w : PageWords) (r : AdaptiveReceiverPacketWindow) (pages blocks : List ℕ) (t : Stores P m.pages m.blocks g w r pages blocks)
      → r.window_size ≡ h.window_size → words_per_page * page_count_of h.window_size ≤ length m.pages → words_per_block * block_count_of h.window_size ≤ length m.blocks
      → decode r (memory ss vs pages blocks) ≡ changed (with_page (decode h m) g (page w a.part b.part)) (g / 64) (change P m.pages m.blocks g w r pages blocks t)
  decode-kept P w r pages blocks t same third fourth =
      (λ i. decode r (memory (a.are i) (b.are i) pages blocks))
      ∙ decode-stored P m.pages m.blocks g w r pages blocks t h m.sequences m.values a.part b.part same below
      (page-bounds h.window_size g below).block (omega (arith, below, third)) fourth first second a.full b.full

-- ---- a call that wrote page g alone

-- refusal 6 does not apply
abbrev pub FitsIn : AdaptiveReceiverPacketWindow → Memory → Type 0
FitsIn h m = Fits h (length m.sequences) (length m.values) (length m.pages) (length m.blocks)

module _ (h : AdaptiveReceiverPacketWindow) (m m' : Memory) (fit : FitsIn h m) (g : ℕ) (below : g < page_count_of h.window_size) (o : PageOnly g m m') where
  pub only-past : SamePast h.window_size m m'
  only-past = record {
    sequences = ap (drop (capacity h.window_size)) o.sequences.are ∙ part-past h.window_size g m.sequences o.sequences.part below fit.long.sequences_long o.sequences.full;
    values = ap (drop (capacity h.window_size)) o.values.are ∙ part-past h.window_size g m.values o.values.part below fit.long.values_long o.values.full;
    pages = o.words.pages_past (page_count_of h.window_size) below;
    blocks = o.words.blocks_past (block_count_of h.window_size) (page-bounds h.window_size g below).block;
  }

  pub only-lengths : SameLengths m m'
  only-lengths =
      let in_cells = (page-bounds h.window_size g below).cells in
      record {
        sequences = ap length o.sequences.are ∙ with-part-length g m.sequences o.sequences.part (omega (arith, in_cells, fit.long.sequences_long)) o.sequences.full;
        values = ap length o.values.are ∙ with-part-length g m.values o.values.part (omega (arith, in_cells, fit.long.values_long)) o.values.full;
        pages = o.words.pages_long;
        blocks = o.words.blocks_long;
      }

  -- it takes no return list, and is not refused 4
  pub page-admitted : (c : Call) (r : Step) → r.answer.count ≡ 0 → (answer_of r.answer.answer ≡ refused 4 → ⊥)
      → (Sound (decode h m) → effect (decode r.window m') (answer_of r.answer.answer) [] ≡ window_does (decode h m) c)
      → Admitted c (state_of h m) [] (left_of r m' [])
  page-admitted c r none taken does = record {
    sound = λ ok. record {
      answer = ap (λ (x : Effect). x.answer) (does ok);
      window = ap (λ (x : Effect). x.after) (does ok);
      returned = ap (λ (k : ℕ). take k []) none ∙ ap (λ (x : Effect). x.returned) (does ok);
      count = none ∙ ap (λ (x : Effect). length x.returned) (does ok);
    };
    occupied = λ ok q. absurd (taken q);
    none_with_4 = λ q. none;
    past_list = refl;
    long_list = refl;
    count_fits = omega (arith, none);
    past_memory = only-past;
    lengths = only-lengths;
  }
