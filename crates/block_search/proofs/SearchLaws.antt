-- What a search looks for, bit by bit, and in the model's terms where the window is sound. Assumes nothing.
use mathlib.Core.Path.{◌≡◌, refl, sym, ap, ◌∙◌}
use mathlib.Core.Bool.{Bool, true, false, not, ◌&&◌, ◌||◌, true≢false, and-true, and-false, and_comm}
use mathlib.Core.List.{List}
use Prim.Native.Nat.{ℕ, ◌+◌, ◌*◌, ◌/◌, ◌%◌, ◌^◌, ◌<◌}
use native.Mathlib.Omega.{arith}
use lib.Dec.{eqb}
use borrow.Author.Tests.{eqb-true, eq-eqb, ne_eqb, not-true, not-false}
use Rattle.words.proofs.CaseLaws.{bool, both}
use Rattle.words.specs.Word.{bit_at, is_set}
use Rattle.words.proofs.BitLaws.{bit-none}
use Rattle.words.proofs.WordLaws.{word_lt}
use Rattle.window.specs.declared.AdaptiveReceiverPacketWindow.{AdaptiveReceiverPacketWindow}
use Rattle.window.specs.Memory.{Memory, page_count_of}
use Rattle.model.specs.Table.{within}
use Rattle.model.specs.Demand3.{one}
use Rattle.model.specs.Window.{Window, pages_of, is_retired, decode}
use Rattle.model.specs.Pages.{holds_value}
use Rattle.model.specs.Sound.{Sound}
use Rattle.block_marks.specs.Blocks.{block_words_at, block_of}
use Rattle.block_marks.proofs.BlockLaws.{block_at}
use Rattle.words.proofs.TestLaws.{word_set}
use Rattle.block_search.specs.declared.Select.{Select}
use Rattle.block_search.specs.declared.Select.TheVariants.{Nonempty, Live, Retired}
use Rattle.block_search.specs.Search.{bits_within_of, chosen, is_selected, selected_pages_of}

-- ---- bit by bit

pub bits-within-set : (start end b i : ℕ) → i < 64 → is_set (bits_within_of start end b) i ≡ within start end (64 * b + i)
unfolding bits_within_of
bits-within-set start end b i h = word_set (λ (j : ℕ). within start end (64 * b + j)) i h

module _ (blocks : List ℕ) (summary retired_blocks : ℕ) (select : Select) where
  pub selected-lt : (b : ℕ) → selected_pages_of blocks retired_blocks b select < 2 ^ 64
  unfolding selected_pages_of
  selected-lt b =
      let x = block_words_at blocks b in
      word_lt (λ (i : ℕ). is_set x.nonempty i && chosen select (is_set retired_blocks b || is_set x.retired i)) 64

  -- a page is selected if the summary names its block and it is among the block's selected pages
  pub selected-in : (g : ℕ)
      → is_selected blocks summary retired_blocks select g ≡ (is_set summary (g / 64) && is_set (selected_pages_of blocks retired_blocks (g / 64) select) (g % 64))
  unfolding is_selected selected_pages_of
  selected-in g =
      let x = block_words_at blocks (g / 64) in
      ap (λ (t : Bool). is_set summary (g / 64) && t)
      (sym (word_set (λ (i : ℕ). is_set x.nonempty i && chosen select (is_set retired_blocks (g / 64) || is_set x.retired i)) (g % 64) (omega arith)))

-- ---- in the model's terms

one-test : (t : Bool) → eqb (one t) 1 ≡ t
one-test true = refl
one-test false = refl

-- page g holds a value: its block is named in the summary
named : (v : Window) → Sound v → (g : ℕ) → g < pages_of v → holds_value (v.pages g) ≡ true → is_set v.header.nonempty_summary (g / 64) ≡ true
named v ok g l e =
    let word = (v.blocks (g / 64)).nonempty in
    let held : bit_at word (g % 64) ≡ 1 = ok.nonempty g l ∙ ap one e in
    let some : eqb word 0 ≡ false = ne_eqb word 0 (λ z. omega (arith, held, ap (λ (w : ℕ). bit_at w (g % 64)) z, bit-none (g % 64))) in
    eq-eqb _ 1 (ok.summary (g / 64) (omega arith) ∙ ap (λ (t : Bool). one (not t)) some)

-- the words of a block of a sound window select the pages that hold a value and are looked for
pub pages-is : (v : Window) → Sound v → (blocks : List ℕ) (select : Select) (g : ℕ) → g < pages_of v
    → v.blocks (g / 64) ≡ block_of (block_words_at blocks (g / 64))
    → is_set (selected_pages_of blocks v.header.retired_blocks (g / 64) select) (g % 64) ≡ (holds_value (v.pages g) && chosen select (is_retired v g))
unfolding selected_pages_of
pages-is v ok blocks select g l f =
    let x = block_words_at blocks (g / 64) in
    let marks = is_set v.header.retired_blocks (g / 64) in
    let holds : is_set (v.blocks (g / 64)).nonempty (g % 64) ≡ holds_value (v.pages g) = ap (λ (d : ℕ). eqb d 1) (ok.nonempty g l) ∙ one-test _ in
    word_set (λ (i : ℕ). is_set x.nonempty i && chosen select (marks || is_set x.retired i)) (g % 64) (omega arith)
    ∙ (λ i. is_set (sym f i).nonempty (g % 64) && chosen select (marks || is_set (sym f i).retired (g % 64)))
    ∙ ap (λ (t : Bool). t && chosen select (is_retired v g)) holds

-- and so with the summary, which names their blocks
pub selected-is : (v : Window) → Sound v → (blocks : List ℕ) (select : Select) (g : ℕ) → g < pages_of v
    → v.blocks (g / 64) ≡ block_of (block_words_at blocks (g / 64))
    → is_selected blocks v.header.nonempty_summary v.header.retired_blocks select g
    ≡ (holds_value (v.pages g) && chosen select (is_retired v g))
selected-is v ok blocks select g l f =
    let summary = is_set v.header.nonempty_summary (g / 64) in
    selected-in blocks v.header.nonempty_summary v.header.retired_blocks select g
    ∙ ap (λ (t : Bool). summary && t) (pages-is v ok blocks select g l f)
    ∙ bool (holds_value (v.pages g)) (λ e. rw (named v ok g l e)) (λ e. rw e (and-false summary))

-- the same of a window read from the lent lists
pub selected-decode : (h : AdaptiveReceiverPacketWindow) (m : Memory) → Sound (decode h m) → (select : Select) (g : ℕ) → g < page_count_of h.window_size
    → is_selected m.blocks h.nonempty_summary h.retired_blocks select g
    ≡ (holds_value ((decode h m).pages g) && chosen select (is_retired (decode h m) g))
unfolding decode
selected-decode h m ok select g l = selected-is (decode h m) ok m.blocks select g l (block_at h m (g / 64) (omega arith))

pub pages-decode : (h : AdaptiveReceiverPacketWindow) (m : Memory) → Sound (decode h m) → (select : Select) (g : ℕ) → g < page_count_of h.window_size
    → is_set (selected_pages_of m.blocks h.retired_blocks (g / 64) select) (g % 64)
    ≡ (holds_value ((decode h m).pages g) && chosen select (is_retired (decode h m) g))
unfolding decode
pages-decode h m ok select g l = pages-is (decode h m) ok m.blocks select g l (block_at h m (g / 64) (omega arith))

-- in the order of the model's own tests
module _ (h : AdaptiveReceiverPacketWindow) (m : Memory) (ok : Sound (decode h m)) (g : ℕ) (below : g < page_count_of h.window_size) where
  pub selected-nonempty : is_selected m.blocks h.nonempty_summary h.retired_blocks Nonempty g ≡ holds_value ((decode h m).pages g)
  selected-nonempty = selected-decode h m ok Nonempty g below ∙ and-true (holds_value ((decode h m).pages g))

  pub selected-retired : is_selected m.blocks h.nonempty_summary h.retired_blocks Retired g
      ≡ (is_retired (decode h m) g && holds_value ((decode h m).pages g))
  selected-retired = selected-decode h m ok Retired g below ∙ and_comm (holds_value ((decode h m).pages g)) (is_retired (decode h m) g)

  -- of live pages, by a test that tells them: one that is selected, and one that is not and is not retired
  module _ (test : Bool) (tells : test ≡ (holds_value ((decode h m).pages g) && not (is_retired (decode h m) g))) where
    pub live-page : test ≡ true → (holds_value ((decode h m).pages g) ≡ true) × (is_retired (decode h m) g ≡ false)
    live-page s =
        let t = both (holds_value ((decode h m).pages g)) (not (is_retired (decode h m) g)) (sym tells ∙ s) in
        (t.0, not-true (is_retired (decode h m) g) t.1)

    pub empty-page : test ≡ false → is_retired (decode h m) g ≡ false → ((decode h m).pages g).occupied ≡ 0
    empty-page e r =
        bool (holds_value ((decode h m).pages g))
        (λ a. absurd (true≢false (sym (rw (a, r) refl) ∙ sym tells ∙ e)))
        (λ a. eqb-true ((decode h m).pages g).occupied 0 (not-false (eqb ((decode h m).pages g).occupied 0) a))

  -- with the summary
  pub live-selected : is_selected m.blocks h.nonempty_summary h.retired_blocks Live g ≡ true
      → (holds_value ((decode h m).pages g) ≡ true) × (is_retired (decode h m) g ≡ false)
  live-selected = live-page _ (selected-decode h m ok Live g below)

  pub unselected-empty : is_selected m.blocks h.nonempty_summary h.retired_blocks Live g ≡ false → is_retired (decode h m) g ≡ false
      → ((decode h m).pages g).occupied ≡ 0
  unselected-empty = empty-page _ (selected-decode h m ok Live g below)

  -- by the words of its block alone
  pub live-in-block : is_set (selected_pages_of m.blocks h.retired_blocks (g / 64) Live) (g % 64) ≡ true
      → (holds_value ((decode h m).pages g) ≡ true) × (is_retired (decode h m) g ≡ false)
  live-in-block = live-page _ (pages-decode h m ok Live g below)

  pub empty-in-block : is_set (selected_pages_of m.blocks h.retired_blocks (g / 64) Live) (g % 64) ≡ false → is_retired (decode h m) g ≡ false
      → ((decode h m).pages g).occupied ≡ 0
  empty-in-block = empty-page _ (pages-decode h m ok Live g below)
