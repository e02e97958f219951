-- The model's window, read from the lent lists: its header, one page, and the window with one page written. Assumes nothing.
use mathlib.Core.Path.{◌≡◌, refl, sym, ap, ◌∙◌}
use mathlib.Core.List.{List}
use Prim.Native.Nat.{ℕ, ◌+◌, ◌*◌, ◌≤◌, ◌<◌}
use native.Mathlib.Omega.{arith}
use native.Mathlib.Decide.{ℕ_discrete}
use lib.ListN.{length, get_or}
use borrow.Author.Tests.{lt-ltb, eq-eqb, ne_eqb}
use Rattle.window.specs.declared.AdaptiveReceiverPacketWindow.{AdaptiveReceiverPacketWindow}
use Rattle.window.specs.Memory.{Memory, memory, page_count_of, words_per_page, RowIn, word_at}
use Rattle.window.proofs.WordListLaws.{words-other, words-own}
use Rattle.model.specs.Window.{decode, page_at, upd}
use Rattle.model.specs.Steps.{with_page}
use Rattle.page_base.specs.declared.PageWords.{PageWords}
use Rattle.page_base.specs.Page.{words_at, page_row, with_page_words, part_of, with_part, cells, page}
use Rattle.page_base.proofs.PartLaws.{cells-part, cells-other, part_same}

pub header_at : (h : AdaptiveReceiverPacketWindow) (m : Memory) → (decode h m).header ≡ h
unfolding decode
header_at h m = refl

-- the page that the model reads is that of its words and parts
read-page : (m : Memory) (g : ℕ) → page_at m g ≡ page (words_at m.pages g) (part_of g m.sequences) (part_of g m.values)
unfolding words_at
read-page m g = λ i. record {
  kind = word_at words_per_page m.pages g 0;
  occupied = word_at words_per_page m.pages g 1;
  filled = word_at words_per_page m.pages g 2;
  sequences = sym (cells-part g m.sequences) i;
  values = sym (cells-part g m.values) i;
}

pub page-at : (h : AdaptiveReceiverPacketWindow) (m : Memory) (g : ℕ) → g < page_count_of h.window_size
    → (decode h m).pages g ≡ page (words_at m.pages g) (part_of g m.sequences) (part_of g m.values)
unfolding decode
page-at h m g l = rw (lt-ltb g (page_count_of h.window_size) l) (read-page m g)

-- page g written: its words and both its parts
module _ (m : Memory) (g : ℕ) (x : PageWords) (ss vs : List ℕ)
    (words : RowIn words_per_page g m.pages) (first : 64 * g + 64 ≤ length m.sequences) (second : 64 * g + 64 ≤ length m.values)
    (full : length ss ≡ 64) (filled : length vs ≡ 64) where
  abbrev pub written : Memory
  written = memory (with_part g m.sequences ss) (with_part g m.values vs) (with_page_words m.pages g x) m.blocks

  same-page : page_at written g ≡ page x ss vs
  same-page = λ i. record {
    kind = own 0 (omega arith) i;
    occupied = own 1 (omega arith) i;
    filled = own 2 (omega arith) i;
    sequences = (sym (cells-part g (with_part g m.sequences ss)) ∙ ap cells (part_same g m.sequences ss first full)) i;
    values = (sym (cells-part g (with_part g m.values vs)) ∙ ap cells (part_same g m.values vs second filled)) i;
  }
    where
      own : (k : ℕ) → k < words_per_page → word_at words_per_page (with_page_words m.pages g x) g k ≡ get_or (page_row x) k 0
      own = words-own words_per_page m.pages g (page_row x) refl words

  other-page : (r : ℕ) → (r ≡ g → ⊥) → page_at written r ≡ page_at m r
  other-page r n = λ i. record {
    kind = kept 0 (omega arith) i;
    occupied = kept 1 (omega arith) i;
    filled = kept 2 (omega arith) i;
    sequences = cells-other g m.sequences ss first full r n i;
    values = cells-other g m.values vs second filled r n i;
  }
    where
      kept : (k : ℕ) → k < words_per_page → word_at words_per_page (with_page_words m.pages g x) r k ≡ word_at words_per_page m.pages r k
      kept k l = words-other words_per_page m.pages g (page_row x) refl r k n l

  pub decode-page : (h : AdaptiveReceiverPacketWindow) → g < page_count_of h.window_size → decode h written ≡ with_page (decode h m) g (page x ss vs)
  unfolding decode
  decode-page h l = λ i. record { header = h; pages = λ r. each r i; blocks = (decode h m).blocks }
    where
      each : (r : ℕ) → (decode h written).pages r ≡ upd (decode h m).pages g (page x ss vs) r
      each r = elim (ℕ_discrete r g) [
        | yes e ↦ rw (eq-eqb r g e, e, lt-ltb g (page_count_of h.window_size) l) same-page
        | no e ↦ rw (ne_eqb r g e, other-page r e)
      ]
