-- An insert into a live page, over plain variables. Assumes nothing.
use mathlib.Core.Path.{◌≡◌, refl, sym, ap, ◌∙◌, subst}
use mathlib.Core.Bool.{true, false, true≢false}
use mathlib.Core.List.{List}
use Prim.Native.Nat.{ℕ, ◌+◌, ◌*◌, ◌-◌, ◌/◌, ◌%◌, ◌^◌, ◌≤◌, ◌<◌}
use native.Mathlib.Omega.{arith}
use lib.Dec.{eqb, ltb}
use lib.ListN.{length, take, drop}
use lib.Seq.{ext_get_or}
use borrow.Author.Tests.{ne_eqb}
use borrow.Rule.Slice.PartMut.{put_mid}
use Rattle.words.proofs.CaseLaws.{bool}
use Rattle.words.specs.Word.{bit_at, count}
use Rattle.words.proofs.BitLaws.{bit-none}
use Rattle.window.specs.declared.AdaptiveReceiverPacketWindow.{AdaptiveReceiverPacketWindow}
use Rattle.window.specs.Memory.{Memory, memory, block_count_of}
use Rattle.window.proofs.MemoryLaws.{capacity-le}
use Rattle.model.specs.Calls.{new, refused}
use Rattle.model.specs.Window.{Page, Block, Window, decode, cell_of}
use Rattle.model.specs.Pages as one
use Rattle.model.specs.Pages.{holds_value, insert_new_of, insert_over, insert_page}
use Rattle.model.specs.Steps.{with_page, put_page, note_nonempty, add_live_of, count_promotion_of, is_new}
use Rattle.page_base.specs.declared.PageWords.{PageWords}
use Rattle.page_base.specs.Page.{words_at, part_of, with_part, cells, page, Placed}
use Rattle.page_base.proofs.PartLaws.{cell_in, part_length, part-own}
use Rattle.page_base.proofs.DecodeLaws.{page-at}
use Rattle.page_base.proofs.LiveLaws.{page-placed}
use Rattle.page_base.proofs.LentPartLaws.{lent_both}
use Rattle.page_insert.specs.declared.Inserted.{Inserted}
use Rattle.page_insert.specs.Insert as insert
use Rattle.page_insert.specs.Insert.{inserted_of}
use Rattle.page_insert.specs.Promises.{Inserts}
use Rattle.page_insert.proofs.InsertLaws.{insert-leaves}
use Rattle.block_marks.specs.Blocks.{block_words_at, changed}
use Rattle.block_marks.proofs.BlockLaws.{block_at}
use Rattle.page_store.specs.Promises.{after_insert_of}
use Rattle.page_store.proofs.StoreLaws.{change}
use Rattle.laws_soundness.proofs.BoundLaws.{len-le, live-le}
use Rattle.call_base.specs.Answers.{answer_of, state_of}
use Rattle.call_base.proofs.FitLaws.{page-bounds}
use Rattle.call_point.specs.declared.insert.Put.{Put}
use Rattle.call_point.specs.Promises.{Cells, InsertsIn, Keeps, after_put, Placing, InsertsLive}
use Rattle.call_point.proofs.WrittenLaws.{put-there, lent-cells, decode-cells, decode-kept}
use Rattle.call_point.proofs.ReachLaws.{is_refusal}

-- ---- the parts of page g lent

pub insert-lent : (g n : ℕ) (w : PageWords) (ss vs : List ℕ) (s v : ℕ) (x : Inserted) (xs ys : List ℕ) → 64 * g + 64 ≤ length ss → 64 * g + 64 ≤ length vs
    → length xs ≡ length (take ((64 * g + 64) - 64 * g) (drop (64 * g) ss)) → length ys ≡ length (take ((64 * g + 64) - 64 * g) (drop (64 * g) vs))
    → Inserts n w (take ((64 * g + 64) - 64 * g) (drop (64 * g) ss)) (take ((64 * g + 64) - 64 * g) (drop (64 * g) vs)) s v x xs ys
    → InsertsIn g n w ss vs s v x (put_mid (64 * g) ((64 * g + 64) - 64 * g) ss xs) (put_mid (64 * g) ((64 * g + 64) - 64 * g) vs ys)
insert-lent g n w ss vs s v x xs ys first second kept held t = record {
  sequences = lent-cells g ss xs first kept;
  values = lent-cells g vs ys second held;
  does = lent_both g ss vs (λ (k l : List ℕ). Inserts n w k l s v x xs ys) t;
}

-- ---- a page that got no new value: its words stay, and a refusal leaves its cells too

record Old (p : Page) (i : one.Inserted) : Type 0 where
  kind : is_new i.answer ≡ false → i.page.kind ≡ p.kind
  occupied : is_new i.answer ≡ false → i.page.occupied ≡ p.occupied
  filled : is_new i.answer ≡ false → i.page.filled ≡ p.filled
  whole : is_refusal i.answer ≡ true → i.page ≡ p

module _ (n : ℕ) (p : Page) (s v : ℕ) where
  old-over : (c : ℕ) → Old p (insert_over p c s v)
  old-over c =
      bool (eqb (p.sequences c) s)
      (λ e. rw e (record { kind = λ t. refl; occupied = λ t. refl; filled = λ t. refl; whole = λ t. absurd (true≢false (sym t)) }))
      (λ e. rw e (record { kind = λ t. refl; occupied = λ t. refl; filled = λ t. refl; whole = λ t. refl }))

  new-answer : (insert_new_of n p s v).answer ≡ new
  new-answer = bool (eqb p.kind 2) (λ e. rw e) (λ e. rw e (bool (ltb (count p.occupied) n) (λ q. rw q) (λ q. rw q)))

  old-new : Old p (insert_new_of n p s v)
  old-new = record {
    kind = λ t. absurd (is-new t);
    occupied = λ t. absurd (is-new t);
    filled = λ t. absurd (is-new t);
    whole = λ t. absurd (true≢false (sym t ∙ ap is_refusal new-answer));
  }
    where
      is-new : is_new (insert_new_of n p s v).answer ≡ false → ⊥
      is-new t = true≢false (sym (ap is_new new-answer) ∙ t)

  old-page : Old p (insert_page n p s v)
  unfolding insert_page
  old-page = bool (ltb (cell_of p (s % 64)) 64) (λ e. rw e (old-over (cell_of p (s % 64)))) (λ e. rw e old-new)

-- ---- a page that got a value holds one

holds-one : (p : Page) (k : ℕ) → bit_at p.occupied k ≡ 1 → holds_value p ≡ true
holds-one p k e = rw (ne_eqb p.occupied 0 (λ z. omega (arith, e, ap (λ (w : ℕ). bit_at w k) z, bit-none k)))

-- ---- full parts with the same cells are equal

same-part : (xs ys : List ℕ) → length xs ≡ 64 → length ys ≡ 64 → cells xs ≡ cells ys → xs ≡ ys
same-part xs ys full filled e =
    ext_get_or 0 xs ys (full ∙ sym filled) (λ c l. sym (cell_in xs c (omega arith)) ∙ (λ i. e i c) ∙ cell_in ys c (omega arith))

cells-as-they-were : (g : ℕ) (list list' : List ℕ) (a : Cells g list list') → 64 * g + 64 ≤ length list → cells a.part ≡ cells (part_of g list) → list' ≡ list
cells-as-they-were g list list' a l e = a.are ∙ ap (with_part g list) (same-part a.part (part_of g list) a.full (part_length g list l) e) ∙ part-own g list

-- ---- the window after it, by the answer

module _ (w : Window) (g : ℕ) (i : one.Inserted) where
  after-new : is_new i.answer ≡ true → after_put w g i ≡ add_live_of (count_promotion_of (put_page w g i.page) i.promotes) (g / 64) 1
  after-new e = rw e

  after-old : is_new i.answer ≡ false → after_put w g i ≡ with_page w g i.page
  after-old e = rw e

-- x is what the page's insert gave, ss and vs the cells afterwards; p, pages and blocks are what was kept of it
module _ (h : AdaptiveReceiverPacketWindow) (m : Memory) (g n s v : ℕ) (first : 64 * g + 64 ≤ length m.sequences) (second : 64 * g + 64 ≤ length m.values) (few : n < 64) where
  abbrev here : Page
  here = page (words_at m.pages g) (part_of g m.sequences) (part_of g m.values)

  abbrev gave : one.Inserted
  gave = insert_page n here s v

  module _ (x : Inserted) (ss vs : List ℕ) (t : InsertsIn g n (words_at m.pages g) m.sequences m.values s v x ss vs)
      (p : Put) (pages blocks : List ℕ) (kept : Keeps h m.pages m.blocks g x p pages blocks) where
    abbrev own : Page
    own = page x.words t.sequences.part t.values.part

    abbrev after : Window
    after = with_page (decode h m) g own

    module _ (ok : Placing h m g n) where
      placed : Placed n here
      placed = subst (λ (k : ℕ). Placed k here) ok.cells (page-placed h m ok.sound g ok.below)

      is_inserted : inserted_of x t.sequences.part t.values.part ≡ gave
      is_inserted = t.does.gives placed

      answers : answer_of p.answer ≡ gave.answer
      answers = kept.answer ∙ ap (λ (i : one.Inserted). i.answer) is_inserted

      -- ---- a new value: the words of the page and of its block were written
      module _ (e : is_new (answer_of p.answer) ≡ true) where
        in_block : g / 64 < block_count_of h.window_size
        in_block = (page-bounds h.window_size g ok.below).block

        held : holds_value (after.pages g) ≡ true
        held =
            ap holds_value (put-there (decode h m) g own)
            ∙ ap (λ (i : one.Inserted). holds_value i.page) is_inserted
            ∙ holds-one gave.page (s % 64) (insert-leaves n here s v placed few).taken

        len-fits : h.len + 1 < 2 ^ 32
        unfolding decode
        len-fits = omega (arith, len-le (decode h m) ok.sound, capacity-le h.window_size)

        live-most : ((decode h m).blocks (g / 64)).live ≤ 4096
        unfolding decode
        live-most = live-le (decode h m) ok.sound (g / 64) in_block

        live-fits : (block_words_at m.blocks (g / 64)).live + 1 < 2 ^ 64
        live-fits = omega (arith, live-most, ap (λ (b : Block). b.live) (block_at h m (g / 64) in_block))

        changes : changed after (g / 64) (change _ _ _ _ _ _ _ _ (kept.new e)) ≡ after_insert_of after g (insert.promotes x.answer)
        unfolding decode
        changes = (kept.new e).changes.gives after refl (block_at h m (g / 64) in_block) held len-fits live-fits

        same_size : p.window.window_size ≡ h.window_size
        unfolding decode note_nonempty
        same_size = ap (λ (u : Window). u.header.window_size) changes

        new-gives : decode p.window (memory ss vs pages blocks) ≡ after_put (decode h m) g gave
        new-gives =
            decode-kept h m g ok.below first second ss vs t.sequences t.values _ x.words p.window pages blocks (kept.new e) same_size ok.pages_long ok.blocks_long
            ∙ changes
            ∙ (λ i. after_insert_of (with_page (decode h m) g (is_inserted i).page) g (is_inserted i).promotes)
            ∙ sym (after-new (decode h m) g gave (sym (ap is_new answers) ∙ e))

      -- ---- any other answer: the cells alone were written
      module _ (e : is_new (answer_of p.answer) ≡ false) where
        not_new : is_new gave.answer ≡ false
        not_new = sym (ap is_new answers) ∙ e

        same-words : page (words_at m.pages g) t.sequences.part t.values.part ≡ gave.page
        same-words = λ i. record {
          kind = sym ((old-page n here s v).kind not_new) i;
          occupied = sym ((old-page n here s v).occupied not_new) i;
          filled = sym ((old-page n here s v).filled not_new) i;
          sequences = (is_inserted i).page.sequences;
          values = (is_inserted i).page.values;
        }

        old-gives : decode p.window (memory ss vs pages blocks) ≡ after_put (decode h m) g gave
        old-gives =
            let u = kept.old e in
            (λ i. decode (u.header i) (memory ss vs (u.pages_are i) (u.blocks_are i)))
            ∙ decode-cells h m g ok.below first second ss vs t.sequences t.values
            ∙ ap (with_page (decode h m) g) same-words ∙ sym (after-old (decode h m) g gave not_new)

      -- ---- a refusal
      as_it_was : answer_of p.answer ≡ refused 4 → state_of p.window (memory ss vs pages blocks) ≡ state_of h m
      as_it_was e =
          let u = kept.old (ap is_new e) in
          let same : own ≡ here = ap (λ (i : one.Inserted). i.page) is_inserted ∙ (old-page n here s v).whole (ap is_refusal (sym answers ∙ e)) in
          let k = cells-as-they-were g m.sequences ss t.sequences first (ap (λ (q : Page). q.sequences) same) in
          let l = cells-as-they-were g m.values vs t.values second (ap (λ (q : Page). q.values) same) in
          λ i. state_of (u.header i) (memory (k i) (l i) (u.pages_are i) (u.blocks_are i))

      is-page : (decode h m).pages g ≡ here
      is-page = page-at h m g ok.below

    puts : InsertsLive h m g n s v p (memory ss vs pages blocks)
    puts = record {
      only = record { sequences = t.sequences; values = t.values; words = kept.within };
      answer = λ ok. answers ok ∙ ap (λ (q : Page). (insert_page n q s v).answer) (sym (is-page ok));
      gives = λ ok.
          bool (is_new (answer_of p.answer)) (new-gives ok) (old-gives ok)
          ∙ ap (λ (q : Page). after_put (decode h m) g (insert_page n q s v)) (sym (is-page ok));
      refused = as_it_was;
    }

  pub inserts-live : (w : PageWords) → w ≡ words_at m.pages g → (x : Inserted) (ss vs : List ℕ) → InsertsIn g n w m.sequences m.values s v x ss vs
      → (p : Put) (pages blocks : List ℕ) → Keeps h m.pages m.blocks g x p pages blocks → InsertsLive h m g n s v p (memory ss vs pages blocks)
  inserts-live w ew x ss vs t p pages blocks kept =
      puts x ss vs (subst (λ (u : PageWords). InsertsIn g n u m.sequences m.values s v x ss vs) ew t) p pages blocks kept
