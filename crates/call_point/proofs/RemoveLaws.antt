-- remove, over plain variables. Assumes nothing.
use mathlib.Core.Path.{◌≡◌, refl, sym, ap, ◌∙◌, subst}
use mathlib.Core.Bool.{Bool, true, false, true≢false}
use mathlib.Core.Option as table
use mathlib.Core.Option.{none, some}
use mathlib.Core.List.{List, []}
use Prim.Native.Nat.{ℕ, ◌+◌, ◌*◌, ◌-◌, ◌/◌, ◌%◌, ◌≤◌, ◌<◌}
use lib.Dec.{eqb}
use lib.ListN.{length, take, drop}
use Rattle.std.specs.Prelude.{Option, None, Some, Ok}
use borrow.Rule.Slice.PartMut.{put_mid}
use Rattle.words.proofs.CaseLaws.{bool}
use Rattle.window.specs.declared.AdaptiveReceiverPacketWindow.{AdaptiveReceiverPacketWindow}
use Rattle.window.specs.declared.Cause.TheVariants.{Single}
use Rattle.window.specs.declared.answers.Answer.TheVariants.{Absent}
use Rattle.window.specs.declared.answers.Step.{Step}
use Rattle.window.specs.Memory.{Memory, memory, position, page_count_of}
use Rattle.model.specs.Calls as model
use Rattle.model.specs.Calls.{remove, absent, found}
use Rattle.model.specs.Table.{Pair, value_if, finds}
use Rattle.model.specs.Window.{Page, Window, decode, stands_at, cell_of}
use Rattle.model.specs.Pages.{take_cell_of, demotes, after_removal, holds_value}
use Rattle.model.specs.Steps.{effect, window_does, remove_step, with_page, count_demotion_of, note_nonempty, put_page, sub_live_of}
use Rattle.model.specs.Sound.{Sound}
use Rattle.page_base.specs.declared.PageWords.{PageWords}
use Rattle.page_base.specs.Page.{words_at, part_of, page}
use Rattle.page_base.specs.Promises.{read_answer_of, read_of}
use Rattle.page_base.proofs.DecodeLaws.{page-at}
use Rattle.page_base.proofs.LiveLaws.{page-placed}
use Rattle.page_base.proofs.LentPartLaws.{lent_both}
use Rattle.page_remove.specs.declared.Removed.{Removed}
use Rattle.page_remove.specs.Remove.{RemovedPage, removed_of, remove_page}
use Rattle.page_remove.specs.Promises.{Removes}
use Rattle.page_remove.proofs.RemoveLaws.{remove-when-found, remove-when-absent, remove-answer, removed-told}
use Rattle.block_marks.specs.Blocks.{changed}
use Rattle.block_marks.proofs.BlockLaws.{block_at}
use Rattle.page_store.specs.Promises.{after_remove_of, any_left}
use Rattle.page_store.proofs.StoreLaws.{change}
use Rattle.call_base.specs.Answers.{answer_of, replied, state_of, left_of}
use Rattle.call_base.specs.Promises.{Reachable, Admitted}
use Rattle.call_base.proofs.FitLaws.{page-bounds}
use Rattle.call_point.specs.Promises.{RemovesIn, KeepsRemoved}
use Rattle.call_point.proofs.WrittenLaws.{FitsIn, put-there, same-page, lent-cells, decode-cells, decode-kept, page-admitted}
use Rattle.call_point.proofs.ReachLaws.{below, inside, gone, there, absent-admitted}
use Rattle.call_point.proofs.ExchangeLaws.{no-refusal}

-- ---- the parts of page g lent

pub remove-lent : (g n : ℕ) (w : PageWords) (ss vs : List ℕ) (demote_at s : ℕ) (x : Removed) (xs ys : List ℕ) → 64 * g + 64 ≤ length ss → 64 * g + 64 ≤ length vs
    → length xs ≡ length (take ((64 * g + 64) - 64 * g) (drop (64 * g) ss)) → length ys ≡ length (take ((64 * g + 64) - 64 * g) (drop (64 * g) vs))
    → Removes n demote_at w (take ((64 * g + 64) - 64 * g) (drop (64 * g) ss)) (take ((64 * g + 64) - 64 * g) (drop (64 * g) vs)) s x xs ys
    → RemovesIn g n w ss vs demote_at s x (put_mid (64 * g) ((64 * g + 64) - 64 * g) ss xs) (put_mid (64 * g) ((64 * g + 64) - 64 * g) vs ys)
remove-lent g n w ss vs demote_at s x xs ys first second kept held t = record {
  sequences = lent-cells g ss xs first kept;
  values = lent-cells g vs ys second held;
  does = lent_both g ss vs (λ (k l : List ℕ). Removes n demote_at w k l s x xs ys) t;
}

-- ---- found or not, by the answer

abbrev is_found : model.Answer → Bool
is_found model.done = false
is_found model.new = false
is_found (model.replaced v) = false
is_found model.absent = false
is_found (model.found n) = true
is_found (model.pair s v next reads) = false
is_found (model.ended reads) = false
is_found (model.released values units) = false
is_found (model.refused k) = false

not_found : (s : ℕ) (o : table.Option Pair) → value_if s o ≡ absent → finds s o ≡ false
not_found s none a = refl
not_found s (some q) a = bool (eqb q.sequence s) (λ t. absurd (true≢false (rw t at (ap is_found a)))) (λ t. t)

is_found_lem : (s v : ℕ) (o : table.Option Pair) → value_if s o ≡ found v → finds s o ≡ true
is_found_lem s v none a = absurd (true≢false (sym (ap is_found a)))
is_found_lem s v (some q) a = bool (eqb q.sequence s) (λ t. t) (λ t. absurd (true≢false (sym (rw t at (ap is_found a)))))

-- p is the sequence's position, k is what `reachable` says of its page
module _ (h : AdaptiveReceiverPacketWindow) (m : Memory) (fit : FitsIn h m) (s p : ℕ) (k : Bool)
    (e : p ≡ position h.window_size s) (reach : Reachable h m.blocks (p / 64) k) where
  abbrev g : ℕ
  g = p / 64

  abbrev here : Page
  here = page (words_at m.pages g) (part_of g m.sequences) (part_of g m.values)

  abbrev d : ℕ
  d = h.demote_at

  under : g < page_count_of h.window_size
  under = below h m fit s p k e reach

  -- ---- the page is retired
  does-nothing : k ≡ false → Sound (decode h m) → effect (decode h m) absent [] ≡ window_does (decode h m) (remove s)
  unfolding window_does remove_step decode
  does-nothing z ok = rw (gone h m fit s p k e reach z ok)

  pub remove-none : k ≡ false → (r : Step) → r ≡ replied h (Ok Absent) → Admitted (remove s) (state_of h m) [] (left_of r m [])
  remove-none z r q = absent-admitted h m fit s p k e reach (remove s) r q (does-nothing z)

  -- ---- the page is live
  module _ (n : k ≡ true) where
    -- what the step does, by what the page gives
    step-found : Sound (decode h m) → finds s (stands_at here (s % 64)) ≡ true
        → (remove_step (decode h m) s).after ≡ after_remove_of (with_page (decode h m) g (remove_page d here s).page) g Single (remove_page d here s).left.demoted 1
    unfolding remove_step decode
    step-found ok t =
        rw (there h m fit s p k e reach n ok, t, remove-when-found here s d t)
        (ap (λ (q : ℕ). count_demotion_of Single (put_page (sub_live_of (decode h m) (q / 64 / 64) 1) (q / 64) (after_removal d (take_cell_of ((decode h m).pages (q / 64)) (cell_of ((decode h m).pages (q / 64)) (s % 64))))) (demotes d (take_cell_of ((decode h m).pages (q / 64)) (cell_of ((decode h m).pages (q / 64)) (s % 64))))) (sym e)
        ∙ ap (λ (q : Page). count_demotion_of Single (put_page (sub_live_of (decode h m) (g / 64) 1) g (after_removal d (take_cell_of q (cell_of q (s % 64))))) (demotes d (take_cell_of q (cell_of q (s % 64))))) (page-at h m g under))

    step-absent : Sound (decode h m) → finds s (stands_at here (s % 64)) ≡ false → (remove_step (decode h m) s).after ≡ decode h m
    unfolding remove_step decode
    step-absent ok t = rw (there h m fit s p k e reach n ok, t)

    step-answer : Sound (decode h m) → (remove_step (decode h m) s).answer ≡ read_of here s
    unfolding remove_step decode
    step-answer ok = ap (value_if s) (there h m fit s p k e reach n ok)

    -- x is what the page's removal gave, ss and vs the cells afterwards; r, pages and blocks are what was kept of it
    module _ (x : Removed) (ss vs : List ℕ) (t : RemovesIn (p / 64) h.n (words_at m.pages (p / 64)) m.sequences m.values h.demote_at s x ss vs)
        (r : Step) (pages blocks : List ℕ) (kept : KeepsRemoved h m.pages m.blocks (p / 64) x.words x.left x.answer r pages blocks) where
      abbrev own : Page
      own = page x.words t.sequences.part t.values.part

      abbrev after : Window
      after = with_page (decode h m) g own

      is_removed : Sound (decode h m) → removed_of x t.sequences.part t.values.part ≡ remove_page d here s
      is_removed ok = t.does.gives (page-placed h m ok g under)

      answered : Sound (decode h m) → read_answer_of x.answer ≡ read_of here s
      answered ok = ap (λ (q : RemovedPage). q.answer) (is_removed ok) ∙ remove-answer here s d

      -- the sequence is absent
      left-absent : x.answer ≡ None → Sound (decode h m) → decode r.window (memory ss vs pages blocks) ≡ (remove_step (decode h m) s).after
      left-absent a ok =
          let i = inside h m fit s p k e reach in
          let u = kept.absent a in
          let missing = not_found s (stands_at here (s % 64)) (sym (answered ok) ∙ ap read_answer_of a) in
          let same : own ≡ here = ap (λ (q : RemovedPage). q.page) (is_removed ok ∙ remove-when-absent here s d missing) in
          (λ j. decode (u.header j) (memory ss vs (u.pages_are j) (u.blocks_are j)))
          ∙ decode-cells h m g under i.in-sequences i.in-values ss vs t.sequences t.values
          ∙ (λ j. with_page (decode h m) g (record { kind = here.kind; occupied = here.occupied; filled = here.filled; sequences = (same j).sequences; values = (same j).values }))
          ∙ ap (with_page (decode h m) g) (sym (page-at h m g under)) ∙ same-page (decode h m) g ∙ sym (step-absent ok missing)

      -- the sequence had value v
      module _ (v : ℕ) (a : x.answer ≡ Some v) where
        -- the page holds a value just if one was left
        told : Sound (decode h m) → holds_value (after.pages g) ≡ any_left x.left
        told ok =
            ap holds_value (put-there (decode h m) g own) ∙ ap (λ (q : RemovedPage). holds_value q.page) (is_removed ok)
            ∙ removed-told h.n here (page-placed h m ok g under) s d ∙ ap (λ (q : RemovedPage). any_left q.left) (sym (is_removed ok))

        changes : Sound (decode h m) → changed after (g / 64) (change _ _ _ _ _ _ _ _ (kept.found v a)) ≡ after_remove_of after g Single x.left.demoted 1
        unfolding decode
        changes ok = (kept.found v a).changes.gives after refl (block_at h m (g / 64) (page-bounds h.window_size g under).block) (told ok)

        same_size : Sound (decode h m) → r.window.window_size ≡ h.window_size
        unfolding decode note_nonempty
        same_size ok = ap (λ (u : Window). u.header.window_size) (changes ok)

        left-found : Sound (decode h m) → decode r.window (memory ss vs pages blocks) ≡ (remove_step (decode h m) s).after
        left-found ok =
            let i = inside h m fit s p k e reach in
            decode-kept h m g under i.in-sequences i.in-values ss vs t.sequences t.values _ x.words r.window pages blocks (kept.found v a) (same_size ok)
            fit.long.pages_long fit.long.blocks_long
            ∙ changes ok
            ∙ (λ j. after_remove_of (with_page (decode h m) g (is_removed ok j).page) g Single (is_removed ok j).left.demoted 1)
            ∙ sym (step-found ok (is_found_lem s v (stands_at here (s % 64)) (sym (answered ok) ∙ ap read_answer_of a)))

      left : (y : Option ℕ) → x.answer ≡ y → Sound (decode h m) → decode r.window (memory ss vs pages blocks) ≡ (remove_step (decode h m) s).after
      left None a ok = left-absent a ok
      left (Some v) a ok = left-found v a ok

      does : Sound (decode h m) → effect (decode r.window (memory ss vs pages blocks)) (answer_of r.answer.answer) [] ≡ window_does (decode h m) (remove s)
      unfolding window_does remove_step
      does ok = λ i. effect (left x.answer refl ok i) ((kept.answer ∙ answered ok ∙ sym (step-answer ok)) i) []

      remove-kept : Admitted (remove s) (state_of h m) [] (left_of r (memory ss vs pages blocks) [])
      remove-kept =
          page-admitted h m (memory ss vs pages blocks) fit g under (record { sequences = t.sequences; values = t.values; words = kept.within }) (remove s) r kept.count
          (λ q. no-refusal x.answer 4 (sym kept.answer ∙ q)) does

    pub remove-admitted : (w : PageWords) → w ≡ words_at m.pages (p / 64) → (x : Removed) (ss vs : List ℕ)
        → RemovesIn (p / 64) h.n w m.sequences m.values h.demote_at s x ss vs
        → (r : Step) (pages blocks : List ℕ) → KeepsRemoved h m.pages m.blocks (p / 64) x.words x.left x.answer r pages blocks
        → Admitted (remove s) (state_of h m) [] (left_of r (memory ss vs pages blocks) [])
    remove-admitted w ew x ss vs t r pages blocks kept =
        remove-kept x ss vs (subst (λ (u : PageWords). RemovesIn g h.n u m.sequences m.values d s x ss vs) ew t) r pages blocks kept
