-- exchange, over plain variables. Assumes nothing.
use mathlib.Core.Path.{◌≡◌, refl, sym, ap, ◌∙◌, subst}
use mathlib.Core.Bool.{Bool, true, false, true≢false}
use mathlib.Core.List.{List, []}
use Prim.Native.Nat.{ℕ, ◌+◌, ◌*◌, ◌-◌, ◌/◌, ◌%◌, ◌≤◌}
use lib.ListN.{length, take, drop}
use Rattle.std.specs.Prelude.{Option, None, Some, Result, Ok}
use borrow.Rule.Slice.PartMut.{put_mid}
use Rattle.words.proofs.CaseLaws.{bool}
use Rattle.window.specs.declared.AdaptiveReceiverPacketWindow.{AdaptiveReceiverPacketWindow}
use Rattle.window.specs.declared.answers.Answer.{Answer}
use Rattle.window.specs.declared.answers.Answer.TheVariants.{Absent}
use Rattle.window.specs.declared.answers.Step.{Step}
use Rattle.window.specs.declared.refusals.Refusal.{Refusal}
use Rattle.window.specs.Memory.{Memory, memory, position}
use Rattle.model.specs.Calls.{exchange, refused, absent}
use Rattle.model.specs.Table.{value_if, finds}
use Rattle.model.specs.Window.{Page, decode, stands_at, cell_of}
use Rattle.model.specs.Pages.{set_value}
use Rattle.model.specs.Steps.{effect, window_does, exchange_step, with_page}
use Rattle.model.specs.Sound.{Sound}
use Rattle.page_base.specs.declared.PageWords.{PageWords}
use Rattle.page_base.specs.Page.{words_at, part_of, page}
use Rattle.page_base.specs.Promises.{read_answer_of, exchanged, Exchanges}
use Rattle.page_base.proofs.DecodeLaws.{page-at}
use Rattle.page_base.proofs.LiveLaws.{page-placed}
use Rattle.page_base.proofs.LentPartLaws.{lent}
use Rattle.call_base.specs.Answers.{answer_of, replied, state_of, left_of}
use Rattle.call_base.specs.Promises.{Reachable, Admitted}
use Rattle.call_point.specs.Promises.{ExchangesIn}
use Rattle.call_point.proofs.WrittenLaws.{FitsIn, same-page, lent-cells, same-cells, same-only, decode-cells, page-admitted}
use Rattle.call_point.proofs.ReachLaws.{is_refusal, below, inside, gone, there, absent-admitted}

-- what a read answers is no refusal
pub no-refusal : (x : Option ℕ) (k : ℕ) → read_answer_of x ≡ refused k → ⊥
no-refusal None k e = true≢false (sym (ap is_refusal e))
no-refusal (Some v) k e = true≢false (sym (ap is_refusal e))

-- the part of page g lent, cs being its sequences
pub exchange-lent : (g n : ℕ) (w : PageWords) (ss vs cs : List ℕ) (s v : ℕ) (x : Option ℕ) (ys : List ℕ) → 64 * g + 64 ≤ length vs → cs ≡ part_of g ss
    → length ys ≡ length (take ((64 * g + 64) - 64 * g) (drop (64 * g) vs)) → Exchanges n w cs (take ((64 * g + 64) - 64 * g) (drop (64 * g) vs)) s v x ys
    → ExchangesIn g n w ss vs s v x (put_mid (64 * g) ((64 * g + 64) - 64 * g) vs ys)
exchange-lent g n w ss vs cs s v x ys l e kept t = record {
  values = lent-cells g vs ys l kept;
  does = subst (λ (q : List ℕ). Exchanges n w q (part_of g vs) s v x ys) e (subst (λ (q : List ℕ). Exchanges n w cs q s v x ys) (lent g vs) t);
}

-- p is the sequence's position, k is what `reachable` says of its page
module _ (h : AdaptiveReceiverPacketWindow) (m : Memory) (fit : FitsIn h m) (s p : ℕ) (k : Bool)
    (e : p ≡ position h.window_size s) (reach : Reachable h m.blocks (p / 64) k) (v : ℕ) where
  abbrev g : ℕ
  g = p / 64

  abbrev here : Page
  here = page (words_at m.pages g) (part_of g m.sequences) (part_of g m.values)

  -- ---- the page is retired
  does-nothing : k ≡ false → Sound (decode h m) → effect (decode h m) absent [] ≡ window_does (decode h m) (exchange s v)
  unfolding window_does exchange_step decode
  does-nothing z ok = rw (gone h m fit s p k e reach z ok)

  pub exchange-none : k ≡ false → (r : Step) → r ≡ replied h (Ok Absent) → Admitted (exchange s v) (state_of h m) [] (left_of r m [])
  exchange-none z r q = absent-admitted h m fit s p k e reach (exchange s v) r q (does-nothing z)

  -- ---- the page is live: x is what it gave, vs the values afterwards
  module _ (n : k ≡ true) where
    exchanged-page : Sound (decode h m) → (exchange_step (decode h m) s v).after ≡ with_page (decode h m) g (exchanged here s v)
    unfolding exchange_step exchanged decode
    exchanged-page ok =
        let is = page-at h m g (below h m fit s p k e reach) in
        bool (finds s (stands_at here (s % 64)))
        (λ t. rw (there h m fit s p k e reach n ok, t)
        (ap (λ (q : ℕ). with_page (decode h m) (q / 64) (set_value ((decode h m).pages (q / 64)) (cell_of ((decode h m).pages (q / 64)) (s % 64)) v)) (sym e)
        ∙ ap (λ (q : Page). with_page (decode h m) g (set_value q (cell_of q (s % 64)) v)) is))
        (λ t. rw (there h m fit s p k e reach n ok, t) (sym (ap (with_page (decode h m) g) (sym is) ∙ same-page (decode h m) g)))

    module _ (x : Option ℕ) (vs : List ℕ) (t : ExchangesIn (p / 64) h.n (words_at m.pages (p / 64)) m.sequences m.values s v x vs) where
      answers : Sound (decode h m) → read_answer_of x ≡ (exchange_step (decode h m) s v).answer
      unfolding exchange_step decode
      answers ok = t.does.answer (page-placed h m ok g (below h m fit s p k e reach)) ∙ ap (value_if s) (sym (there h m fit s p k e reach n ok))

      alters : Sound (decode h m) → decode h (memory m.sequences vs m.pages m.blocks) ≡ (exchange_step (decode h m) s v).after
      alters ok =
          let l = below h m fit s p k e reach in
          let i = inside h m fit s p k e reach in
          decode-cells h m g l i.in-sequences i.in-values m.sequences vs (same-cells g m.sequences i.in-sequences) t.values
          ∙ ap (with_page (decode h m) g) (t.does.after (page-placed h m ok g l)) ∙ sym (exchanged-page ok)

      does : (a : Result Answer Refusal) → answer_of a ≡ read_answer_of x → Sound (decode h m)
          → effect (decode h (memory m.sequences vs m.pages m.blocks)) (answer_of a) [] ≡ window_does (decode h m) (exchange s v)
      unfolding window_does exchange_step
      does a is ok = λ i. effect (alters ok i) ((is ∙ answers ok) i) []

      exchange-replied : (a : Result Answer Refusal) → answer_of a ≡ read_answer_of x
          → Admitted (exchange s v) (state_of h m) [] (left_of (replied h a) (memory m.sequences vs m.pages m.blocks) [])
      exchange-replied a is =
          let i = inside h m fit s p k e reach in
          let o = same-only g m i.in-sequences i.in-values in
          page-admitted h m (memory m.sequences vs m.pages m.blocks) fit g (below h m fit s p k e reach)
          (record { sequences = o.sequences; values = t.values; words = o.words }) (exchange s v) (replied h a) refl
          (λ q. no-refusal x 4 (sym is ∙ q)) (does a is)

    pub exchange-admitted : (w : PageWords) → w ≡ words_at m.pages (p / 64) → (x : Option ℕ) (vs : List ℕ) → ExchangesIn (p / 64) h.n w m.sequences m.values s v x vs
        → (a : Result Answer Refusal) → answer_of a ≡ read_answer_of x → (r : Step) → r ≡ replied h a
        → Admitted (exchange s v) (state_of h m) [] (left_of r (memory m.sequences vs m.pages m.blocks) [])
    exchange-admitted w ew x vs t a is r q =
        subst (λ (y : Step). Admitted (exchange s v) (state_of h m) [] (left_of y (memory m.sequences vs m.pages m.blocks) [])) (sym q)
        (exchange-replied x vs (subst (λ (u : PageWords). ExchangesIn g h.n u m.sequences m.values s v x vs) ew t) a is)
