-- What was done to the cells of a page, kept in the lists: over plain variables. Assumes nothing.
use mathlib.Core.Path.{◌≡◌, sym, ap, ◌∙◌, subst}
use mathlib.Core.Bool.{Bool, true≢false}
use mathlib.Core.List.{List}
use Prim.Native.Nat.{ℕ, ◌/◌}
use Rattle.std.specs.Prelude.{Option, Some, Ok}
use Rattle.std.proofs.lemmas.Option.{none-some}
use Rattle.window.specs.declared.AdaptiveReceiverPacketWindow.{AdaptiveReceiverPacketWindow}
use Rattle.window.specs.declared.Cause.TheVariants.{Single}
use Rattle.window.specs.declared.answers.Answer.TheVariants as answer
use Rattle.window.specs.declared.answers.Step.{Step}
use Rattle.model.specs.Calls.{new}
use Rattle.page_base.specs.declared.Left.{Left}
use Rattle.page_base.specs.declared.PageWords.{PageWords}
use Rattle.page_base.specs.Promises.{read_answer_of}
use Rattle.page_insert.specs.declared.Inserted.{Inserted}
use Rattle.page_insert.specs.Insert as page
use Rattle.block_marks.specs.declared.Change.{Change}
use Rattle.block_marks.specs.Blocks.{block_words_at}
use Rattle.page_store.specs.Promises as updates
use Rattle.page_store.specs.Promises.{Stores}
use Rattle.page_store.proofs.StoreLaws.{stored-pages, stored-blocks, pages_past, blocks_past}
use Rattle.page_release.specs.Promises.{Within}
use Rattle.call_base.specs.Answers.{answer_of, replied}
use Rattle.call_point.specs.Promises.{Keeps, KeepsRemoved}

module _ (h : AdaptiveReceiverPacketWindow) (pages blocks : List ℕ) (g : ℕ) where
  -- ---- written, or not

  stored-within : (P : Change → Type 0) (w : PageWords) (win : AdaptiveReceiverPacketWindow) (pages' blocks' : List ℕ) → Stores P pages blocks g w win pages' blocks'
      → Within pages blocks g pages' blocks'
  stored-within P w win pages' blocks' t = record {
    pages_long = stored-pages P pages blocks g w win pages' blocks' t;
    blocks_long = stored-blocks P pages blocks g w win pages' blocks' t;
    pages_past = pages_past P pages blocks g w win pages' blocks' t;
    blocks_past = blocks_past P pages blocks g w win pages' blocks' t;
  }

  -- ---- an insert

  module _ (x : Inserted) where
    -- a new value: the words of the page and of its block were written
    pub new-keeps : (promoted : Bool) (win : AdaptiveReceiverPacketWindow) (pages' blocks' : List ℕ) → page.answer_of x.answer ≡ new → page.promotes x.answer ≡ promoted
        → Stores (updates.Inserted h (block_words_at blocks (g / 64)) g promoted) pages blocks g x.words win pages' blocks'
        → Keeps h pages blocks g x (record { window = win; answer = Ok answer.New }) pages' blocks'
    new-keeps promoted win pages' blocks' a p t = record {
      within = stored-within _ x.words win pages' blocks' t;
      answer = sym a;
      new = λ e. subst (λ (b : Bool). Stores (updates.Inserted h (block_words_at blocks (g / 64)) g b) pages blocks g x.words win pages' blocks') (sym p) t;
      old = λ e. absurd (true≢false e);
    }

  -- ---- a removal

  module _ (w : PageWords) (left : Left) (x : Option ℕ) (r : Step) where
    -- it took value v out: the words of the page and of its block were written
    pub found-keeps : (v : ℕ) (win : AdaptiveReceiverPacketWindow) (pages' blocks' : List ℕ) → x ≡ Some v → r ≡ replied win (Ok (answer.Found v))
        → Stores (updates.Removed h (block_words_at blocks (g / 64)) g left Single 1) pages blocks g w win pages' blocks'
        → KeepsRemoved h pages blocks g w left x r pages' blocks'
    found-keeps v win pages' blocks' e q t = record {
      within = stored-within _ w win pages' blocks' t;
      answer = ap (λ (y : Step). answer_of y.answer.answer) q ∙ sym (ap read_answer_of e);
      count = ap (λ (y : Step). y.answer.count) q;
      found = λ u f.
          subst (λ (y : Step). Stores (updates.Removed h (block_words_at blocks (g / 64)) g left Single 1) pages blocks g w y.window pages' blocks') (sym q) t;
      absent = λ f. absurd (none-some v (sym f ∙ e));
    }
