-- An insert into a retired page, over plain variables: it is revived, and then the insert is one into a live page. Assumes nothing.
use mathlib.Core.Path.{◌≡◌, sym, ap, ◌∙◌, subst}
use mathlib.Core.Bool.{true, false, true≢false}
use mathlib.Core.List.{List}
use Prim.Native.Nat.{ℕ, ◌+◌, ◌*◌, ◌%◌, ◌≤◌, ◌<◌}
use native.Mathlib.Omega.{arith}
use lib.ListN.{length}
use Rattle.std.specs.Prelude.{Result, Err}
use Rattle.words.specs.Word.{bit_at}
use Rattle.words.proofs.BitLaws.{bit-none}
use Rattle.window.specs.declared.AdaptiveReceiverPacketWindow.{AdaptiveReceiverPacketWindow}
use Rattle.window.specs.declared.answers.Answer.{Answer}
use Rattle.window.specs.declared.answers.Answer.TheVariants.{Done, New, Replaced, Absent, Found, Pair, Ended, Released}
use Rattle.window.specs.declared.answers.Step.{Step}
use Rattle.window.specs.declared.refusals.Refusal.{Refusal}
use Rattle.window.specs.declared.refusals.Refusal.TheVariants.{Unsound}
use Rattle.window.specs.Memory.{Memory, memory, page_count_of, block_count_of, words_per_page, words_per_block}
use Rattle.model.specs.Calls as model
use Rattle.model.specs.Table.{put_answer_of}
use Rattle.model.specs.Window.{Page, Window, decode, is_retired, pages_of}
use Rattle.model.specs.Pages.{insert_page}
use Rattle.model.specs.Steps.{is_new, revive}
use Rattle.model.specs.Sound.{Sound}
use Rattle.model.specs.Contract.{State}
use Rattle.page_base.specs.Page.{words_at, part_of, page, Placed}
use Rattle.page_base.proofs.PlaceLaws.{placed}
use Rattle.page_base.proofs.StandLaws.{stands-none}
use Rattle.page_base.proofs.LiveLaws.{page-placed}
use Rattle.page_base.proofs.DecodeLaws.{header_at}
use Rattle.page_insert.proofs.InsertLaws.{insert-leaves}
use Rattle.page_remove.specs.Promises.{Wrote, stretch}
use Rattle.page_release.specs.declared.PageReleased.{PageReleased}
use Rattle.page_release.specs.Promises.{Within, Inside, Revives}
use Rattle.laws_soundness.proofs.ProperLaws.{proper-decode}
use Rattle.laws_soundness.proofs.ReviveLaws.{Revived, revive-revives}
use Rattle.call_base.specs.Answers.{given_of, answer_of, number_of, state_of}
use Rattle.call_point.specs.Promises.{PageOnly, after_put, Placing, InsertsLive, RevivedAnswer}
use Rattle.call_point.proofs.WrittenLaws.{same-only}
use Rattle.call_point.proofs.ReachLaws.{is_refusal}

-- ---- words written twice

within-twice : (pages blocks pages₁ blocks₁ pages₂ blocks₂ : List ℕ) (g : ℕ) → Within pages blocks g pages₁ blocks₁ → Within pages₁ blocks₁ g pages₂ blocks₂
    → Within pages blocks g pages₂ blocks₂
within-twice pages blocks pages₁ blocks₁ pages₂ blocks₂ g a b = record {
  pages_long = b.pages_long ∙ a.pages_long;
  blocks_long = b.blocks_long ∙ a.blocks_long;
  pages_past = λ n l. b.pages_past n l ∙ a.pages_past n l;
  blocks_past = λ n l. b.blocks_past n l ∙ a.blocks_past n l;
}

-- ---- an insert into an empty page is new

empty-new : (n s v : ℕ) (p : Page) → Placed n p → n < 64 → p.occupied ≡ 0 → (insert_page n p s v).answer ≡ model.new
empty-new n s v p ok l e =
    (insert-leaves n p s v ok l).answer
    ∙ ap (put_answer_of s) (stands-none n p ok (s % 64) (ap (λ (w : ℕ). bit_at w (s % 64)) e ∙ bit-none (s % 64)))

-- an answer that is not a refusal
gives-none : (a : Answer) (k : ℕ) → given_of a ≡ model.refused k → ⊥
gives-none Done k e = true≢false (sym (ap is_refusal e))
gives-none New k e = true≢false (sym (ap is_refusal e))
gives-none (Replaced v) k e = true≢false (sym (ap is_refusal e))
gives-none Absent k e = true≢false (sym (ap is_refusal e))
gives-none (Found n) k e = true≢false (sym (ap is_refusal e))
gives-none (Pair s v next reads) k e = true≢false (sym (ap is_refusal e))
gives-none (Ended reads) k e = true≢false (sym (ap is_refusal e))
gives-none (Released values units) k e = true≢false (sym (ap is_refusal e))

-- ---- what an insert into a retired page comes to

module _ (h : AdaptiveReceiverPacketWindow) (m : Memory) (g n s v : ℕ) where
  pub record InsertsRetired (l : List ℕ) (r : Step) (m' : Memory) (l' : List ℕ) : Type 0 where
    pub only : PageOnly g m m'
    pub wrote : Wrote 0 r.answer.count l l'
    pub few : r.answer.count ≤ 64
    -- a revived page holds nothing: nothing is refused 4
    pub taken : answer_of r.answer.answer ≡ model.refused 4 → ⊥
    pub answer : Placing h m g n → is_retired (decode h m) g ≡ true → answer_of r.answer.answer ≡ (insert_page n ((revive (decode h m) g).after.pages g) s v).answer
    pub gives : Placing h m g n → is_retired (decode h m) g ≡ true
        → decode r.window m' ≡ after_put (revive (decode h m) g).after g (insert_page n ((revive (decode h m) g).after.pages g) s v)
    pub out : Placing h m g n → is_retired (decode h m) g ≡ true → stretch 0 r.answer.count l' ≡ (revive (decode h m) g).out

-- x is what the revival gave, pages₁, blocks₁ and l₁ the words and the return list afterwards
module _ (h : AdaptiveReceiverPacketWindow) (m : Memory) (g n s v : ℕ) (l : List ℕ) (x : PageReleased) (pages₁ blocks₁ l₁ : List ℕ)
    (t : Revives h n m.sequences m.values m.pages m.blocks l g x pages₁ blocks₁ l₁)
    (first : 64 * g + 64 ≤ length m.sequences) (second : 64 * g + 64 ≤ length m.values) where
  abbrev m₁ : Memory
  m₁ = memory m.sequences m.values pages₁ blocks₁

  abbrev revived : Window
  revived = (revive (decode h m) g).after

  inside : Placing h m g n → Inside h n m.sequences m.values m.pages m.blocks l g
  inside q = record {
    below = q.below;
    blocks_long = q.blocks_long;
    placed = subst (λ (k : ℕ). Placed k (page (words_at m.pages g) (part_of g m.sequences) (part_of g m.values))) q.cells (page-placed h m q.sound g q.below);
  }

  -- the page's words do not fit each other: 7, with what was handed back
  pub unsound-gives : x.sound ≡ false → (r : Step) (m' : Memory) → r.answer.count ≡ x.count → r.answer.answer ≡ Err Unsound
      → state_of r.window m' ≡ state_of x.window (memory m.sequences m.values pages₁ blocks₁) → InsertsRetired h m g n s v l r m' l₁
  unsound-gives e r m' many a u =
      let never : Placing h m g n → ⊥ = λ q. true≢false (sym (t.sound (inside q)) ∙ e) in
      let same = same-only g m first second in
      record {
        only = subst (PageOnly g m) (sym (ap (λ (y : State). y.memory) u)) (record { sequences = same.sequences; values = same.values; words = t.within });
        wrote = subst (λ (k : ℕ). Wrote 0 k l l₁) (sym many) t.wrote;
        few = omega (arith, many, t.few);
        taken = λ q. omega (arith, ap number_of (sym (ap answer_of a) ∙ q));
        answer = λ q. absurd (never q);
        gives = λ q. absurd (never q);
        out = λ q. absurd (never q);
      }

  module _ (r : Step) (m' : Memory) (many : r.answer.count ≡ x.count) (given : Result Answer Refusal)
      (i : InsertsLive x.window (memory m.sequences m.values pages₁ blocks₁) g n s v (record { window = r.window; answer = given }) m')
      (b : RevivedAnswer given r.answer.answer) (small : n < 64) where
    module _ (q : Placing h m g n) (retired : is_retired (decode h m) g ≡ true) where
      there : decode x.window m₁ ≡ revived
      there = t.gives (inside q) retired

      is : Revived (decode h m) revived g
      unfolding decode
      is = revive-revives (decode h m) g (proper-decode h m q.sound) q.below

      header : x.window ≡ revived.header
      header = sym (header_at x.window m₁) ∙ ap (λ (w : Window). w.header) there

      size : x.window.window_size ≡ h.window_size
      unfolding decode
      size = ap (λ (y : AdaptiveReceiverPacketWindow). y.window_size) header ∙ is.size

      now-placing : Placing x.window m₁ g n
      unfolding decode
      now-placing = record {
        sound = subst Sound (sym there) is.proper.sound;
        cells = ap (λ (y : AdaptiveReceiverPacketWindow). y.n) header ∙ is.cells ∙ q.cells;
        below = subst (λ (k : ℕ). g < page_count_of k) (sym size) q.below;
        pages_long = subst (λ (k : ℕ). words_per_page * page_count_of k ≤ length pages₁) (sym size) (omega (arith, q.pages_long, t.within.pages_long));
        blocks_long = subst (λ (k : ℕ). words_per_block * block_count_of k ≤ length blocks₁) (sym size) (omega (arith, q.blocks_long, t.within.blocks_long));
      }

      ok-page : Placed n (revived.pages g)
      ok-page =
          let below : g < pages_of revived = subst (λ (k : ℕ). g < page_count_of k) (sym is.size) q-below in
          subst (λ (k : ℕ). Placed k (revived.pages g)) (is.cells ∙ n-is) (placed _ _ g (revived.pages g) (is.proper.sound.page g below))
        where
          q-below : g < page_count_of (decode h m).header.window_size
          q-below = subst (λ (y : AdaptiveReceiverPacketWindow). g < page_count_of y.window_size) (sym (header_at h m)) q.below

          n-is : (decode h m).header.n ≡ n
          n-is = ap (λ (y : AdaptiveReceiverPacketWindow). y.n) (header_at h m) ∙ q.cells

      answers-new : answer_of given ≡ model.new
      answers-new =
          i.answer now-placing ∙ ap (λ (w : Window). (insert_page n (w.pages g) s v).answer) there
          ∙ empty-new n s v (revived.pages g) ok-page small (is.emptied retired)

    pub retired-gives : InsertsRetired h m g n s v l r m' l₁
    retired-gives = record {
      only = record {
        sequences = i.only.sequences;
        values = i.only.values;
        words = within-twice m.pages m.blocks pages₁ blocks₁ m'.pages m'.blocks g t.within i.only.words;
      };
      wrote = subst (λ (k : ℕ). Wrote 0 k l l₁) (sym many) t.wrote;
      few = omega (arith, many, t.few);
      taken = b.taken;
      answer = λ q ret. b.same (ap is_new (answers-new q ret)) ∙ i.answer (now-placing q ret) ∙ ap (λ (w : Window). (insert_page n (w.pages g) s v).answer) (there q ret);
      gives = λ q ret. i.gives (now-placing q ret) ∙ ap (λ (w : Window). after_put w g (insert_page n (w.pages g) s v)) (there q ret);
      out = λ q ret. ap (λ (k : ℕ). stretch 0 k l₁) many ∙ t.out (inside q) ret;
    }
