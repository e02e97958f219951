-- One change of the header and of a block's words after another, over plain variables. Assumes nothing.
use mathlib.Core.Path.{◌≡◌, refl, sym, ap, ◌∙◌, subst}
use mathlib.Core.Bool.{Bool, true, false}
use Prim.Native.Nat.{ℕ, ◌+◌, ◌-◌, ◌/◌, ◌%◌, ◌^◌, ◌<◌}
use native.Mathlib.Nat.{mod-eq_of_lt}
use native.Mathlib.Omega.{arith}
use native.Mathlib.Decide.{ℕ_discrete}
use borrow.Author.Tests.{eq-eqb, ne_eqb}
use Rattle.words.proofs.CaseLaws.{bool}
use Rattle.words.specs.Word.{clear_bit}
use Rattle.window.specs.declared.AdaptiveReceiverPacketWindow.{AdaptiveReceiverPacketWindow}
use Rattle.window.specs.declared.Cause.{Cause}
use Rattle.window.specs.declared.Cause.TheVariants.{Single, Range}
use Rattle.model.specs.Window.{Window, Block, upd}
use Rattle.model.specs.Pages.{holds_value}
use Rattle.model.specs.Steps.{set_retired, with_header, with_block, set_held, set_marks, note_nonempty, add_live_of, sub_live_of, count_promotion_of, count_demotion_of, drop_block_marks}
use Rattle.page_base.specs.declared.Left.{Left}
use Rattle.block_marks.specs.declared.BlockWords.{BlockWords}
use Rattle.block_marks.specs.declared.Change.{Change}
use Rattle.block_marks.specs.Blocks.{block_of, changed}
use Rattle.block_marks.specs.Marks.{without_mark}
use Rattle.block_marks.specs.Promises.{ChangesHeader, Notes, AddsLive, TakesLive}
use Rattle.page_store.specs.Promises.{Inserted, Removed, Released, any_left, note_released}

-- ---- a block's words written, and written again

upd_same : (f : ℕ → Block) (b : ℕ) (x : Block) → upd f b x b ≡ x
upd_same f b x = rw (eq-eqb b b refl)

upd-again : (f : ℕ → Block) (b : ℕ) (x y : Block) (d : ℕ) → upd (upd f b x) b y d ≡ upd f b y d
upd-again f b x y d = elim (ℕ_discrete d b) [ yes e ↦ rw (eq-eqb d b e) | no e ↦ rw (ne_eqb d b e) ]

again : (v : Window) (b : ℕ) (r s : Change) (h : AdaptiveReceiverPacketWindow) → changed (with_header (changed v b r) h) b s ≡ changed v b s
again v b r s h = λ i. record { header = s.window; pages = v.pages; blocks = λ d. upd-again v.blocks b (block_of r.block) (block_of s.block) d i }

-- marks on pages of a block whose words were written
marks-written : (v : Window) (b : ℕ) (x : Block) (word : ℕ) → set_marks (with_block v b x) b word ≡ with_block v b (set_retired x word)
marks-written v b x word =
    ap (λ (y : Block). with_block (with_block v b x) b (set_retired y word)) (upd_same v.blocks b x)
    ∙ (λ i. record { header = v.header; pages = v.pages; blocks = λ d. upd-again v.blocks b x (set_retired x word) d i })

-- no count
none-counted : (x : ℕ) → x < 2 ^ 64 → (x + 0) % 2 ^ 64 ≡ x
none-counted x l = let e : x + 0 ≡ x = omega arith in ap (λ (y : ℕ). y % 2 ^ 64) e ∙ mod-eq_of_lt l

no-promotion : (v : Window) → v.header.promotions < 2 ^ 64 → count_promotion_of v false ≡ v
no-promotion v l = rw (none-counted v.header.promotions l)

-- both counts of demotions have room, as every u64
pub record Room (h : AdaptiveReceiverPacketWindow) : Type 0 where
  pub single : h.single_demotions < 2 ^ 64
  pub range : h.range_demotions < 2 ^ 64

no-demotion : (c : Cause) (v : Window) → Room v.header → count_demotion_of c v false ≡ v
no-demotion Single v l = rw (none-counted v.header.single_demotions l.single)
no-demotion Range v l = rw (none-counted v.header.range_demotions l.range)

-- counted or not, as the test says
pub record Counted (step : Window → Bool → Window) (happened : Bool) (h r : AdaptiveReceiverPacketWindow) : Type 0 where
  pub when : happened ≡ true → ChangesHeader (λ (v : Window). step v true) h r
  pub unless : happened ≡ false → r ≡ h

module _ (happened : Bool) (h r : AdaptiveReceiverPacketWindow) where
  pub promotion : Counted count_promotion_of happened h r → h.promotions < 2 ^ 64 → (v : Window) → v.header ≡ h → with_header v r ≡ count_promotion_of v happened
  promotion t l v e =
      let z = ap (λ (x : AdaptiveReceiverPacketWindow). x.promotions) e in
      bool happened
      (λ q. (t.when q).gives v e ∙ ap (count_promotion_of v) (sym q))
      (λ q. ap (with_header v) (t.unless q ∙ sym e) ∙ sym (no-promotion v (omega arith)) ∙ ap (count_promotion_of v) (sym q))

  pub demotion : (c : Cause) → Counted (count_demotion_of c) happened h r → Room h → (v : Window) → v.header ≡ h → with_header v r ≡ count_demotion_of c v happened
  demotion c t l v e =
      bool happened
      (λ q. (t.when q).gives v e ∙ ap (count_demotion_of c v) (sym q))
      (λ q. ap (with_header v) (t.unless q ∙ sym e) ∙ sym (no-demotion c v (subst Room (sym e) l)) ∙ ap (count_demotion_of c v) (sym q))

-- ---- what noting a page leaves

noted-len : (v : Window) (g : ℕ) (promoted : Bool) → (count_promotion_of (note_nonempty v g) promoted).header.len ≡ v.header.len
unfolding note_nonempty
noted-len v g promoted = refl

noted-promotions : (v : Window) (g : ℕ) → (note_nonempty v g).header.promotions ≡ v.header.promotions
unfolding note_nonempty
noted-promotions v g = refl

noted-room : (v : Window) (g : ℕ) → Room v.header → Room (note_nonempty v g).header
unfolding note_nonempty
noted-room v g l = record { single = l.single; range = l.range }

noted-live : (v : Window) (g : ℕ) → ((note_nonempty v g).blocks (g / 64)).live ≡ (v.blocks (g / 64)).live
unfolding note_nonempty
noted-live v g = rw (eq-eqb (g / 64) (g / 64) refl)

module _ (h : AdaptiveReceiverPacketWindow) (x : BlockWords) (g : ℕ) where
  abbrev b : ℕ
  b = g / 64

  -- ---- an insert
  pub insert-gives : (promoted : Bool) (noted r : Change) (window : AdaptiveReceiverPacketWindow) → Notes h x g true noted
      → Counted count_promotion_of promoted noted.window window → h.promotions < 2 ^ 64
      → AddsLive window noted.block 1 r → Inserted h x g promoted r
  insert-gives promoted noted r window n c l a = record {
    gives = λ v e f q room more.
        let u = changed v b noted in
        let w = with_header u window in
        let first = n.gives v e f q in
        let few : noted.window.promotions ≡ h.promotions = ap (λ (y : Window). y.header.promotions) first ∙ noted-promotions v g ∙ ap (λ (y : AdaptiveReceiverPacketWindow). y.promotions) e in
        let second : w ≡ count_promotion_of (note_nonempty v g) promoted = promotion promoted noted.window window c (omega arith) u refl ∙ ap (λ (y : Window). count_promotion_of y promoted) first in
        let len : window.len ≡ h.len = ap (λ (y : Window). y.header.len) second ∙ noted-len v g promoted ∙ ap (λ (y : AdaptiveReceiverPacketWindow). y.len) e in
        let live : noted.block.live ≡ x.live =
        ap (λ (y : Block). y.live) (sym (upd_same v.blocks b (block_of noted.block))) ∙ ap (λ (y : Window). (y.blocks b).live) first ∙ noted-live v g ∙ ap (λ (y : Block). y.live) f in
        sym (again v b noted r window)
        ∙ (a.gives (omega (arith, len)) (omega (arith, live)) b).gives w refl (upd_same v.blocks b (block_of noted.block))
        ∙ ap (λ (y : Window). add_live_of y b 1) second;
  }

  -- ---- a removal
  pub remove-gives : (left : Left) (c : Cause) (k : ℕ) (fewer noted r : Change) → TakesLive h x k fewer → Notes fewer.window fewer.block g (any_left left) noted
      → Counted (count_demotion_of c) left.demoted noted.window r.window → r.block ≡ noted.block → Room h → Removed h x g left c k r
  remove-gives left c k fewer noted r t n s same l = record {
    gives = λ v e f q.
        let u = changed v b fewer in
        let w = changed u b noted in
        let first = (t.gives b).gives v e f in
        let second : w ≡ note_nonempty (sub_live_of v b k) g = n.gives u refl (upd_same v.blocks b (block_of fewer.block)) q ∙ ap (λ (y : Window). note_nonempty y g) first in
        let room = subst (λ (y : Window). Room y.header) (sym second) (noted-room (sub_live_of v b k) g (record { single = (subst Room (sym e) l).single; range = (subst Room (sym e) l).range })) in
        ap (λ (y : BlockWords). with_block (with_header v r.window) b (block_of y)) same
        ∙ sym (again v b fewer (record { window = r.window; block = noted.block }) fewer.window)
        ∙ demotion left.demoted noted.window r.window c s room w refl
        ∙ ap (λ (y : Window). count_demotion_of c y left.demoted) second;
  }

  -- ---- a release

  -- the header with fewer retired values held
  held_gives : (k : ℕ) (fewer : AdaptiveReceiverPacketWindow) (noted : Change) (holds : Bool) → fewer ≡ set_held h (h.retired_held - k)
      → Notes fewer x g holds noted → (v : Window) → v.header ≡ h → v.blocks b ≡ block_of x → holds_value (v.pages g) ≡ holds
      → changed v b noted ≡ note_released v g k
  held_gives k fewer noted holds s n v e f q =
      n.gives (with_header v fewer) refl f q
      ∙ ap (λ (y : AdaptiveReceiverPacketWindow). note_nonempty (with_header v y) g) (s ∙ ap (λ (y : AdaptiveReceiverPacketWindow). set_held y (y.retired_held - k)) (sym e))

  pub release-kept : (k : ℕ) (fewer : AdaptiveReceiverPacketWindow) (noted : Change) (holds : Bool) → fewer ≡ set_held h (h.retired_held - k)
      → Notes fewer x g holds noted → holds ≡ true → Released h x g holds k noted
  release-kept k fewer noted holds s n t = record {
    gives = λ v e f q. held_gives k fewer noted holds s n v e f q ∙ rw (q ∙ t);
  }

  pub release-emptied : (k : ℕ) (fewer : AdaptiveReceiverPacketWindow) (noted r : Change) (holds : Bool) → fewer ≡ set_held h (h.retired_held - k)
      → Notes fewer x g holds noted → holds ≡ false → ChangesHeader drop_block_marks noted.window r.window → r.block ≡ without_mark noted.block (g % 64)
      → Released h x g holds k r
  unfolding without_mark
  release-emptied k fewer noted r holds s n t c same = record {
    gives = λ v e f q.
        let u = changed v b noted in
        let first = held_gives k fewer noted holds s n v e f q in
        let w = set_marks u b (clear_bit noted.block.retired (g % 64)) in
        let marked : w ≡ set_marks u b (clear_bit (u.blocks b).retired (g % 64)) =
        ap (λ (y : Block). set_marks u b (clear_bit y.retired (g % 64))) (sym (upd_same v.blocks b (block_of noted.block))) in
        ap (λ (y : BlockWords). with_block (with_header v r.window) b (block_of y)) same
        ∙ sym (ap (λ (y : Window). with_header y r.window) (marks-written (with_header v noted.window) b (block_of noted.block) (clear_bit noted.block.retired (g % 64))))
        ∙ c.gives w refl
        ∙ ap drop_block_marks (marked ∙ ap (λ (y : Window). set_marks y b (clear_bit (y.blocks b).retired (g % 64))) first)
        ∙ rw (q ∙ t);
  }
