-- Whole pages retired: their positions move from the live table to the retired. Assumes nothing.
use mathlib.Core.Path.{◌≡◌, refl, sym, ap, subst, ◌∙◌}
use mathlib.Core.Bool.{Bool, true, false, cond, not, ◌&&◌, ◌||◌, or-false, or-true, and-or_distrib_right}
use mathlib.Core.Logic.{◌⊎◌, inl, inr, ⊎_elim}
use Prim.Native.Nat.{ℕ, zero, suc, ◌+◌, ◌-◌, ◌*◌, ◌/◌, ◌%◌, ◌≤◌, ◌<◌}
use native.Mathlib.Omega.{arith}
use native.Mathlib.Decide.{ℕ_discrete, dec_lt, dec_le}
use lib.Dec.{leb, ltb, eqb}
use borrow.Author.Tests.{eq-eqb, ne_eqb, leb-true, ltb-false, lt-ltb}
use Rattle.words.proofs.CaseLaws.{both}
use Rattle.words.specs.Word.{bit_at, is_set}
use Rattle.window.specs.Memory.{block_count_of}
use Rattle.window.specs.declared.AdaptiveReceiverPacketWindow.{AdaptiveReceiverPacketWindow}
use Rattle.model.specs.Table.{within}
use Rattle.model.specs.Window.{Window, blocks_of, is_retired, live_at, retired_at}
use Rattle.model.specs.Positions.{positions, wipe, moved}
use Rattle.model.specs.Steps.{split_block, pages_in, retire_in_block, retire_block_of, covers_block, retire_blocks_of, retire_pages_of}
use Rattle.model.proofs.SweepLaws.{within-yes, within-below, within-above}
use Rattle.laws_soundness.specs.Change.{Limits, noted}
use Rattle.laws_soundness.proofs.PageLaws.{cond-holds}
use Rattle.laws_soundness.proofs.SplitLaws.{unnoted-empty, split-unmarked, split-header}
use Rattle.laws_soundness.proofs.LimitLaws.{next-limits}
use Rattle.laws_soundness.specs.Retire.{with_block_marks, Retiring, RetiresIn, retire_next}
use Rattle.laws_soundness.proofs.RetireInLaws.{other-status}
use Rattle.laws_soundness.proofs.RetireBlockLaws.{retiring-split, with_marks, retired-before, retired-after, marks-retire, marked, all-retired, block-retires}
use Rattle.laws_soundness.proofs.RetireRangeLaws.{retiring-next}
use Rattle.laws_refinement.specs.Seen.{positions_of}
use Rattle.laws_refinement.proofs.MarkLaws.{shown-self, split-shown}
use Rattle.laws_refinement.proofs.MoveLaws.{Moves, shown-moves, moves-then, moves-same, within-pages, moves-seen}
use Rattle.laws_refinement.proofs.VisitLaws.{retiring-order}

-- ---- one block

-- its pages from `from` up to `to`
abbrev in_block : ℕ → ℕ → ℕ → ℕ → Bool
in_block from to b g = eqb (g / 64) b && within from to g

own_block : (from to b i : ℕ) → i < 64 → in_block from to b (64 * b + i) ≡ within from to (64 * b + i)
own_block from to b i l = rw (eq-eqb ((64 * b + i) / 64) b (omega arith))

other_block : (from to b g : ℕ) → (g / 64 ≡ b → ⊥) → in_block from to b g ≡ false
other_block from to b g e = rw (ne_eqb (g / 64) b e)

module _ (from to b : ℕ) (w v : Window) (k : ℕ) (ok : Retiring w) (below : b < blocks_of w) (c : RetiresIn w v b k) where
  in-moves : ((i : ℕ) → i < 64 → (is_retired v (64 * b + i) ≡ (is_retired w (64 * b + i) || within from to (64 * b + i))) ⊎ ((w.pages (64 * b + i)).occupied ≡ 0))
      → Moves (in_block from to b) w v
  in-moves h = record {
    pages = c.pages;
    cursor = ap (λ (x : AdaptiveReceiverPacketWindow). x.release_cursor) c.header;
    base = ap (λ (x : AdaptiveReceiverPacketWindow). x.base) c.header;
    marks = λ g. elim (ℕ_discrete (g / 64) b) [
      | yes e ↦
          let z : 64 * b + g % 64 ≡ g = omega arith in
          subst (λ (x : ℕ). (is_retired v x ≡ (is_retired w x || in_block from to b x)) ⊎ ((w.pages x).occupied ≡ 0)) z
          (⊎_elim (λ s. inl (s ∙ ap (λ (t : Bool). is_retired w (64 * b + g % 64) || t) (sym (own_block from to b (g % 64) (omega arith))))) (λ s. inr s) (h (g % 64) (omega arith)))
      | no e ↦ inl (other-status w v ok b k below c g e ∙ sym (or-false (is_retired w g)) ∙ ap (λ (t : Bool). is_retired w g || t) (sym (other_block from to b g e)))
    ];
  }

-- the pages that hold a value and are newly marked: s, the page is marked; p, it is to be
newly : (s p : Bool) → (s || (p && (true && not s))) ≡ (s || p)
newly true p = refl
newly false true = refl
newly false false = refl

-- a page that is not noted is empty
empty : (w : Window) → Retiring w → (g : ℕ) → (noted w g ≡ 1 → ⊥) → (w.pages g).occupied ≡ 0
empty w ok = unnoted-empty (with_block_marks w ok.marks) ok.proper

module _ (from to b : ℕ) (w : Window) (ok : Retiring w) (below : b < blocks_of w) where
  marks-moves : is_set w.header.retired_blocks b ≡ false → Moves (in_block from to b) w (with_marks w from to b)
  marks-moves unmarked = in-moves from to b w (with_marks w from to b) _ ok below (marks-retire w from to b ok below unmarked) (λ i l.
      let s = is_set (w.blocks b).retired i in
      let before = retired-before w from to b ok below unmarked i l in
      let after = retired-after w from to b ok below unmarked i l in
      elim (ℕ_discrete (bit_at (w.blocks b).nonempty i) 1) [
        | yes o ↦
            inl (after ∙ ap (λ (t : Bool). s || (pages_in from to b i && (t && not s))) (eq-eqb (bit_at (w.blocks b).nonempty i) 1 o)
            ∙ newly s (pages_in from to b i) ∙ ap (λ (t : Bool). t || pages_in from to b i) (sym before))
        | no o ↦
            let y : (64 * b + i) / 64 ≡ b = omega arith in
            let z : (64 * b + i) % 64 ≡ i = omega arith in
            inr (empty w ok (64 * b + i) (λ n. o (rw (y, z) at n)))
      ])

  block-moves : covers_block from to b ≡ true → Moves (in_block from to b) w (retire_block_of w b)
  unfolding retire_block_of
  block-moves c = in-moves from to b w (marked w b ok below) (w.blocks b).live ok below (block-retires w b ok below) (λ i l.
      let h = both (leb from (64 * b)) (leb (64 * b + 64) to) c in
      let low = leb-true from (64 * b) h.0 in
      let high = leb-true (64 * b + 64) to h.1 in
      inl (all-retired w b ok below i l ∙ sym (or-true (is_retired w (64 * b + i))) ∙ ap (λ (t : Bool). is_retired w (64 * b + i) || t) (sym (within-yes from to (64 * b + i) (omega arith) (omega arith)))))

in-block-moves : (from to b : ℕ) (w : Window) → Retiring w → b < blocks_of w → Moves (in_block from to b) w (retire_in_block w from to b)
unfolding retire_in_block
in-block-moves from to b w ok below =
    let v = split_block w b in
    let l : b < blocks_of v = rw (split-header w b).0 below in
    moves-then (λ g. false) (in_block from to b) (in_block from to b) w v (with_marks v from to b) (λ g. refl)
    (shown-moves w v (λ g. false) (λ g. refl) (split-shown w b (empty w ok)))
    (marks-moves from to b v (retiring-split w b ok below) l (split-unmarked w b))

-- ---- all blocks

-- a block that no page from `from` up to `to` is in
none_in : (from to b : ℕ) → (ltb from (64 * b + 64) && ltb (64 * b) to) ≡ false → (g : ℕ) → in_block from to b g ≡ false
none_in from to b h g = elim (ℕ_discrete (g / 64) b) [
  | no e ↦ other_block from to b g e
  | yes e ↦ rw (eq-eqb (g / 64) b e) (elim (dec_lt from (64 * b + 64)) [
    | no l ↦ within-below from to g (omega arith)
    | yes l ↦ within-above from to g (omega (arith, ltb-false (64 * b) to (rw (lt-ltb from (64 * b + 64) l) at h)))
  ])
]

-- page g, in one of the n blocks from b upwards: in this, or in one after it
next-in : (n b g : ℕ) → within b (b + suc n) (g / 64) ≡ (eqb (g / 64) b || within (suc b) (suc b + n) (g / 64))
next-in n b g = elim (ℕ_discrete (g / 64) b) [
  | yes e ↦ rw (eq-eqb (g / 64) b e) (within-yes b (b + suc n) (g / 64) (omega arith) (omega arith))
  | no e ↦ rw (ne_eqb (g / 64) b e) (elim (dec_le b (g / 64)) [
    | no l ↦ within-below b (b + suc n) (g / 64) (omega arith) ∙ sym (within-below (suc b) (suc b + n) (g / 64) (omega arith))
    | yes l ↦ elim (dec_le (b + suc n) (g / 64)) [
      | no k ↦ within-yes b (b + suc n) (g / 64) l (omega arith) ∙ sym (within-yes (suc b) (suc b + n) (g / 64) (omega arith) (omega arith))
      | yes k ↦ within-above b (b + suc n) (g / 64) k ∙ sym (within-above (suc b) (suc b + n) (g / 64) (omega arith))
    ]
  ])
]

module _ (from to : ℕ) (several : Bool) where
  next-moves : (w : Window) (b : ℕ) → Retiring w → b < blocks_of w → Moves (in_block from to b) w (retire_next w b from to several)
  next-moves w b ok l =
      cond-holds (Moves (in_block from to b) w) (cond (several && covers_block from to b) (retire_block_of w b) (retire_in_block w from to b)) w (ltb from (64 * b + 64) && ltb (64 * b) to)
      (λ t. cond-holds (Moves (in_block from to b) w) (retire_block_of w b) (retire_in_block w from to b) (several && covers_block from to b)
      (λ s. block-moves from to b w ok l (both several (covers_block from to b) s).1)
      (λ s. in-block-moves from to b w ok l))
      (λ t. shown-moves w w (in_block from to b) (none_in from to b t) (shown-self w))

  -- the pages in the n blocks from b upwards
  abbrev in_blocks : ℕ → ℕ → ℕ → Bool
  in_blocks n b g = within b (b + n) (g / 64) && within from to g

  blocks-moves : (n b : ℕ) (w : Window) → Retiring w → b + n ≤ blocks_of w → Moves (in_blocks n b) w (retire_blocks_of n b w from to several)
  unfolding retire_blocks_of
  blocks-moves zero b w ok l = shown-moves w w (in_blocks 0 b) (λ g. ap (λ (t : Bool). t && within from to g) (none g)) (shown-self w)
    where
      none : (g : ℕ) → within b (b + 0) (g / 64) ≡ false
      none g = elim (dec_le b (g / 64)) [ yes k ↦ within-above b (b + 0) (g / 64) (omega arith) | no k ↦ within-below b (b + 0) (g / 64) (omega arith) ]
  blocks-moves (suc n) b w ok l =
      let v = retire_next w b from to several in
      let same : blocks_of v ≡ blocks_of w = ap (λ (x : Limits). block_count_of x.size) (next-limits w b from to several) in
      moves-then (in_block from to b) (in_blocks n (suc b)) (in_blocks (suc n) b) w v (retire_blocks_of n (suc b) v from to several)
      (λ g. ap (λ (t : Bool). t && within from to g) (next-in n b g) ∙ and-or_distrib_right (eqb (g / 64) b) (within (suc b) (suc b + n) (g / 64)) (within from to g))
      (next-moves w b ok (omega arith))
      (blocks-moves n (suc b) v (retiring-next from to several w b ok (omega arith)) (omega arith))

module _ (w : Window) (from to : ℕ) (ok : Retiring w) where
  pages-moves : Moves (within from to) w (retire_pages_of w from to)
  unfolding retire_pages_of
  pages-moves =
      let several = not (eqb (from / 64) ((to - 1) / 64)) in
      cond-holds (Moves (within from to) w) (retire_blocks_of (blocks_of w) 0 w from to several) w (ltb from to)
      (λ t. moves-same (in_blocks from to several (blocks_of w) 0) (within from to) w (retire_blocks_of (blocks_of w) 0 w from to several)
      (λ g. elim (dec_lt (g / 64) (blocks_of w)) [
        | yes l ↦ inl (rw (within-yes 0 (0 + blocks_of w) (g / 64) (omega arith) (omega arith)))
        | no l ↦ inr ((retiring-order w ok).past g (omega arith))
      ])
      (blocks-moves from to several (blocks_of w) 0 w ok (omega arith)))
      (λ t. shown-moves w w (within from to) (λ g. elim (dec_le from g) [
        | yes l ↦ within-above from to g (omega (arith, ltb-false from to t))
        | no l ↦ within-below from to g (omega arith)
      ]) (shown-self w))

  pub pages-seen : positions_of (retire_pages_of w from to)
      ≡ positions (wipe (from * 64) (to * 64) (live_at w)) (moved (from * 64) (to * 64) (live_at w) (retired_at w)) w.header.release_cursor w.header.base
  pages-seen =
      moves-seen w.header.n w (retire_pages_of w from to) (retiring-order w ok).places (within from to) pages-moves (from * 64) (to * 64) (within-pages from to)
