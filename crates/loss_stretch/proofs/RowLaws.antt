-- The mask of a row of 64 sequences, and a stretch of it, over plain variables. Assumes nothing.
use mathlib.Core.Path.{◌≡◌, refl, sym, ap, ◌∙◌, subst}
use mathlib.Core.Bool.{Bool, true, false, not, ◌&&◌, true≢false}
use mathlib.Core.List.{List}
use Prim.Native.Nat.{ℕ, ◌+◌, ◌-◌, ◌*◌, ◌/◌, ◌%◌, ◌^◌, ◌≤◌, ◌<◌}
use native.Mathlib.Omega.{arith}
use native.Mathlib.Decide.{dec_le}
use lib.Dec.{eqb}
use lib.ListN.{get_or}
use borrow.Author.Tests.{eqb-true, eq-eqb, ne_eqb, ltb-true, lt-ltb}
use Rattle.words.proofs.CaseLaws.{bool, both}
use Rattle.words.specs.First.{first_from_of}
use Rattle.words.specs.Word.{bit_at, is_set, lowest}
use Rattle.words.proofs.FirstLaws.{first-is}
use Rattle.words.proofs.BitLaws.{bit-lt, bit-none, bit_not}
use Rattle.words.proofs.LowestLaws.{lowest-is}
use Rattle.window.specs.declared.AdaptiveReceiverPacketWindow.{AdaptiveReceiverPacketWindow}
use Rattle.window.specs.Memory.{position}
use Rattle.model.specs.Table.{sequence_at_of}
use Rattle.page_base.specs.declared.PageWords.{PageWords}
use Rattle.page_base.specs.Page.{words_at, part_of}
use Rattle.page_base.proofs.PartLaws.{part_length}
use Rattle.call_base.proofs.FitLaws.{sequence-bounds}
use Rattle.call_base.specs.Promises.{reached_by, Reachable}
use Rattle.acknowledge.specs.Promises.{Masks, cells_for, StandsIn}
use Rattle.acknowledge.proofs.StepLaws.{row-position, row-sequence}
use Rattle.loss_stretch.specs.Promises.{holds_in, row_end_of, seen_live, MasksRow, Stretches}

-- ---- a sequence in a page's cells

abbrev uses : List ℕ → (filled s c : ℕ) → Bool
uses ss filled s c = is_set filled c && eqb (get_or ss c 0) s

pub holds-cell : (ss : List ℕ) (filled n s c : ℕ) → c < n → bit_at filled c ≡ 1 → get_or ss c 0 ≡ s → holds_in ss filled n s ≡ true
holds-cell ss filled n s c l u e =
    let i = first-is (uses ss filled s) n 0 in
    let own : uses ss filled s c ≡ true = rw (u, eq-eqb (get_or ss c 0) s e) refl in
    lt-ltb (first_from_of (uses ss filled s) n 0) n
    (elim (dec_le n (first_from_of (uses ss filled s) n 0)) [
      | yes h ↦ absurd (true≢false (sym own ∙ i.none c (omega arith) (omega arith)))
      | no h ↦ omega arith
    ])

pub cell_holds : (ss : List ℕ) (filled n s : ℕ) → holds_in ss filled n s ≡ true → (c : ℕ) × (c < n) × (bit_at filled c ≡ 1) × (get_or ss c 0 ≡ s)
cell_holds ss filled n s t =
    let c = first_from_of (uses ss filled s) n 0 in
    let l = ltb-true c n t in
    let b = both (is_set filled c) (eqb (get_or ss c 0) s) ((first-is (uses ss filled s) n 0).held (omega arith)) in
    (c, l, eqb-true (bit_at filled c) 1 b.0, eqb-true (get_or ss c 0) s b.1)

-- ---- the mask of a page

not_set : (mask j : ℕ) → is_set mask j ≡ false → bit_at mask j ≡ 1 → ⊥
not_set mask j f e = true≢false (sym (eq-eqb (bit_at mask j) 1 e) ∙ f)

pub mask-holds : (ss : List ℕ) (filled row n mask : ℕ) → Masks ss filled row n mask → (j : ℕ) → j < 64 → is_set mask j ≡ holds_in ss filled n (64 * row + j)
mask-holds ss filled row n mask m j l = bool (is_set mask j)
    (λ t. let x = m.held j l (eqb-true (bit_at mask j) 1 t) in t ∙ sym (holds-cell ss filled n (64 * row + j) x.0 x.1 x.2.0 (omega (arith, x.2.1, x.3))))
    (λ t. bool (holds_in ss filled n (64 * row + j))
    (λ h. let x = cell_holds ss filled n (64 * row + j) h in
    let at : get_or ss x.0 0 % 64 ≡ j = omega (arith, x.3) in
    absurd (not_set mask j t (ap (bit_at mask) (sym at) ∙ m.all x.0 x.1 (x.2, omega (arith, x.3)))))
    (λ h. t ∙ sym h))

-- ---- where a stretch ends

-- the bits from `slot` up to the end are as bit `slot`
pub end-alike : (mask slot end : ℕ) → mask < 2 ^ 64 → slot < 64 → end ≡ row_end_of mask slot
    → (slot < end) × (end ≤ 64) × ((j : ℕ) → slot ≤ j → j < end → is_set mask j ≡ is_set mask slot)
end-alike mask slot end fits l e = bool (is_set mask slot)
    (λ t.
    let i = lowest-is ((2 ^ 64 - 1) - mask) slot (omega arith) in
    let is : end ≡ lowest ((2 ^ 64 - 1) - mask) slot = rw t at e in
    let set : bit_at mask slot ≡ 1 = eqb-true (bit_at mask slot) 1 t in
    let own : (slot ≡ end → ⊥) = λ q. omega (arith, is, i.held (omega (arith, is, q)), bit_not 64 slot mask fits l, set, ap (λ (x : ℕ). bit_at ((2 ^ 64 - 1) - mask) x) (q ∙ is)) in (
      omega (arith, is, i.from, own),
      omega (arith, is, i.top),
      λ j a b. eq-eqb (bit_at mask j) 1 (omega (arith, i.none j a (omega (arith, is)), bit_not 64 j mask fits (omega (arith, is, i.top)), bit-lt mask j)) ∙ sym t,
    ))
    (λ t.
    let i = lowest-is mask slot (omega arith) in
    let is : end ≡ lowest mask slot = rw t at e in
    let own : (slot ≡ end → ⊥) = λ q. not_set mask slot t (ap (bit_at mask) (q ∙ is) ∙ i.held (omega (arith, is, q))) in (
      omega (arith, is, i.from, own),
      omega (arith, is, i.top),
      λ j a b. ne_eqb (bit_at mask j) 1 (λ q. omega (arith, q, i.none j a (omega (arith, is)))) ∙ sym t,
    ))

-- ---- the mask of a row; p is the position of s, r is what `reachable` says of its page

module _ (h : AdaptiveReceiverPacketWindow) (ss pages blocks : List ℕ) where
  abbrev seen : ℕ → Bool
  seen = seen_live h ss pages blocks

  module _ (s p : ℕ) (r : Bool) (e : p ≡ position h.window_size s) (reach : Reachable h blocks (p / 64) r) where
    -- the sequences of the row have one page
    row_seen : (j : ℕ) → j < 64 →
        let w = words_at pages (p / 64) in
        seen (64 * (s / 64) + j) ≡ (r && holds_in (part_of (p / 64) ss) w.filled (cells_for h.n w) (64 * (s / 64) + j))
    unfolding seen_live
    row_seen j l =
        let x = 64 * (s / 64) + j in
        let at : position h.window_size x / 64 ≡ p / 64 = omega (arith, row-position h.window_size s j l, e) in
        ap (λ (g : ℕ). reached_by h blocks g && holds_in (part_of g ss) (words_at pages g).filled (cells_for h.n (words_at pages g)) x) at
        ∙ ap (λ (y : Bool). y && holds_in (part_of (p / 64) ss) (words_at pages (p / 64)).filled (cells_for h.n (words_at pages (p / 64))) x) (sym reach)

    -- none of a page that is not reachable
    pub row-unreachable : r ≡ false → MasksRow h ss pages blocks s 0
    row-unreachable z j l = ne_eqb (bit_at 0 j) 1 (λ q. omega (arith, q, bit-none j)) ∙ sym (row_seen j l ∙ rw z refl)

    -- else those that the page's mask has
    pub row-reached : r ≡ true → (w : PageWords) (cs : List ℕ) (mask : ℕ) → w ≡ words_at pages (p / 64) → cs ≡ part_of (p / 64) ss
        → StandsIn h.n w cs (s / 64) mask → MasksRow h ss pages blocks s mask
    row-reached n w cs mask ew ec t j l =
        let u = subst (λ (x : PageWords). StandsIn h.n x (part_of (p / 64) ss) (s / 64) mask) ew (subst (λ (x : List ℕ). StandsIn h.n w x (s / 64) mask) ec t) in
        mask-holds _ _ (s / 64) _ mask u j l ∙ sym (row_seen j l ∙ rw n refl)

  -- ---- a stretch

  -- one mask serves all sequences of a row
  row_same : (s t mask : ℕ) → s / 64 ≡ t / 64 → MasksRow h ss pages blocks s mask → MasksRow h ss pages blocks t mask
  row_same s t mask e m j l = m j l ∙ ap (λ (x : ℕ). seen (64 * x + j)) e

  -- s is the sequence at distance d, and x not more than the bits up to the end
  module _ (first count d s mask end : ℕ) (fits : mask < 2 ^ 64) (e : s ≡ sequence_at_of first d) (row : MasksRow h ss pages blocks s mask) (q : end ≡ row_end_of mask (s % 64)) where
    end_after : (s % 64 < end) × (end ≤ 64)
    end_after = let a = end-alike mask (s % 64) end fits (omega arith) q in (a.0, a.1)

    at_row : (j : ℕ) → d ≤ j → j < d + (end - s % 64) → sequence_at_of first j ≡ 64 * (s / 64) + (s % 64 + (j - d))
    at_row j a b =
        let k : d + (j - d) ≡ j = omega arith in
        let l : sequence_at_of first d % 64 + (j - d) < 64 = omega (arith, e, end_after) in
        ap (sequence_at_of first) (sym k) ∙ row-sequence first d (j - d) l ∙ ap (λ (y : ℕ). 64 * (y / 64) + (y % 64 + (j - d))) (sym e)

    -- b is the bit of s
    pub stretch : (b : Bool) (x : ℕ) → b ≡ is_set mask (s % 64) → 0 < x → x ≤ end - s % 64 → d + x ≤ count
        → Stretches h ss pages blocks first count d (record { mask = mask; lost = not b; length = x })
    stretch b x i p l u = record {
      some = p;
      inside = u;
      alike = λ j from below.
          let k = s % 64 + (j - d) in
          let bits = end-alike mask (s % 64) end fits (omega arith) q in
          ap (λ (y : ℕ). not (seen y)) (at_row j from (omega arith))
          ∙ ap not (sym (row k (omega (arith, end_after))) ∙ bits.2 k (omega arith) (omega (arith, end_after)))
          ∙ ap not (sym i);
      knows = λ some-before other.
          row_same s (sequence_at_of first (d + x)) mask (next_row x l other) row;
    }
      where
        next_row : (x : ℕ) → x ≤ end - s % 64 → (sequence_at_of first (d + x) % 64 ≡ 0 → ⊥) → s / 64 ≡ sequence_at_of first (d + x) / 64
        next_row x l other = omega (arith, e, end_after)

-- what the tactics know of a row's mask
pub ruleset masks = (row-unreachable, row-reached, part_length, sequence-bounds)
