-- The loop that drains a page, over plain variables. Assumes nothing.
use mathlib.Core.Path.{◌≡◌, refl, sym, ap, ap₂, ◌∙◌, subst}
use mathlib.Core.Bool.{Bool, true, false}
use Rattle.std.specs.Prelude.{None, Some}
use mathlib.Core.List.{List, [], ◌∷◌, ◌++◌}
use Prim.Native.Nat.{ℕ, suc, ◌+◌, ◌-◌, ◌%◌, ◌^◌, ◌≤◌, ◌<◌}
use native.Mathlib.Omega.{arith}
use lib.Bits.{bit_and, and_le_r}
use lib.ListN.{length, get_or, take, drop, set, length-set, length-drop}
use lib.Seq.{take-set-le, drop-set-lt, drop-set-add, take-suc-set, drop-drop, append_snoc}
use borrow.Author.Tests.{eq-eqb, ne_eqb}
use Rattle.words.proofs.CaseLaws.{bool}
use Rattle.words.specs.Word.{bit_at, is_set, lowest}
use Rattle.words.proofs.BitLaws.{bit-lt, bit-and, bit-none}
use Rattle.words.proofs.LowestLaws.{lowest-is, lowest-some}
use Rattle.model.specs.Window.{Page, cell_of}
use Rattle.model.specs.Pages.{take_cell_of, drain_page, PageDrained, page_drained}
use Rattle.page_base.specs.declared.PageWords.{PageWords}
use Rattle.page_base.specs.Page.{cells, page, Placed}
use Rattle.page_base.specs.Promises.{SlotAt}
use Rattle.page_base.proofs.PartLaws.{cell_in}
use Rattle.page_base.proofs.PlaceLaws.{cell-some, cell-used, take-placed}
use Rattle.page_remove.specs.Remove.{taken_words}
use Rattle.page_remove.specs.Promises.{Wrote, stretch, Drains}
use Rattle.page_remove.proofs.DrainLaws.{takes, drain-zero, drain-none, drain-first}
use Rattle.page_remove.proofs.SettleLaws.{page-taken}

-- ---- the return list

pub wrote_none : (at : ℕ) (l : List ℕ) → Wrote at 0 l l
wrote_none at l = record { before = refl; past = refl; long = refl }

pub wrote-more : (at k v : ℕ) (l l' : List ℕ) → Wrote at k l l' → Wrote at (k + 1) l (set l' (at + k) v)
wrote-more at k v l l' t = record {
  before = take-set-le at l' (at + k) v (omega arith) ∙ t.before;
  past =
      let e : at + (k + 1) ≡ (at + k) + 1 = omega arith in
      drop-set-lt (at + (k + 1)) l' (at + k) v (omega arith)
      ∙ ap (λ (x : ℕ). drop x l') e ∙ sym (drop-drop 1 (at + k) l') ∙ ap (drop 1) t.past ∙ drop-drop 1 (at + k) l ∙ ap (λ (x : ℕ). drop x l) (sym e);
  long = length-set l' (at + k) v ∙ t.long;
}

pub stretch-more : (at k v : ℕ) (l : List ℕ) → at + k < length l → stretch at (k + 1) (set l (at + k) v) ≡ stretch at k l ++ (v ∷ [])
stretch-more at k v l h =
    let e : k + 1 ≡ suc k = omega arith in
    ap (λ (x : ℕ). take x (drop at (set l (at + k) v))) e ∙ ap (take (suc k)) (drop-set-add at l k v)
    ∙ take-suc-set (drop at l) k v (omega (arith, length-drop at l))

pub stretch-none : (at : ℕ) (l : List ℕ) → stretch at 0 l ≡ []
stretch-none at l = refl

append-none : (xs : List ℕ) → xs ++ [] ≡ xs
append-none [] = refl
append-none (x ∷ xs) = ap (λ (l : List ℕ). x ∷ l) (append-none xs)

-- ---- one turn

-- what was taken out so far, and then what the rest gives
abbrev pub joined : List ℕ → PageDrained → PageDrained
joined out d = page_drained d.page (out ++ d.out)

pub joined-none : (out : List ℕ) (p : Page) (d : PageDrained) → d ≡ page_drained p [] → joined out d ≡ page_drained p out
joined-none out p d e = λ i. (ap (joined out) e ∙ (λ j. page_drained p (append-none out j))) i

-- slots and the page's occupied word select nothing
pub none-selected : (slots : ℕ) (p : Page) (k : ℕ) → bit_and p.occupied slots ≡ 0 → drain_page 64 0 (is_set slots) k p ≡ page_drained p []
none-selected slots p k e = drain-none (is_set slots) k p (λ i l. not-both i)
  where
    not-both : (i : ℕ) → takes (is_set slots) p i ≡ false
    not-both i =
        let z : bit_at (bit_and p.occupied slots) i ≡ 0 = ap (λ (w : ℕ). bit_at w i) e ∙ bit-none i in
        bool (is_set slots i)
        (λ a. rw a (ne_eqb (bit_at p.occupied i) 1 (λ q. omega (arith, q, z, bit-and p.occupied slots i, borrow.Author.Tests.eqb-true (bit_at slots i) 1 a))))
        (λ a. rw a)

module _ (n slots : ℕ) (p : Page) (ok : Placed n p) (fits : bit_and p.occupied slots < 2 ^ 64) (some : bit_and p.occupied slots ≡ 0 → ⊥) where
  abbrev sel : ℕ
  sel = bit_and p.occupied slots

  abbrev q : ℕ
  q = lowest sel 0

  pub first-lt : lowest (bit_and p.occupied slots) 0 < 64
  first-lt = lowest-some sel fits some

  held : bit_at (bit_and p.occupied slots) (lowest (bit_and p.occupied slots) 0) ≡ 1
  held = (lowest-is sel 0 (omega arith)).held first-lt

  pub first_cell : cell_of p (lowest (bit_and p.occupied slots) 0) < 64
  first_cell = cell-some n p ok q first-lt (omega (arith, held, bit-and p.occupied slots q, bit-lt p.occupied q, bit-lt slots q))

  pub first-at : p.sequences (cell_of p (lowest (bit_and p.occupied slots) 0)) % 64 ≡ lowest (bit_and p.occupied slots) 0
  first-at = (cell-used p q first_cell).1

  pub first-placed : Placed n (take_cell_of p (cell_of p (lowest (bit_and p.occupied slots) 0)))
  first-placed = take-placed n p ok (cell_of p q) first_cell (cell-used p q first_cell).0

  selected : takes (is_set slots) p (lowest (bit_and p.occupied slots) 0) ≡ true
  selected =
      rw (
        eq-eqb (bit_at slots q) 1 (omega (arith, held, bit-and p.occupied slots q, bit-lt p.occupied q, bit-lt slots q)),
        eq-eqb (bit_at p.occupied q) 1 (omega (arith, held, bit-and p.occupied slots q, bit-lt p.occupied q, bit-lt slots q)),
      )

  before : (i : ℕ) → i < lowest (bit_and p.occupied slots) 0 → takes (is_set slots) p i ≡ false
  before i l =
      let z = (lowest-is sel 0 (omega arith)).none i (omega arith) l in
      bool (is_set slots i)
      (λ a. rw a (ne_eqb (bit_at p.occupied i) 1 (λ b. omega (arith, b, z, bit-and p.occupied slots i, borrow.Author.Tests.eqb-true (bit_at slots i) 1 a))))
      (λ a. rw a)

  -- its value joins what was taken out
  pub first-drained : (k : ℕ) (out : List ℕ) → joined out (drain_page 64 0 (is_set slots) (suc k) p)
      ≡ joined (out ++ (p.values (cell_of p (lowest (bit_and p.occupied slots) 0)) ∷ [])) (drain_page 64 0 (is_set slots) k (take_cell_of p (cell_of p (lowest (bit_and p.occupied slots) 0))))
  first-drained k out =
      let d = drain_page 64 0 (is_set slots) k (take_cell_of p (cell_of p q)) in
      ap (joined out) (drain-first (is_set slots) k q p first-lt selected before first-at)
      ∙ (λ i. page_drained d.page (sym (append_snoc out (p.values (cell_of p q)) d.out) i))

-- ---- the loop

-- what the loop's locals are: k values written; on a page whose values are in their places, what is left of it and what the rest gives
pub record Draining (n : ℕ) (w : PageWords) (ss vs : List ℕ) (slots at limit : ℕ) (l₀ l : List ℕ) (left : PageWords) (k : ℕ) (sound : Bool) : Type 0 where
  pub wrote : Wrote at k l₀ l
  pub few : k ≤ limit
  pub good : sound ≡ true
  pub placed : Placed n (page w ss vs) → Placed n (page left ss vs)
  pub gives : Placed n (page w ss vs)
      → drain_page 64 0 (is_set slots) limit (page w ss vs) ≡ joined (stretch at k l) (drain_page 64 0 (is_set slots) (limit - k) (page left ss vs))

pub draining-begins : (n : ℕ) (w : PageWords) (ss vs : List ℕ) (slots at limit : ℕ) (l : List ℕ) → Draining n w ss vs slots at limit l l w 0 true
draining-begins n w ss vs slots at limit l = record {
  wrote = wrote_none at l;
  few = omega arith;
  good = refl;
  placed = λ ok. ok;
  gives = λ ok. let e : limit ≡ limit - 0 = omega arith in ap (λ (x : ℕ). drain_page 64 0 (is_set slots) x (page w ss vs)) e;
}

module _ (n : ℕ) (w : PageWords) (ss vs : List ℕ) (slots at limit : ℕ) (l₀ l : List ℕ) (left : PageWords) (k : ℕ) (sound : Bool)
    (t : Draining n w ss vs slots at limit l₀ l left k sound) where
  -- one value more: it stood at the lowest position selected, in cell c
  pub draining-turn : slots < 2 ^ 64 → at + limit ≤ length l₀ → k < limit → (bit_and left.occupied slots ≡ 0 → ⊥)
      → (q c : ℕ) → q ≡ lowest (bit_and left.occupied slots) 0 → SlotAt n left ss q (Some c)
      → Draining n w ss vs slots at limit l₀ (set l (at + k) (get_or vs c 0)) (taken_words left q c) (k + 1) sound
  draining-turn fits room more some q c e slot =
      let p = page left ss vs in
      let sel = bit_and left.occupied slots in
      let small : sel < 2 ^ 64 = omega (arith, and_le_r left.occupied slots) in
      let cell : Placed n (page w ss vs) → c ≡ cell_of p (lowest sel 0) = λ ok. slot.cell vs (t.placed ok) ∙ ap (cell_of p) e in
      let taken : (ok : Placed n (page w ss vs)) → page (taken_words left q c) ss vs ≡ take_cell_of p (cell_of p (lowest sel 0)) = λ ok.
      page-taken left ss vs q c (ap (λ (x : ℕ). cells ss x % 64) (cell ok) ∙ first-at n slots p (t.placed ok) small some ∙ sym e) ∙ ap (take_cell_of p) (cell ok) in
      let value : Placed n (page w ss vs) → stretch at k l ++ (cells vs (cell_of p (lowest sel 0)) ∷ []) ≡ stretch at (k + 1) (set l (at + k) (get_or vs c 0)) = λ ok.
      ap (λ (x : ℕ). stretch at k l ++ (x ∷ [])) (ap (cells vs) (sym (cell ok)) ∙ cell_in vs c slot.bounded)
      ∙ sym (stretch-more at k (get_or vs c 0) l (omega (arith, t.wrote.long))) in
      record {
        wrote = wrote-more at k (get_or vs c 0) l₀ l t.wrote;
        few = omega arith;
        good = t.good;
        placed = λ ok. subst (Placed n) (sym (taken ok)) (first-placed n slots p (t.placed ok) small some);
        gives = λ ok.
            let d : limit - k ≡ suc (limit - (k + 1)) = omega arith in
            t.gives ok
            ∙ ap (λ (x : ℕ). joined (stretch at k l) (drain_page 64 0 (is_set slots) x p)) d
            ∙ first-drained n slots p (t.placed ok) small some (limit - (k + 1)) (stretch at k l)
            ∙ ap₂ (λ (out : List ℕ) (r : Page). joined out (drain_page 64 0 (is_set slots) (limit - (k + 1)) r)) (value ok) (sym (taken ok));
      }

  pub draining-ends : limit ≤ k → Drains n w ss vs slots at limit l₀ (record { words = left; count = k; sound = sound }) l
  draining-ends e = record {
    wrote = t.wrote;
    few = t.few;
    sound = λ ok. t.good;
    gives = λ ok.
        let z : limit - k ≡ 0 = omega arith in
        sym (t.gives ok ∙ joined-none (stretch at k l) (page left ss vs) _ (ap (λ (x : ℕ). drain_page 64 0 (is_set slots) x (page left ss vs)) z ∙ drain-zero (is_set slots) 64 0 (page left ss vs)));
  }

  pub draining-empty : bit_and left.occupied slots ≡ 0 → Drains n w ss vs slots at limit l₀ (record { words = left; count = k; sound = sound }) l
  draining-empty e = record {
    wrote = t.wrote;
    few = t.few;
    sound = λ ok. t.good;
    gives = λ ok. sym (t.gives ok ∙ joined-none (stretch at k l) (page left ss vs) _ (none-selected slots (page left ss vs) (limit - k) e));
  }

  -- an occupied position without a cell: the page's values are not in their places
  pub draining-unsound : slots < 2 ^ 64 → (bit_and left.occupied slots ≡ 0 → ⊥) → (q : ℕ) → q ≡ lowest (bit_and left.occupied slots) 0 → SlotAt n left ss q None
      → Drains n w ss vs slots at limit l₀ (record { words = left; count = k; sound = false }) l
  draining-unsound fits some q e slot =
      let p = page left ss vs in
      let small : bit_and left.occupied slots < 2 ^ 64 = omega (arith, and_le_r left.occupied slots) in
      let never : Placed n (page w ss vs) → ⊥ = λ ok. omega (arith, slot.cell vs (t.placed ok) ∙ ap (cell_of p) e, first_cell n slots p (t.placed ok) small some) in
      record { wrote = t.wrote; few = t.few; sound = λ ok. absurd (never ok); gives = λ ok. absurd (never ok) }
