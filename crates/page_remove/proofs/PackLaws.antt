-- The loop that packs cells, over plain variables. Assumes nothing.
use mathlib.Core.Path.{◌≡◌, refl, sym, ap, ◌∙◌}
use mathlib.Core.Bool.{cond}
use mathlib.Core.List.{List}
use Prim.Native.Nat.{ℕ, suc, ◌+◌, ◌^◌, ◌≤◌, ◌<◌}
use native.Mathlib.Omega.{arith}
use native.Mathlib.Decide.{ℕ_discrete, dec_lt}
use lib.Dec.{ltb}
use lib.ListN.{length, get_or, set, length-set}
use borrow.Author.Tests.{lt-ltb, le-ltb, eq-eqb, ne_eqb}
use Rattle.words.specs.Word.{bit_at, clear_bit, count_below, count, lowest}
use Rattle.words.proofs.BitLaws.{bit-none}
use Rattle.words.proofs.ChangeLaws.{with-same, with-other, with-lt}
use Rattle.words.proofs.CountLaws.{count-suc, count-clear, count-gap}
use Rattle.words.proofs.LowestLaws.{lowest-is, lowest-some}
use Rattle.model.specs.Pages.{nth_set}
use Rattle.page_base.specs.Page.{cells}
use Rattle.page_base.proofs.PartLaws.{cell_in, cells-set}
use Rattle.page_remove.specs.Remove.{packed_cells}
use Rattle.page_remove.proofs.NthLaws.{IsNth, nth-eq, nth-ge}

-- the first k cells packed
unfoldable pub packed_to : ℕ → ℕ → (ℕ → ℕ) → ℕ → ℕ
packed_to k occupied f c = cond (ltb c k) (f (nth_set occupied c)) (f c)

-- what the loop's locals are: the bits of `rest` are those of `occupied` from its lowest on, and `next` of them are below it
pub record Packing (occupied rest next : ℕ) (xs₀ xs : List ℕ) : Type 0 where
  pub fits : rest < 2 ^ 64
  pub same : (j : ℕ) → lowest rest 0 ≤ j → bit_at rest j ≡ bit_at occupied j
  pub below : count_below (lowest rest 0) occupied ≡ next
  pub long : length xs ≡ 64
  pub packed : (c : ℕ) → cells xs c ≡ packed_to next occupied (cells xs₀) c

count-from-0 : (w : ℕ) → count_below 0 w ≡ 0
unfolding count_below
count-from-0 w = refl

pub packing-begins : (occupied : ℕ) (xs : List ℕ) → occupied < 2 ^ 64 → length xs ≡ 64 → Packing occupied occupied 0 xs xs
unfolding packed_to
packing-begins occupied xs l long = record {
  fits = l;
  same = λ j h. refl;
  below = count-gap occupied 0 (lowest occupied 0) (omega arith) (λ j a b. (lowest-is occupied 0 (omega arith)).none j a b) ∙ count-from-0 occupied;
  long = long;
  packed = λ c. rw (le-ltb c 0 (omega arith));
}

module _ (occupied rest next : ℕ) (xs₀ xs : List ℕ) (t : Packing occupied rest next xs₀ xs) (more : rest ≡ 0 → ⊥) where
  abbrev q : ℕ
  q = lowest rest 0

  pub slot_lt : lowest rest 0 < 64
  slot_lt = lowest-some rest t.fits more

  held : bit_at rest (lowest rest 0) ≡ 1
  held = (lowest-is rest 0 (omega arith)).held slot_lt

  here : IsNth occupied next (lowest rest 0)
  here = record { inside = slot_lt; set = sym (t.same q (omega arith)) ∙ held; below = t.below }

  pub next_le : next ≤ lowest rest 0
  next_le = nth-ge occupied next q here

  pub next-lt : next < 64
  next-lt = omega (arith, next_le, slot_lt)

  abbrev rest' : ℕ
  rest' = clear_bit rest q

  -- below the lowest bit that is left nothing is set, so `occupied` has nothing between the two
  cleared : bit_at (clear_bit rest (lowest rest 0)) (lowest rest 0) ≡ 0
  cleared = with-same rest q 0 (omega arith)

  kept : (j : ℕ) → (j ≡ lowest rest 0 → ⊥) → bit_at (clear_bit rest (lowest rest 0)) j ≡ bit_at rest j
  kept j h = with-other rest q 0 j (omega arith) h

  after : lowest rest 0 < lowest (clear_bit rest (lowest rest 0)) 0
  after =
      let i = lowest-is rest' 0 (omega arith) in
      let r = lowest rest' 0 in
      elim (dec_lt q r) [
        | yes l ↦ l
        | no l ↦ elim (ℕ_discrete r q) [
          | yes e ↦ absurd (omega (arith, i.held (omega (arith, slot_lt)), ap (bit_at rest') e, cleared))
          | no e ↦ absurd (omega (arith, i.held (omega (arith, slot_lt)), kept r e, (lowest-is rest 0 (omega arith)).none r (omega arith) (omega arith)))
        ]
      ]

  empty : (j : ℕ) → suc (lowest rest 0) ≤ j → j < lowest (clear_bit rest (lowest rest 0)) 0 → bit_at occupied j ≡ 0
  empty j a b =
      sym (t.same j (omega arith)) ∙ sym (kept j (λ e. omega arith)) ∙ (lowest-is rest' 0 (omega arith)).none j (omega arith) b

  each : (c : ℕ) → cells (set xs next (get_or xs (lowest rest 0) 0)) c ≡ packed_to (next + 1) occupied (cells xs₀) c
  unfolding packed_to
  each c =
      ap (λ (f : ℕ → ℕ). f c) (cells-set xs next (get_or xs q 0) t.long next-lt)
      ∙ elim (ℕ_discrete c next) [
        | yes e ↦
            rw (eq-eqb c next e, lt-ltb c (next + 1) (omega arith))
            (sym (cell_in xs q slot_lt) ∙ t.packed q ∙ rw (le-ltb q next next_le) (ap (cells xs₀) (sym (nth-eq occupied next q here) ∙ ap (nth_set occupied) (sym e))))
        | no e ↦ rw (ne_eqb c next e) (t.packed c ∙ elim (dec_lt c next) [
          | yes l ↦ rw (lt-ltb c next l, lt-ltb c (next + 1) (omega arith))
          | no l ↦ rw (le-ltb c next (omega arith), le-ltb c (next + 1) (omega arith))
        ])
      ]

  pub packing-turn : Packing occupied (clear_bit rest (lowest rest 0)) (next + 1) xs₀ (set xs next (get_or xs (lowest rest 0) 0))
  packing-turn = record {
    fits = with-lt 64 rest q 0 t.fits slot_lt (omega arith);
    same = λ j h. kept j (λ e. omega (arith, after)) ∙ t.same j (omega (arith, after));
    below = count-gap occupied (suc q) (lowest rest' 0) after empty ∙ count-suc q occupied ∙ omega (arith, t.below, here.set);
    long = length-set xs next (get_or xs q 0) ∙ t.long;
    packed = each;
  }

  pub packing-less : count (clear_bit rest (lowest rest 0)) < count rest
  packing-less = omega (arith, count-clear 64 rest q slot_lt held)

pub packing-ends : (occupied rest next : ℕ) (xs₀ xs : List ℕ) → Packing occupied rest next xs₀ xs → rest ≡ 0
    → cells xs ≡ packed_cells occupied (cells xs₀)
unfolding packed_to packed_cells
packing-ends occupied rest next xs₀ xs t e = λ i c. (t.packed c ∙ ap (λ (k : ℕ). cond (ltb c k) (cells xs₀ (nth_set occupied c)) (cells xs₀ c)) whole) i
  where
    none : (j : ℕ) → bit_at rest j ≡ 0
    none j = ap (λ (w : ℕ). bit_at w j) e ∙ bit-none j

    top : lowest rest 0 ≡ 64
    top =
        let i = lowest-is rest 0 (omega arith) in
        elim (dec_lt (lowest rest 0) 64) [ yes l ↦ absurd (omega (arith, i.held l, none (lowest rest 0))) | no l ↦ omega (arith, i.top) ]

    whole : next ≡ count occupied
    whole = sym t.below ∙ ap (λ (x : ℕ). count_below x occupied) top
