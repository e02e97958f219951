-- What a test for refusals that passes says of the header and of the lists, and back. Assumes nothing.
use mathlib.Core.Path.{◌≡◌, refl, sym, ap, ◌∙◌}
use mathlib.Core.Bool.{Bool, cond, true, false, ◌&&◌, ◌||◌, true≢false}
use Prim.Native.Nat.{ℕ, suc, ◌^◌, ◌≤◌, ◌<◌}
use native.Mathlib.Omega.{arith}
use lib.Dec.{ltb}
use borrow.Author.Tests.{ltb-true, ltb-false, leb-true, eqb-true, le-ltb, le-leb, eq-eqb}
use Rattle.window.specs.declared.AdaptiveReceiverPacketWindow.{AdaptiveReceiverPacketWindow}
use Rattle.window.specs.declared.refusals.Refusal.{Refusal}
use Rattle.window.specs.declared.refusals.Refusal.TheVariants.{WindowSize, SparseCells, DemoteAt, Occupied, RangeCount, ShortMemory, Unsound, Budget, Base, Sequence, ShortList, LossList}
use Rattle.std.specs.Prelude.{Result, Ok, Err, is_ok}
use Rattle.window.specs.Refusals.{refusal_number_of, verdict_number, outside, limits, long_enough_of, fits, fits_with_list_of, is_wire_number_of, Within, LongEnough, Fits}

and-true : (a b : Bool) → (a && b) ≡ true → (a ≡ true) × (b ≡ true)
and-true true b e = (refl, e)
and-true false b e = absurd (true≢false (sym e))

or-false : (a b : Bool) → (a || b) ≡ false → (a ≡ false) × (b ≡ false)
or-false true b e = absurd (true≢false e)
or-false false b e = (refl, e)

some_number : (why : Refusal) → 1 ≤ refusal_number_of why
some_number WindowSize = omega arith
some_number SparseCells = omega arith
some_number DemoteAt = omega arith
some_number Occupied = omega arith
some_number RangeCount = omega arith
some_number ShortMemory = omega arith
some_number Unsound = omega arith
some_number Budget = omega arith
some_number Base = omega arith
some_number Sequence = omega arith
some_number ShortList = omega arith
some_number LossList = omega arith

-- the number of a refusal is not 0
pub some-refusal : (why : Refusal) → refusal_number_of why ≡ 0 → ⊥
some-refusal why z = omega (arith, some_number why)

pub refuses : (t : Result (Unit {0}) Refusal) (why : Refusal) → t ≡ Err why → verdict_number t ≡ 0 → ⊥
refuses t why e z = let k : refusal_number_of why ≡ 0 = ap verdict_number (sym e) ∙ z in omega (arith, some_number why)

-- a test that is Ok passes, and one that is not does not
pub passes : (t : Result (Unit {0}) Refusal) → is_ok t ≡ true → verdict_number t ≡ 0
passes (Ok u) e = refl
passes (Err why) e = absurd (true≢false (sym e))

pub fails : (t : Result (Unit {0}) Refusal) → is_ok t ≡ false → verdict_number t ≡ 0 → ⊥
fails (Ok u) e z = true≢false e
fails (Err why) e z = omega (arith, some_number why)

-- ---- limits
passed : (t : Bool) (k rest : ℕ) → cond t (suc k) rest ≡ 0 → (t ≡ false) × (rest ≡ 0)
passed true k rest e = absurd (omega arith)
passed false k rest e = (refl, e)

inside : (low high x : ℕ) → outside low high x ≡ false → (low ≤ x) × (x ≤ high)
inside low high x e = let o = or-false (ltb x low) (ltb high x) e in (ltb-false x low o.0, ltb-false high x o.1)

pub limits-within : (size n d : ℕ) → limits size n d ≡ 0 → Within size n d
unfolding limits
limits-within size n d e =
    let a = passed (outside 1 65536 size) 0 _ e in
    let b = passed (outside 1 63 n) 1 _ a.1 in
    let c = passed (ltb n d) 2 _ b.1 in
    let s = inside 1 65536 size a.0 in
    let m = inside 1 63 n b.0 in
    record { size_low = s.0; size_high = s.1; n_low = m.0; n_high = m.1; demote = ltb-false n d c.0 }

pub within-limits : (size n d : ℕ) → Within size n d → limits size n d ≡ 0
unfolding limits
within-limits size n d w =
    simp (le-ltb _ _ w.size_low, le-ltb _ _ w.size_high, le-ltb _ _ w.n_low, le-ltb _ _ w.n_high, le-ltb _ _ w.demote)

-- ---- lengths
pub long-enough-is : (size s v p b : ℕ) → long_enough_of size s v p b ≡ true → LongEnough size s v p b
unfolding long_enough_of
long-enough-is size s v p b e =
    let i = and-true _ _ e in
    let j = and-true _ _ i.1 in
    let k = and-true _ _ j.1 in
    record {
      sequences_long = leb-true _ _ i.0;
      values_long = leb-true _ _ j.0;
      pages_long = leb-true _ _ k.0;
      blocks_long = leb-true _ _ k.1;
    }

pub is-long-enough : (size s v p b : ℕ) → LongEnough size s v p b → long_enough_of size s v p b ≡ true
unfolding long_enough_of
is-long-enough size s v p b l =
    simp (le-leb _ _ l.sequences_long, le-leb _ _ l.values_long, le-leb _ _ l.pages_long, le-leb _ _ l.blocks_long)

-- ---- refusal 6
module _ (w : AdaptiveReceiverPacketWindow) (s v p b : ℕ) where
  pub fits-is : fits w s v p b ≡ true → Fits w s v p b
  unfolding fits
  fits-is e =
      let f = and-true _ _ e in
      record { within = limits-within _ _ _ (eqb-true _ _ f.0); long = long-enough-is _ s v p b f.1 }

  pub is-fit : Fits w s v p b → fits w s v p b ≡ true
  unfolding fits
  is-fit f = simp (eq-eqb _ _ (within-limits _ _ _ f.within), is-long-enough _ s v p b f.long)

  pub fits-with-list-is : (r : ℕ) → fits_with_list_of w s v p b r ≡ true → (384 ≤ r) × Fits w s v p b
  unfolding fits_with_list_of
  fits-with-list-is r e = let f = and-true _ _ e in (leb-true 384 r f.0, fits-is f.1)

-- ---- wire numbers: r says whether s is one

pub wire-yes : (s : ℕ) (r : Bool) → r ≡ is_wire_number_of s → r ≡ true → s < 2 ^ 31
wire-yes s r e t = ltb-true s (2 ^ 31) (sym e ∙ t)

pub wire-no : (s : ℕ) (r : Bool) → r ≡ is_wire_number_of s → r ≡ false → 2 ^ 31 ≤ s
wire-no s r e f = ltb-false s (2 ^ 31) (sym e ∙ f)
