-- The listing of live pairs: what is known after some of them, and that nothing is left at each way out. Assumes nothing.
use mathlib.Core.Path.{◌≡◌, refl, sym, ap, subst, ◌∙◌}
use mathlib.Core.Bool.{true, false}
use mathlib.Core.List.{List, [], ◌∷◌, ◌++◌, map, append-nil}
use Prim.Native.Nat.{ℕ, zero, suc, min, ◌+◌, ◌-◌, ◌≤◌, ◌<◌}
use native.Mathlib.Numerals.{add-one}
use native.Mathlib.Omega.{arith}
use lib.Dec.{ltb}
use lib.ListN.{length, get_or, set, take, length-set, length-map}
use lib.Seq.{take-suc-set, append_snoc, length-take-le}
use Rattle.words.proofs.CaseLaws.{bool}
use Rattle.words.specs.First.{first_from_of}
use Rattle.words.proofs.FirstLaws.{first-is}
use borrow.Author.Tests.{ltb-true}
use Rattle.std.specs.Prelude.{Result, Ok, Err}
use Rattle.window.specs.declared.answers.Answer as window
use Rattle.window.specs.declared.refusals.Refusal.{Refusal}
use Rattle.window.specs.declared.answers.Answer.TheVariants.{Done, New, Replaced, Absent, Found, Pair as Paired, Ended, Released}
use Rattle.model.specs.Calls.{Answer, pair, ended, ask, iter}
use Rattle.model.specs.Table.{Pair, pair_of}
use Rattle.model.specs.Window.{Window, capacity_of, is_reached, cell_pair, reads_of, iter_step, and_then, pairs_from, live_pairs_of}
use Rattle.model.specs.Steps.{window_does}
use Rattle.model.specs.Sound.{SoundWithPoint}
use Rattle.model.specs.Contract.{State, window_of, Left, lengths_fit, Meets}
use Rattle.call_base.specs.Answers.{answer_of, given_of}
use Rattle.call_read.proofs.IterLaws.{capacity-is}
use Rattle.line_calls.specs.List.{sequences_of, Lists}

-- ---- one step of iter

-- its answer, on a sound state whose lists fit
pub asked : (u : State) (n : ℕ) (r : Left) → Meets (ask (iter n)) u [] r → lengths_fit u ≡ true → SoundWithPoint (window_of u) → r.answer ≡ iter_step (window_of u) n
unfolding window_does
asked u n r m fit ok = (m.sound (rw fit refl) ok).answer

-- past the patterns `Ok` and `Pair` an answer has none
given_none : (a : window.Answer) → ((s v next reads : ℕ) → a ≡ Paired s v next reads → ⊥) → (rest : ℕ → List Pair) → and_then (given_of a) rest ≡ []
given_none Done t rest = refl
given_none New t rest = refl
given_none (Replaced v) t rest = refl
given_none Absent t rest = refl
given_none (Found n) t rest = refl
given_none (Paired s v next reads) t rest = absurd (t s v next reads refl)
given_none (Ended reads) t rest = refl
given_none (Released values units) t rest = refl

module _ (a : Result window.Answer Refusal) where
  pub other_none : (g : window.Answer) → a ≡ Ok g → ((s v next reads : ℕ) → g ≡ Paired s v next reads → ⊥) → (rest : ℕ → List Pair) → and_then (answer_of a) rest ≡ []
  other_none g e t rest = ap (λ (x : Result window.Answer Refusal). and_then (answer_of x) rest) e ∙ given_none g t rest

  pub refused_none : (why : Refusal) → a ≡ Err why → (rest : ℕ → List Pair) → and_then (answer_of a) rest ≡ []
  refused_none why e rest = ap (λ (x : Result window.Answer Refusal). and_then (answer_of x) rest) e

-- the pair of an answer, then one that tells the cell after it
abbrev next_in : Answer → List Pair
next_in a = and_then a (λ (k : ℕ). pair_of k 0 ∷ [])

module _ (w : Window) (n : ℕ) where
  -- the cell that it finds
  abbrev cell_found : ℕ
  cell_found = first_from_of (is_reached w) (capacity_of w - n) n

  step-pair : ltb cell_found (capacity_of w) ≡ true → iter_step w n ≡ pair (cell_pair w cell_found).sequence (cell_pair w cell_found).value (cell_found + 1) (reads_of (capacity_of w) n cell_found)
  unfolding iter_step
  step-pair t = rw t

  step-done : ltb cell_found (capacity_of w) ≡ false → iter_step w n ≡ ended (reads_of (capacity_of w) n cell_found)
  unfolding iter_step
  step-done t = rw t

  -- the cell after a pair is past the cell that iter began from, and at most the capacity
  pub next-bounds : (s v next reads : ℕ) → pair s v next reads ≡ iter_step w n → (n < next) × (next ≤ capacity_of w)
  next-bounds s v next reads e =
      bool (ltb cell_found (capacity_of w))
      (λ t.
      let same : next ≡ cell_found + 1 = ap (λ (a : Answer). (get_or (next_in a) 1 (pair_of 0 0)).sequence) (e ∙ step-pair t) in
      (omega (arith, same, (first-is (is_reached w) (capacity_of w - n) n).from), omega (arith, same, ltb-true cell_found (capacity_of w) t)))
      (λ t. let none : 2 ≡ 0 = ap (λ (a : Answer). length (next_in a)) (e ∙ step-done t) in absurd (omega (arith, none)))

  -- with a pair first, and with none
  pub pairs-more : (k s v next reads : ℕ) → pair s v next reads ≡ iter_step w n → pairs_from (suc k) w n ≡ pair_of s v ∷ pairs_from k w next
  unfolding pairs_from
  pairs-more k s v next reads e = ap (λ (a : Answer). and_then a (pairs_from k w)) (sym e)

  pub pairs-none : (k : ℕ) → ((rest : ℕ → List Pair) → and_then (iter_step w n) rest ≡ []) → pairs_from k w n ≡ []
  unfolding pairs_from
  pairs-none zero h = refl
  pairs-none (suc k) h = h (pairs_from k w)

  pub pairs-out : (k : ℕ) → k ≡ 0 → pairs_from k w n ≡ []
  unfolding pairs_from
  pairs-out k e = rw e

-- ---- the pairs listed so far, and those that are left

-- in the list xs what f tells of each
abbrev Goes : (Pair → ℕ) → Window → List ℕ → ℕ → ℕ → Type 0
Goes f w xs cell count = take count xs ++ map f (pairs_from (capacity_of w - count) w cell) ≡ map f (live_pairs_of w)

goes-start : (f : Pair → ℕ) (w : Window) (xs : List ℕ) → Goes f w xs 0 0
goes-start f w xs = let e : capacity_of w - 0 ≡ capacity_of w = omega arith in rw e refl

goes_on : (f : Pair → ℕ) (w : Window) (xs : List ℕ) (cell count s v next reads : ℕ) → count < length xs → count < capacity_of w → pair s v next reads ≡ iter_step w cell
    → Goes f w xs cell count → Goes f w (set xs count (f (pair_of s v))) next (count + 1)
goes_on f w xs cell count s v next reads l h e g =
    let k : capacity_of w - count ≡ suc (capacity_of w - (count + 1)) = omega arith in
    let more : pairs_from (capacity_of w - count) w cell ≡ pair_of s v ∷ pairs_from (capacity_of w - (count + 1)) w next =
    ap (λ (j : ℕ). pairs_from j w cell) k ∙ pairs-more w cell (capacity_of w - (count + 1)) s v next reads e in
    let rest = map f (pairs_from (capacity_of w - (count + 1)) w next) in
    ap (λ (j : ℕ). take j (set xs count (f (pair_of s v))) ++ rest) (add-one count)
    ∙ ap (λ (ys : List ℕ). ys ++ rest) (take-suc-set xs count (f (pair_of s v)) l)
    ∙ append_snoc (take count xs) (f (pair_of s v)) rest
    ∙ ap (λ (ps : List Pair). take count xs ++ map f ps) (sym more) ∙ g

goes_end : (f : Pair → ℕ) (w : Window) (xs : List ℕ) (cell count : ℕ) → pairs_from (capacity_of w - count) w cell ≡ [] → Goes f w xs cell count
    → take count xs ≡ map f (live_pairs_of w)
goes_end f w xs cell count none g =
    sym (append-nil (take count xs)) ∙ ap (λ (ps : List Pair). take count xs ++ map f ps) (sym none) ∙ g

-- on a sound window: each listed pair took a cell of its own, so as many steps as cells are left suffice
pub record Part (w : Window) (ss vs : List ℕ) (cell count : ℕ) : Type 0 where
  pub behind : count ≤ cell
  pub sequences : Goes (λ (p : Pair). p.sequence) w ss cell count
  pub values : Goes (λ (p : Pair). p.value) w vs cell count

-- count pairs are listed, and iter goes on from cell
pub record SoFar (u : State) (ss₀ vs₀ ss vs : List ℕ) (cell count : ℕ) : Type 0 where
  pub sequences_long : length ss ≡ length ss₀
  pub values_long : length vs ≡ length vs₀
  pub sequences_fit : count ≤ length ss₀
  pub values_fit : count ≤ length vs₀
  pub sound : lengths_fit u ≡ true → SoundWithPoint (window_of u) → Part (window_of u) ss vs cell count

pub start : (u : State) (ss vs : List ℕ) → SoFar u ss vs ss vs 0 0
start u ss vs = record {
  sequences_long = refl;
  values_long = refl;
  sequences_fit = omega arith;
  values_fit = omega arith;
  sound = λ fit ok. record { behind = omega arith; sequences = goes-start _ (window_of u) ss; values = goes-start _ (window_of u) vs };
}

module _ (u : State) (ss₀ vs₀ ss vs : List ℕ) (cell count : ℕ) (g : SoFar u ss₀ vs₀ ss vs cell count) where
  part-more : (s v next reads : ℕ) → count < length ss → count < length vs → pair s v next reads ≡ iter_step (window_of u) cell → Part (window_of u) ss vs cell count
      → Part (window_of u) (set ss count s) (set vs count v) next (count + 1)
  part-more s v next reads a b e p =
      let n = next-bounds (window_of u) cell s v next reads e in
      let h : count < capacity_of (window_of u) = omega (arith, p.behind, n.0, n.1) in
      record {
        behind = omega (arith, p.behind, n.0);
        sequences = goes_on _ (window_of u) ss cell count s v next reads a h e p.sequences;
        values = goes_on _ (window_of u) vs cell count s v next reads b h e p.values;
      }

  pub turn : (s v next reads : ℕ) (r : Left) → count < length ss → count < length vs → Meets (ask (iter cell)) u [] r → r.answer ≡ pair s v next reads
      → SoFar u ss₀ vs₀ (set ss count s) (set vs count v) next (count + 1)
  turn s v next reads r a b m e = record {
    sequences_long = length-set ss count s ∙ g.sequences_long;
    values_long = length-set vs count v ∙ g.values_long;
    sequences_fit = omega (arith, g.sequences_long);
    values_fit = omega (arith, g.values_long);
    sound = λ fit ok. part-more s v next reads a b (sym e ∙ asked u cell r m fit ok) (g.sound fit ok);
  }

  -- ---- the ways out

  finish : (lengths_fit u ≡ true → SoundWithPoint (window_of u) → capacity_of (window_of u) ≤ length ss₀ → capacity_of (window_of u) ≤ length vs₀
      → pairs_from (capacity_of (window_of u) - count) (window_of u) cell ≡ []) → Lists u ss₀ vs₀ count ss vs
  finish none = record {
    sound = λ fit ok a b.
        let c = capacity-is u.header u.memory in
        let p = g.sound fit ok in
        let z = none fit ok (omega (arith, a, c)) (omega (arith, b, c)) in
        let s : take count ss ≡ sequences_of (live_pairs_of (window_of u)) = goes_end _ (window_of u) ss cell count z p.sequences in
        record {
          count = sym (length-take-le count ss (omega (arith, g.sequences_fit, g.sequences_long))) ∙ ap length s ∙ length-map (live_pairs_of (window_of u)) _;
          sequences = s;
          values = goes_end _ (window_of u) vs cell count z p.values;
        };
    sequences_fit = g.sequences_fit;
    values_fit = g.values_fit;
    sequences_long = g.sequences_long;
    values_long = g.values_long;
  }

  -- no place is left in one of the lists
  pub full : (r : ℕ) → r ≡ min (length ss₀) (length vs₀) → r ≡ count → Lists u ss₀ vs₀ r ss vs
  full r m e =
      subst (λ (n : ℕ). Lists u ss₀ vs₀ n ss vs) (sym e)
      (finish (λ fit ok a b. pairs-out (window_of u) cell (capacity_of (window_of u) - count) (omega (arith, a, b))))

  -- iter gives no pair
  pub no-pair : (r : Left) → Meets (ask (iter cell)) u [] r → ((rest : ℕ → List Pair) → and_then r.answer rest ≡ []) → Lists u ss₀ vs₀ count ss vs
  no-pair r m h =
      finish (λ fit ok a b. pairs-none (window_of u) cell (capacity_of (window_of u) - count)
      (λ rest. ap (λ (x : Answer). and_then x rest) (sym (asked u cell r m fit ok)) ∙ h rest))
