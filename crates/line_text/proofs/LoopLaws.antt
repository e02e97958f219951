-- The loop over a line's fields: what is known after i fields, and what each way out gives. Assumes nothing.
use mathlib.Core.Path.{◌≡◌, refl, sym, ap, ◌∙◌}
use Rattle.std.specs.Prelude.{Option, None, Some, unwrap_or}
use mathlib.Core.List.{List, [], ◌∷◌}
use Prim.Native.Nat.{ℕ, ◌+◌, ◌-◌, ◌≤◌, ◌<◌}
use native.Mathlib.Numerals.{add-one}
use native.Mathlib.Omega.{arith}
use lib.ListN.{length, get_or, set, take, drop, length-set}
use lib.Seq.{take-suc-set, length-take-le}
use Rattle.line_text.specs.Fields.{field_of}
use Rattle.line_text.specs.Lines.{line, fields_of_letter, line_of}
use Rattle.line_text.specs.Promises.{field_count_of, NextByte}
use Rattle.line_text.proofs.LineLaws.{rest_of, begins, no_line, few, no-letter, ended, no-tab, too_long, whole, bad-field, read-field}

-- i fields of the line are read, up to a, and wrote the first i of ns
pub record SoFar (bs : List ℕ) (b count : ℕ) (ns : List ℕ) (a i : ℕ) : Type 0 where
  pub long : length ns ≡ 3
  pub in-line : a ≤ length bs
  pub in_count : i ≤ count
  pub few : count ≤ 3
  pub takes : count ≡ field_count_of b
  pub rest : rest_of b (take i ns) (drop a bs) ≡ line_of bs

pub start : (bs : List ℕ) (count : ℕ) (ns : List ℕ) → 0 < length bs → Some count ≡ fields_of_letter (get_or bs 0 0) → length ns ≡ 3
    → SoFar bs (get_or bs 0 0) count ns 1 0
start bs count ns l t n = record {
  long = n;
  in-line = omega arith;
  in_count = omega arith;
  few = few (get_or bs 0 0) count (sym t);
  takes = ap (λ (o : Option ℕ). unwrap_or o 4) t;
  rest = begins bs l;
}

pub other-letter : (bs : List ℕ) → 0 < length bs → None ≡ fields_of_letter (get_or bs 0 0) → None ≡ line_of bs
other-letter bs l t = sym (no-letter (get_or bs 0 0) [] (drop 1 bs) (sym t)) ∙ begins bs l

three : (ns : List ℕ) → length ns ≡ 3 → get_or ns 0 0 ∷ get_or ns 1 0 ∷ get_or ns 2 0 ∷ [] ≡ ns
three [] e = absurd (omega arith)
three (x ∷ []) e = absurd (omega arith)
three (x ∷ y ∷ []) e = absurd (omega arith)
three (x ∷ y ∷ z ∷ []) e = refl
three (x ∷ y ∷ z ∷ w ∷ ws) e = absurd (omega arith)

module _ (bs : List ℕ) (b count : ℕ) (ns : List ℕ) (a i : ℕ) (s : SoFar bs b count ns a i) where
  read : length (take i ns) ≡ i
  read = length-take-le i ns (omega (arith, s.long, s.in_count, s.few))

  pub too_few : i < count → length bs ≤ a → None ≡ line_of bs
  too_few l g = sym (ended b (take i ns) bs a g (omega (arith, read, s.takes))) ∙ s.rest

  pub another : a < length bs → (get_or bs a 0 ≡ 9 → ⊥) → None ≡ line_of bs
  another l h = sym (no-tab b (take i ns) bs a l h) ∙ s.rest

  pub too_many : count ≤ i → a < length bs → None ≡ line_of bs
  too_many g l = sym (too_long b (take i ns) bs a l (omega (arith, read, s.takes, s.in_count))) ∙ s.rest

  pub not-field : (e : ℕ) → a < length bs → get_or bs a 0 ≡ 9 → NextByte bs (a + 1) 9 e
      → None ≡ field_of (take (e - (a + 1)) (drop (a + 1) bs)) → None ≡ line_of bs
  not-field e l t n f = sym (bad-field bs a e l t n b (take i ns) f) ∙ s.rest

  pub turn : (e v : ℕ) → i < count → a < length bs → get_or bs a 0 ≡ 9 → NextByte bs (a + 1) 9 e
      → Some v ≡ field_of (take (e - (a + 1)) (drop (a + 1) bs)) → SoFar bs b count (set ns i v) e (i + 1)
  turn e v h l t n f = record {
    long = length-set ns i v ∙ s.long;
    in-line = n.le_length;
    in_count = omega arith;
    few = s.few;
    takes = s.takes;
    rest = rw (add-one i, take-suc-set ns i v (omega (arith, s.long, s.few))) (read-field bs a e l t n b (take i ns) v f ∙ s.rest);
  }

  pub says : count ≤ i → length bs ≤ a
      → Some (line b (take (field_count_of b) (get_or ns 0 0 ∷ get_or ns 1 0 ∷ get_or ns 2 0 ∷ []))) ≡ line_of bs
  says g l =
      let k : i ≡ field_count_of b = omega (arith, s.takes, s.in_count) in
      rw (three ns s.long, ← k)
      (sym (whole b (take i ns) bs a l (omega (arith, s.takes, s.few)) (read ∙ k)) ∙ s.rest)

-- what the tactics know of a line read
pub ruleset reading = (no_line, other-letter, start, too_few, another, too_many, not-field, turn, says)
