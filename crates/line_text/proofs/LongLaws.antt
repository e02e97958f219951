-- A long line is no call: a letter takes at most three fields, a field has at most ten digits, so a call's line has at most 34 bytes.
-- Assumes nothing.
use mathlib.Core.Path.{◌≡◌, refl, sym, ap, subst, ◌∙◌}
use Rattle.std.specs.Prelude.{Option, None, Some}
use mathlib.Core.List.{List, [], ◌∷◌}
use Prim.Native.Nat.{ℕ, zero, suc, ◌+◌, ◌*◌, ◌-◌, ◌^◌, ◌≤◌, ◌<◌}
use native.Mathlib.Nat.{pow-suc, mul_assoc, mul_comm}
use native.Mathlib.Omega.{arith}
use native.Mathlib.Decide.{ℕ_discrete, dec_le}
use lib.ListN.{length}
use Rattle.line_text.specs.Fields.{number_from, field_of}
use Rattle.line_text.specs.Lines.{joined, parts, both, numbers, fields_of_letter, counted, of_parts, line_of}
use Rattle.line_text.proofs.FieldLaws.{rest_of, grows, starts, zero-leads, low_byte, too_large}
use Rattle.line_text.proofs.PartLaws.{no_bytes, at-separator, at-another, parts-some}
use Rattle.line_text.proofs.LineLaws.{few, counted-other}

-- ---- a field of more than ten bytes
-- k more digits write at least 10 ^ k times as much
more-digits : (k m n : ℕ) (bs : List ℕ) → m ≤ n → k ≤ length bs → m * 10 ^ k ≤ number_from n bs
unfolding number_from
more-digits zero m n bs h l = omega (arith, grows n bs)
more-digits (suc k) m n [] h l = absurd (omega arith)
more-digits (suc k) m n (b ∷ bs) h l =
    let e : m * 10 ^ suc k ≡ m * 10 * 10 ^ k = ap (λ (x : ℕ). m * x) (pow-suc 10 k ∙ mul_comm (10 ^ k) 10) ∙ sym (mul_assoc m 10 (10 ^ k)) in
    omega (arith, e, more-digits k (m * 10) (n * 10 + (b - 48)) bs (omega arith) (omega arith))

large : (b : ℕ) (bs : List ℕ) → 48 < b → 10 ≤ length bs → 4294967295 < number_from 0 (b ∷ bs)
unfolding number_from
large b bs h l = omega (arith, more-digits 10 1 (0 * 10 + (b - 48)) bs (omega arith) l)

long_rest : (b : ℕ) (bs : List ℕ) → (b ≡ 48 → ⊥) → 10 ≤ length bs → rest_of 0 (b ∷ bs) ≡ None
long_rest b bs n l =
    elim (dec_le 48 b) [
      | yes h ↦ too_large 0 (b ∷ bs) (large b bs (omega (arith, h, n)) l)
      | no h ↦ low_byte 0 b bs (omega (arith, h))
    ]

long-field : (bs : List ℕ) → 10 < length bs → field_of bs ≡ None
long-field [] l = absurd (omega arith)
long-field (b ∷ bs) l =
    elim (ℕ_discrete b 48) [
      | yes e ↦ sym (zero-leads (b ∷ bs) e (λ q. omega (arith, q)))
      | no n ↦ sym (starts (b ∷ bs) (λ q. omega (arith, q)) n) ∙ long_rest b bs n (omega arith)
    ]

-- ---- the bytes of parts, each with one that ends it
abbrev size : List (List ℕ) → ℕ
size [] = 0
size (p ∷ ps) = length p + 1 + size ps

joined-size : (b : ℕ) (ps : List (List ℕ)) → 0 < length ps → size (joined b ps) ≡ size ps + 1
joined-size b [] l = absurd (omega arith)
joined-size b (p ∷ ps) l = omega arith

parts-size : (sep : ℕ) (bs : List ℕ) → size (parts sep bs) ≡ length bs + 1
parts-size sep [] = ap size (no_bytes sep)
parts-size sep (b ∷ bs) =
    elim (ℕ_discrete b sep) [
      | yes e ↦ rw (at-separator sep b bs e) (omega (arith, parts-size sep bs))
      | no e ↦ rw (at-another sep b bs e) (omega (arith, joined-size b (parts sep bs) (parts-some sep bs), parts-size sep bs))
    ]

-- ---- fields that write numbers have at most ten bytes each
abbrev FieldFits : Option ℕ → ℕ → Type 0
FieldFits None k = Unit {0}
FieldFits (Some n) k = k ≤ 10

abbrev Fits : Option (List ℕ) → ℕ → Type 0
Fits None k = Unit {0}
Fits (Some ns) k = k ≤ 11 * length ns

short-fits : (x : Option ℕ) (k : ℕ) → k ≤ 10 → FieldFits x k
short-fits None k l = tt
short-fits (Some n) k l = l

field_fits : (p : List ℕ) → FieldFits (field_of p) (length p)
field_fits p =
    elim (dec_le (length p) 10) [
      | yes h ↦ short-fits (field_of p) (length p) h
      | no h ↦ subst (λ (x : Option ℕ). FieldFits x (length p)) (sym (long-field p (omega (arith, h)))) tt
    ]

both-fit : (x : Option ℕ) (y : Option (List ℕ)) (j k : ℕ) → FieldFits x j → Fits y k → Fits (both x y) (j + 1 + k)
both-fit None y j k f g = tt
both-fit (Some n) None j k f g = tt
both-fit (Some n) (Some ns) j k f g = omega arith

numbers_fit : (ps : List (List ℕ)) → Fits (numbers ps) (size ps)
unfolding numbers
numbers_fit [] = omega arith
numbers_fit (p ∷ ps) = both-fit (field_of p) (numbers ps) (length p) (size ps) (field_fits p) (numbers_fit ps)

-- ---- a letter takes at most three
too_many : (b : ℕ) (o : Option ℕ) (y : Option (List ℕ)) (k : ℕ) → ((j : ℕ) → o ≡ Some j → j ≤ 3) → Fits y k → 33 < k → counted b o y ≡ None
too_many b None y k h f l = refl
too_many b (Some j) None k h f l = refl
too_many b (Some j) (Some ns) k h f l = counted-other b (Some j) ns (λ e. omega (arith, e, h j refl))

long-fields : (b : ℕ) (ps : List (List ℕ)) → 33 < size ps → counted b (fields_of_letter b) (numbers ps) ≡ None
long-fields b ps l = too_many b (fields_of_letter b) (numbers ps) (size ps) (few b) (numbers_fit ps) l

long-parts : (ps : List (List ℕ)) → 35 < size ps → of_parts ps ≡ None
long-parts [] l = refl
long-parts ([] ∷ ps) l = refl
long-parts ((b ∷ []) ∷ ps) l = long-fields b ps (omega arith)
long-parts ((b ∷ c ∷ bs) ∷ ps) l = refl

above-34 : (bs : List ℕ) → 34 < length bs → line_of bs ≡ None
unfolding line_of
above-34 bs l = long-parts (parts 9 bs) (omega (arith, parts-size 9 bs))

pub long-line : (bs : List ℕ) → 64 < length bs → line_of bs ≡ None
long-line bs l = above-34 bs (omega arith)
