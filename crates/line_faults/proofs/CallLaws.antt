-- What is told of a line is so: of a line that is a call nothing is told but a larger window_size, or that there is no window yet. Its
-- fields are digits and parted by tabs, so that it has no carriage return, no space, and as many tabs as fields. Assumes nothing.
use mathlib.Core.Path.{◌≡◌, refl, sym, ap, ◌∙◌}
use mathlib.Core.Bool.{Bool, true, false, cond, ◌&&◌, true≢false}
use Rattle.std.specs.Prelude.{Option, None, Some}
use Rattle.std.proofs.lemmas.Option.{none-some, same_Some}
use mathlib.Core.List.{List, [], ◌∷◌}
use Prim.Native.Nat.{ℕ, suc, ◌+◌, ◌≤◌, ◌<◌}
use native.Mathlib.Omega.{arith}
use native.Mathlib.Decide.{ℕ_discrete}
use lib.Dec.{leb, eqb}
use lib.ListN.{length, take}
use borrow.Author.Tests.{eq-eqb, le-ltb, eqb-true, leb-true}
use Rattle.line_text.specs.Fields.{field_of, all_digits, is_plain, number}
use Rattle.line_text.specs.Lines.{Line, line, joined, parts, both, numbers, among, fields_of_letter, counted, line_of}
use Rattle.line_text.proofs.LineLaws.{rest_of, begins, no_line, fields_after, at-tab, at_other, prefixed-none}
use Rattle.line_text.proofs.PartLaws.{at-separator, at-another, parts-some}
use Rattle.line_faults.specs.Faults.{occurrences, letter_count_of, fault_of_parsed, fault_of_text, fault_of_line}
use Rattle.line_faults.proofs.FaultLaws.{hit, miss, neither}

-- a field has digits alone
digits-if : (s t u : Bool) (m n : ℕ) → cond (s && (t && u)) (Some m) None ≡ Some n → t ≡ true
digits-if s true u m n e = refl
digits-if true false u m n e = absurd (none-some n e)
digits-if false false u m n e = absurd (none-some n e)

field-digits : (p : List ℕ) (n : ℕ) → field_of p ≡ Some n → all_digits p ≡ true
unfolding field_of
field-digits p n e = digits-if (is_plain p) (all_digits p) (leb (number p) 4294967295) (number p) n e

both_true : (s t u : Bool) → (s && t) && u ≡ true → (s ≡ true) × (u ≡ true)
both_true true true u e = (refl, e)
both_true true false u e = absurd (true≢false (sym e))
both_true false t u e = absurd (true≢false (sym e))

no_digit : (c : ℕ) → c < 48 → (p : List ℕ) → all_digits p ≡ true → occurrences c p ≡ 0
unfolding all_digits occurrences
no_digit c h [] e = refl
no_digit c h (b ∷ p) e =
    let t = both_true (leb 48 b) (leb b 57) (all_digits p) e in
    let l : 48 ≤ b = leb-true 48 b t.0 in
    miss c b p (λ q. absurd (omega arith)) ∙ no_digit c h p t.1

-- how often a byte stands in parts
unfoldable total : ℕ → List (List ℕ) → ℕ
total c [] = 0
total c (p ∷ ps) = occurrences c p + total c ps

joined-total : (c b : ℕ) (bs : List ℕ) (ps : List (List ℕ)) → 0 < length ps → occurrences c bs ≡ total c ps → occurrences c (b ∷ bs) ≡ total c (joined b ps)
unfolding total
joined-total c b bs [] l e = absurd (omega arith)
joined-total c b bs (p ∷ ps) l e =
    elim (ℕ_discrete b c) [ yes q ↦ omega (arith, e, hit c b bs q, hit c b p q) | no q ↦ omega (arith, e, miss c b bs q, miss c b p q) ]

parts-total : (c : ℕ) → (c ≡ 9 → ⊥) → (bs : List ℕ) → occurrences c bs ≡ total c (parts 9 bs)
unfolding parts total occurrences
parts-total c n [] = refl
parts-total c n (b ∷ bs) =
    elim (ℕ_discrete b 9) [
      | yes e ↦ rw (at-separator 9 b bs e) (omega (arith, miss c b bs (λ q. n (sym q ∙ e)), parts-total c n bs))
      | no e ↦ rw (at-another 9 b bs e) (joined-total c b bs (parts 9 bs) (parts-some 9 bs) (parts-total c n bs))
    ]

joined_length : (b : ℕ) (ps : List (List ℕ)) → 0 < length ps → length (joined b ps) ≡ length ps
joined_length b [] l = absurd (omega arith)
joined_length b (p ∷ ps) l = refl

-- a part more than tabs
parts-tabs : (bs : List ℕ) → suc (occurrences 9 bs) ≡ length (parts 9 bs)
unfolding parts occurrences
parts-tabs [] = refl
parts-tabs (b ∷ bs) =
    elim (ℕ_discrete b 9) [
      | yes e ↦ rw (at-separator 9 b bs e) (omega (arith, hit 9 b bs e, parts-tabs bs))
      | no e ↦ rw (at-another 9 b bs e) (omega (arith, miss 9 b bs e, parts-tabs bs, joined_length b (parts 9 bs) (parts-some 9 bs)))
    ]

-- a number for each part, and no byte below the digits
abbrev Numbered : ℕ → List (List ℕ) → List ℕ → Type 0
Numbered c ps ns = (length ns ≡ length ps) × (total c ps ≡ 0)

one_more : (c : ℕ) → c < 48 → (p : List ℕ) (ps : List (List ℕ)) (x : Option ℕ) (y : Option (List ℕ)) (ns : List ℕ) → field_of p ≡ x
    → ((ms : List ℕ) → y ≡ Some ms → Numbered c ps ms) → both x y ≡ Some ns → Numbered c (p ∷ ps) ns
unfolding total
one_more c h p ps None y ns f g e = absurd (none-some ns e)
one_more c h p ps (Some n) None ns f g e = absurd (none-some ns e)
one_more c h p ps (Some n) (Some ms) ns f g e =
    let t = g ms refl in
    (sym (ap length (same_Some (n ∷ ms) ns e)) ∙ ap suc t.0, omega (arith, t.1, no_digit c h p (field-digits p n f)))

numbered : (c : ℕ) → c < 48 → (ps : List (List ℕ)) (ns : List ℕ) → numbers ps ≡ Some ns → Numbered c ps ns
unfolding numbers total
numbered c h [] ns e = (sym (ap length (same_Some [] ns e)), refl)
numbered c h (p ∷ ps) ns e = one_more c h p ps (field_of p) (numbers ps) ns refl (numbered c h ps) e

-- a call: what its bytes have
pub record Clean (bs : List ℕ) (k : ℕ) : Type 0 where
  pub no_return : occurrences 13 bs ≤ 0
  pub no-space : occurrences 32 bs ≤ 0
  pub letter : letter_count_of bs ≡ Some k
  pub tabs : occurrences 9 bs ≡ k

-- a letter is no such byte
apart : (c x k : ℕ) → fields_of_letter c ≡ None → fields_of_letter x ≡ Some k → x ≡ c → ⊥
apart c x k n e q = none-some k (sym n ∙ ap fields_of_letter (sym q) ∙ e)

module _ (x k : ℕ) (e : fields_of_letter x ≡ Some k) where
  not-tab : x ≡ 9 → ⊥
  unfolding fields_of_letter among
  not-tab = apart 9 x k refl e

  not-return : x ≡ 13 → ⊥
  unfolding fields_of_letter among
  not-return = apart 13 x k refl e

  not-space : x ≡ 32 → ⊥
  unfolding fields_of_letter among
  not-space = apart 32 x k refl e

  alone : (ns : List ℕ) → Some [] ≡ Some ns → length ns ≡ k → Clean (x ∷ []) k
  unfolding letter_count_of occurrences
  alone ns f l =
      let z : 0 ≡ length ns = ap length (same_Some [] ns f) in
      record {
        no_return = omega (arith, miss 13 x [] not-return);
        no-space = omega (arith, miss 32 x [] not-space);
        letter = e;
        tabs = omega (arith, miss 9 x [] not-tab);
      }

  before-tab : (b : ℕ) (bs ns : List ℕ) → b ≡ 9 → numbers (parts 9 bs) ≡ Some ns → length ns ≡ k → Clean (x ∷ b ∷ bs) k
  unfolding letter_count_of
  before-tab b bs ns q f l =
      let r = numbered 13 (omega arith) (parts 9 bs) ns f in
      let s = numbered 32 (omega arith) (parts 9 bs) ns f in
      record {
        no_return = omega (arith, r.1, parts-total 13 (λ h. absurd (omega arith)) bs, miss 13 x (b ∷ bs) not-return, miss 13 b bs (λ h. absurd (omega arith)));
        no-space = omega (arith, s.1, parts-total 32 (λ h. absurd (omega arith)) bs, miss 32 x (b ∷ bs) not-space, miss 32 b bs (λ h. absurd (omega arith)));
        letter = rw (eq-eqb b 9 q) e;
        tabs = omega (arith, r.0, parts-tabs bs, miss 9 x (b ∷ bs) not-tab, hit 9 b bs q);
      }

  clean : (bs ns : List ℕ) → fields_after bs ≡ Some ns → length ns ≡ k → Clean (x ∷ bs) k
  unfolding fields_after
  clean [] ns f l = alone ns f l
  clean (b ∷ bs) ns f l =
      elim (ℕ_discrete b 9) [
        | yes q ↦ before-tab b bs ns q (sym (at-tab b bs q) ∙ f) l
        | no q ↦ absurd (none-some ns (sym (at_other b bs q) ∙ f))
      ]

-- such bytes have the fault of a call
clean-fault : (bs : List ℕ) (k : ℕ) → Clean bs k → fault_of_text bs ≡ fault_of_parsed (line_of bs)
clean-fault bs k c = sym (neither bs c.no_return c.no-space) ∙ rw (c.letter, eq-eqb (occurrences 9 bs) k c.tabs) refl

-- the letter, its count and the numbers of a call
if-counted : (x k : ℕ) (bs ns : List ℕ) (t : Bool) (l : Line) → fields_of_letter x ≡ Some k → fields_after bs ≡ Some ns → eqb (length ns) k ≡ t
    → cond t (Some (line x ns)) None ≡ Some l → Clean (x ∷ bs) k
if-counted x k bs ns true l e f q h = clean x k e bs ns f (eqb-true (length ns) k q)
if-counted x k bs ns false l e f q h = absurd (none-some l h)

of-counted : (x : ℕ) (bs : List ℕ) (o : Option ℕ) (y : Option (List ℕ)) (l : Line) → fields_of_letter x ≡ o → fields_after bs ≡ y → counted x o y ≡ Some l
    → fault_of_text (x ∷ bs) ≡ fault_of_parsed (line_of (x ∷ bs))
of-counted x bs None y l e f h = absurd (none-some l h)
of-counted x bs (Some k) None l e f h = absurd (none-some l h)
of-counted x bs (Some k) (Some ns) l e f h = clean-fault (x ∷ bs) k (if-counted x k bs ns (eqb (length ns) k) l e f refl h)

of-call : (bs : List ℕ) (l : Line) → line_of bs ≡ Some l → fault_of_text bs ≡ fault_of_parsed (line_of bs)
unfolding rest_of
of-call [] l e = absurd (none-some l (no_line [] refl ∙ e))
of-call (x ∷ bs) l e =
    of-counted x bs (fields_of_letter x) (fields_after bs) l refl refl
    (ap (counted x (fields_of_letter x)) (sym (prefixed-none (fields_after bs))) ∙ begins (x ∷ bs) (omega arith) ∙ e)

-- of a call nothing else is told
pub told-of-call : (bs : List ℕ) (n : ℕ) (l : Line) → n ≤ length bs → line_of (take n bs) ≡ Some l → fault_of_line bs n ≡ fault_of_parsed (Some l)
unfolding fault_of_line
told-of-call bs n l h e = rw (le-ltb (length bs) n h) (of-call (take n bs) l e ∙ ap fault_of_parsed e)
