-- A line: what it says, from its letter on, field by field. Assumes nothing.
use mathlib.Core.Path.{◌≡◌, refl, sym, ap, ◌∙◌}
use mathlib.Core.Bool.{Bool, true, false, cond}
use Rattle.std.specs.Prelude.{Option, None, Some, unwrap_or}
use mathlib.Core.List.{List, [], ◌∷◌, ◌++◌, append_assoc, append-nil}
use Prim.Native.Nat.{ℕ, zero, suc, ◌+◌, ◌-◌, ◌≤◌, ◌<◌}
use native.Mathlib.Nat.{add-zero}
use native.Mathlib.Numerals.{add-one}
use native.Mathlib.Omega.{arith}
use native.Mathlib.Decide.{ℕ_discrete}
use lib.Dec.{eqb}
use lib.ListN.{length, get_or, take, drop, length-append, length-drop}
use lib.Seq.{drop-cons, drop-drop, get_or-drop}
use borrow.Author.Tests.{eq-eqb, ne_eqb}
use Rattle.line_text.specs.Fields.{field_of}
use Rattle.line_text.specs.Lines.{Line, line, joined, parts, both, numbers, among, fields_of_letter, counted, of_parts, line_of}
use Rattle.line_text.specs.Promises.{field_count_of, NextByte}
use Rattle.line_text.proofs.PartLaws.{after, first_part, at-separator, at-another, parts-some}

-- the numbers of the fields after a part that ends where the bytes begin; none if they do not begin with a tab
unfoldable pub fields_after : List ℕ → Option (List ℕ)
fields_after [] = Some []
fields_after (b ∷ bs) = elim (eqb b 9) [ true ↦ numbers (parts 9 bs) | false ↦ None ]

pub at-tab : (b : ℕ) (bs : List ℕ) → b ≡ 9 → fields_after (b ∷ bs) ≡ numbers (parts 9 bs)
unfolding fields_after
at-tab b bs e = rw (fields_after, eq-eqb b 9 e) refl

pub at_other : (b : ℕ) (bs : List ℕ) → (b ≡ 9 → ⊥) → fields_after (b ∷ bs) ≡ None
unfolding fields_after
at_other b bs e = rw (fields_after, ne_eqb b 9 e) refl

fields-after : (bs : List ℕ) → (0 < length bs → get_or bs 0 0 ≡ 9) → numbers (after 9 bs) ≡ fields_after bs
unfolding fields_after numbers
fields-after [] f = refl
fields-after (b ∷ bs) f = sym (at-tab b bs (f (omega arith)))

-- with the first field apart
first_field : (bs : List ℕ) (k : ℕ) → k ≤ length bs → ((j : ℕ) → j < k → get_or bs j 0 ≡ 9 → ⊥) → (k < length bs → get_or bs k 0 ≡ 9)
    → numbers (parts 9 bs) ≡ both (field_of (take k bs)) (numbers (after 9 (drop k bs)))
unfolding numbers
first_field bs k l n f = ap numbers (first_part 9 bs k l n f)

-- the numbers ns, then those
abbrev pub prefixed : List ℕ → Option (List ℕ) → Option (List ℕ)
prefixed ns None = None
prefixed ns (Some ms) = Some (ns ++ ms)

pub prefixed-none : (x : Option (List ℕ)) → prefixed [] x ≡ x
prefixed-none None = refl
prefixed-none (Some ms) = refl

prefixed-more : (ns : List ℕ) (n : ℕ) (x : Option (List ℕ)) → prefixed (ns ++ (n ∷ [])) x ≡ prefixed ns (both (Some n) x)
prefixed-more ns n None = refl
prefixed-more ns n (Some ms) = ap Some (append_assoc ns (n ∷ []) ms)

-- the answer of a line with letter b whose fields so far wrote ns, and whose rest is bs
unfoldable pub rest_of : ℕ → List ℕ → List ℕ → Option Line
rest_of b ns bs = counted b (fields_of_letter b) (prefixed ns (fields_after bs))

-- as many numbers as the letter takes, or not
counted_none : (b : ℕ) (o : Option ℕ) → counted b o None ≡ None
counted_none b None = refl
counted_none b (Some k) = refl

pub counted-other : (b : ℕ) (o : Option ℕ) (ns : List ℕ) → (length ns ≡ unwrap_or o 4 → ⊥) → counted b o (Some ns) ≡ None
counted-other b None ns e = refl
counted-other b (Some k) ns e = rw (ne_eqb (length ns) k e) refl

counted_same : (b : ℕ) (o : Option ℕ) (ns : List ℕ) → unwrap_or o 4 ≤ 3 → length ns ≡ unwrap_or o 4 → counted b o (Some ns) ≡ Some (line b ns)
counted_same b None ns l e = absurd (omega arith)
counted_same b (Some k) ns l e = rw (eq-eqb (length ns) k e) refl

counted-more : (b : ℕ) (o : Option ℕ) (ns : List ℕ) (x : Option ℕ) (y : Option (List ℕ)) → length ns ≡ unwrap_or o 4
    → counted b o (prefixed ns (both x y)) ≡ None
counted-more b o ns None y e = counted_none b o
counted-more b o ns (Some n) None e = counted_none b o
counted-more b o ns (Some n) (Some ms) e = counted-other b o (ns ++ n ∷ ms) (λ q. omega (arith, length-append ns (n ∷ ms)))

-- no letter takes more than three fields
abbrev choice : Bool → Bool → Bool → Bool → Option ℕ
choice s t u v = cond s (Some 3) (cond t (Some 2) (cond u (Some 1) (cond v (Some 0) None)))

few_of_four : (s t u v : Bool) (k : ℕ) → choice s t u v ≡ Some k → k ≤ 3
few_of_four true t u v k e = grind arith
few_of_four false true u v k e = grind arith
few_of_four false false true v k e = grind arith
few_of_four false false false true k e = grind arith
few_of_four false false false false k e = grind arith

pub few : (b k : ℕ) → fields_of_letter b ≡ Some k → k ≤ 3
unfolding fields_of_letter
few b k e =
    few_of_four (among b (110 ∷ [])) (among b (105 ∷ 101 ∷ 100 ∷ 113 ∷ []))
    (among b (103 ∷ 114 ∷ 115 ∷ 102 ∷ 98 ∷ 118 ∷ 97 ∷ [])) (among b (99 ∷ 108 ∷ 116 ∷ [])) k e

-- the letter: what is after it decides
joined-long : (b c : ℕ) (ps : List (List ℕ)) → of_parts (joined b (joined c ps)) ≡ None
joined-long b c [] = refl
joined-long b c (p ∷ ps) = refl

tab-first : (b : ℕ) (bs : List ℕ) → b ≡ 9 → rest_of b [] bs ≡ line_of (b ∷ bs)
unfolding rest_of line_of fields_of_letter among
tab-first b bs e = rw (at-separator 9 b bs e, e) refl

letter-only : (b : ℕ) → (b ≡ 9 → ⊥) → rest_of b [] [] ≡ line_of (b ∷ [])
unfolding rest_of line_of fields_after numbers parts
letter-only b e = rw (parts, ne_eqb b 9 e) refl

letter-first : (b : ℕ) (bs : List ℕ) → (b ≡ 9 → ⊥) → rest_of b [] bs ≡ line_of (b ∷ bs)
unfolding rest_of line_of
letter-first b [] e = letter-only b e
letter-first b (c ∷ bs) e =
    elim (ℕ_discrete c 9) [
      | yes q ↦ rw (at-another 9 b (c ∷ bs) e, at-separator 9 c bs q, at-tab c bs q) (ap (counted b (fields_of_letter b)) (prefixed-none (numbers (parts 9 bs))))
      | no q ↦ rw (at-another 9 b (c ∷ bs) e, at-another 9 c bs q, at_other c bs q) (counted_none b (fields_of_letter b) ∙ sym (joined-long b c (parts 9 bs)))
    ]

pub begins : (bs : List ℕ) → 0 < length bs → rest_of (get_or bs 0 0) [] (drop 1 bs) ≡ line_of bs
begins [] l = absurd (omega arith)
begins (b ∷ bs) l = elim (ℕ_discrete b 9) [ yes e ↦ tab-first b bs e | no e ↦ letter-first b bs e ]

pub no_line : (bs : List ℕ) → length bs ≡ 0 → None ≡ line_of bs
unfolding line_of parts
no_line [] e = refl
no_line (b ∷ bs) e = absurd (omega arith)

pub no-letter : (b : ℕ) (ns bs : List ℕ) → fields_of_letter b ≡ None → rest_of b ns bs ≡ None
unfolding rest_of
no-letter b ns bs l = rw l refl

drop_all : (a : ℕ) (bs : List ℕ) → length bs ≤ a → drop a bs ≡ []
drop_all zero [] l = refl
drop_all zero (b ∷ bs) l = absurd (omega arith)
drop_all (suc a) [] l = refl
drop_all (suc a) (b ∷ bs) l = drop_all a bs (omega arith)

-- a field too many
some-part : (b : ℕ) (ns : List ℕ) (ps : List (List ℕ)) → 0 < length ps → length ns ≡ field_count_of b
    → counted b (fields_of_letter b) (prefixed ns (numbers ps)) ≡ None
unfolding numbers
some-part b ns [] l h = absurd (omega arith)
some-part b ns (p ∷ ps) l h = counted-more b (fields_of_letter b) ns (field_of p) (numbers ps) h

more-fields : (b : ℕ) (ns bs : List ℕ) → length ns ≡ field_count_of b → counted b (fields_of_letter b) (prefixed ns (numbers (parts 9 bs))) ≡ None
more-fields b ns bs h = some-part b ns (parts 9 bs) (parts-some 9 bs) h

-- what the rest says, by how it begins
module _ (b : ℕ) (ns bs : List ℕ) (a : ℕ) where
  pub ended : length bs ≤ a → length ns < field_count_of b → rest_of b ns (drop a bs) ≡ None
  unfolding rest_of fields_after
  ended l h = rw (drop_all a bs l, append-nil ns) (counted-other b (fields_of_letter b) ns (λ e. omega arith))

  pub no-tab : a < length bs → (get_or bs a 0 ≡ 9 → ⊥) → rest_of b ns (drop a bs) ≡ None
  unfolding rest_of
  no-tab l h = rw (drop-cons bs a 0 l, at_other (get_or bs a 0) (drop (suc a) bs) h) (counted_none b (fields_of_letter b))

  pub too_long : a < length bs → length ns ≡ field_count_of b → rest_of b ns (drop a bs) ≡ None
  unfolding rest_of
  too_long l h =
      elim (ℕ_discrete (get_or bs a 0) 9) [
        | yes e ↦ rw (drop-cons bs a 0 l, at-tab (get_or bs a 0) (drop (suc a) bs) e) (more-fields b ns (drop (suc a) bs) h)
        | no e ↦ no-tab l e
      ]

  pub whole : length bs ≤ a → field_count_of b ≤ 3 → length ns ≡ field_count_of b → rest_of b ns (drop a bs) ≡ Some (line b ns)
  unfolding rest_of fields_after
  whole l f h = rw (drop_all a bs l, append-nil ns) (counted_same b (fields_of_letter b) ns f h)

-- a field from the tab at a to e
module _ (bs : List ℕ) (a e : ℕ) (l : a < length bs) (t : get_or bs a 0 ≡ 9) (n : NextByte bs (a + 1) 9 e) where
  next_field : fields_after (drop a bs) ≡ both (field_of (take (e - (a + 1)) (drop (a + 1) bs))) (fields_after (drop e bs))
  next_field =
      let k : a + 1 + (e - (a + 1)) ≡ e = omega (arith, n.from_le) in
      let d : drop (e - (a + 1)) (drop (a + 1) bs) ≡ drop e bs = drop-drop (e - (a + 1)) (a + 1) bs ∙ ap (λ (m : ℕ). drop m bs) k in
      ap fields_after (drop-cons bs a 0 l) ∙ at-tab (get_or bs a 0) (drop (suc a) bs) t
      ∙ ap (λ (m : ℕ). numbers (parts 9 (drop m bs))) (sym (add-one a))
      ∙ first_field (drop (a + 1) bs) (e - (a + 1))
      (rw (length-drop (a + 1) bs) (omega (arith, n.le_length)))
      (λ j h. rw (get_or-drop (a + 1) bs j 0) (n.before (a + 1 + j) (omega arith) (omega arith)))
      (λ h. rw (get_or-drop (a + 1) bs (e - (a + 1)) 0, k) (n.found (omega (arith, length-drop (a + 1) bs))))
      ∙ ap (λ (r : List ℕ). both (field_of (take (e - (a + 1)) (drop (a + 1) bs))) (numbers (after 9 r))) d
      ∙ ap (both (field_of (take (e - (a + 1)) (drop (a + 1) bs))))
      (fields-after (drop e bs) (λ h. rw (get_or-drop e bs 0 0, add-zero e) (n.found (omega (arith, length-drop e bs)))))

  pub bad-field : (b : ℕ) (ns : List ℕ) → None ≡ field_of (take (e - (a + 1)) (drop (a + 1) bs)) → rest_of b ns (drop a bs) ≡ None
  unfolding rest_of
  bad-field b ns f = rw (next_field, ← f) (counted_none b (fields_of_letter b))

  pub read-field : (b : ℕ) (ns : List ℕ) (v : ℕ) → Some v ≡ field_of (take (e - (a + 1)) (drop (a + 1) bs))
      → rest_of b (ns ++ (v ∷ [])) (drop e bs) ≡ rest_of b ns (drop a bs)
  unfolding rest_of
  read-field b ns v f = rw (next_field, ← f) (ap (counted b (fields_of_letter b)) (prefixed-more ns v (fields_after (drop e bs))))
