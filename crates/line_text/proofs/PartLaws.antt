-- Bytes parted by a byte: where the first part ends, bytes that are one part, and parts of bytes that come one after the other.
-- Assumes nothing.
use mathlib.Core.Path.{◌≡◌, refl, sym, ap, ◌∙◌}
use mathlib.Core.List.{List, [], ◌∷◌, ◌++◌, append-nil}
use Prim.Native.Nat.{ℕ, zero, suc, ◌-◌, ◌+◌, ◌≤◌, ◌<◌}
use native.Mathlib.Omega.{arith}
use native.Mathlib.Decide.{ℕ_discrete}
use lib.ListN.{length, get_or, take, drop, length-drop}
use lib.Seq.{take-length, drop-length, length-take-le, get_or-take, get_or-drop}
use borrow.Author.Tests.{eq-eqb, ne_eqb}
use Rattle.line_text.specs.Lines.{joined, parts, ended, waiting}
use Rattle.line_text.specs.Promises.{NextByte}

pub no_bytes : (sep : ℕ) → parts sep [] ≡ [] ∷ []
unfolding parts
no_bytes sep = refl

pub at-separator : (sep b : ℕ) (bs : List ℕ) → b ≡ sep → parts sep (b ∷ bs) ≡ [] ∷ parts sep bs
unfolding parts
at-separator sep b bs e = rw (parts, eq-eqb b sep e) refl

pub at-another : (sep b : ℕ) (bs : List ℕ) → (b ≡ sep → ⊥) → parts sep (b ∷ bs) ≡ joined b (parts sep bs)
unfolding parts
at-another sep b bs e = rw (parts, ne_eqb b sep e) refl

-- bytes have one part at least
joined-some : (b : ℕ) (ps : List (List ℕ)) → 0 < length (joined b ps)
joined-some b [] = omega arith
joined-some b (p ∷ ps) = omega arith

pub parts-some : (sep : ℕ) (bs : List ℕ) → 0 < length (parts sep bs)
parts-some sep [] = rw (no_bytes sep) (omega arith)
parts-some sep (b ∷ bs) =
    elim (ℕ_discrete b sep) [
      | yes e ↦ rw (at-separator sep b bs e) (omega arith)
      | no e ↦ rw (at-another sep b bs e) (joined-some b (parts sep bs))
    ]

-- the parts after a part that ends where the bytes begin
abbrev pub after : ℕ → List ℕ → List (List ℕ)
after sep [] = []
after sep (b ∷ bs) = parts sep bs

-- the first part ends at the first separator, or with the bytes
pub first_part : (sep : ℕ) (bs : List ℕ) (k : ℕ) → k ≤ length bs → ((j : ℕ) → j < k → get_or bs j 0 ≡ sep → ⊥) → (k < length bs → get_or bs k 0 ≡ sep)
    → parts sep bs ≡ take k bs ∷ after sep (drop k bs)
first_part sep [] zero l n f = no_bytes sep
first_part sep [] (suc k) l n f = absurd (omega arith)
first_part sep (b ∷ bs) zero l n f = at-separator sep b bs (f (omega arith))
first_part sep (b ∷ bs) (suc k) l n f =
    at-another sep b bs (n 0 (omega arith))
    ∙ ap (joined b) (first_part sep bs k (omega arith) (λ j a. n (suc j) (omega arith)) (λ a. f (omega arith)))

-- ---- bytes that are one part
pub no_part : (sep : ℕ) (bs : List ℕ) → ((j : ℕ) → j < length bs → get_or bs j 0 ≡ sep → ⊥) → parts sep bs ≡ bs ∷ []
no_part sep bs n =
    first_part sep bs (length bs) (omega arith) n (λ h. absurd (omega arith)) ∙ rw (take-length bs, drop-length bs) refl

-- from a place to the next such byte
pub sliced : (bytes : List ℕ) (from byte r : ℕ) → NextByte bytes from byte r
    → parts byte (take (r - from) (drop from bytes)) ≡ take (r - from) (drop from bytes) ∷ []
sliced bytes from byte r n =
    let l : length (take (r - from) (drop from bytes)) ≡ r - from = length-take-le (r - from) (drop from bytes) (omega (arith, length-drop from bytes, n.le_length)) in
    no_part byte (take (r - from) (drop from bytes))
    (λ j h e. n.before (from + j) (omega arith) (omega (arith, l)) (sym (get_or-drop from bytes j 0) ∙ sym (get_or-take (r - from) (drop from bytes) j 0 (omega (arith, l))) ∙ e))

abbrev first_of : List (List ℕ) → List ℕ
first_of [] = []
first_of (p ∷ ps) = p

-- the first part without its first byte
abbrev unjoined : List (List ℕ) → List (List ℕ)
unjoined [] = []
unjoined ([] ∷ ps) = ps
unjoined ((b ∷ p) ∷ ps) = p ∷ ps

unjoined-joined : (b : ℕ) (ps : List (List ℕ)) → 0 < length ps → unjoined (joined b ps) ≡ ps
unjoined-joined b [] l = absurd (omega arith)
unjoined-joined b (p ∷ ps) l = refl

module _ (sep b : ℕ) (bs : List ℕ) (e : parts sep (b ∷ bs) ≡ (b ∷ bs) ∷ []) where
  one-first : b ≡ sep → ⊥
  one-first q = let h : zero ≡ suc (length bs) = ap (λ (ps : List (List ℕ)). length (first_of ps)) (sym (at-separator sep b bs q) ∙ e) in omega (arith, h)

  one-rest : parts sep bs ≡ bs ∷ []
  one-rest = sym (unjoined-joined b (parts sep bs) (parts-some sep bs)) ∙ ap unjoined (sym (at-another sep b bs one-first) ∙ e)

-- x before the first part
abbrev onto : List ℕ → List (List ℕ) → List (List ℕ)
onto x [] = x ∷ []
onto x (p ∷ ps) = (x ++ p) ∷ ps

onto-none : (ps : List (List ℕ)) → 0 < length ps → ps ≡ onto [] ps
onto-none [] l = absurd (omega arith)
onto-none (p ∷ ps) l = refl

onto-more : (b : ℕ) (x : List ℕ) (ps : List (List ℕ)) → joined b (onto x ps) ≡ onto (b ∷ x) ps
onto-more b x [] = refl
onto-more b x (p ∷ ps) = refl

after_one : (sep : ℕ) (x y : List ℕ) → parts sep x ≡ x ∷ [] → parts sep (x ++ y) ≡ onto x (parts sep y)
after_one sep [] y e = onto-none (parts sep y) (parts-some sep y)
after_one sep (b ∷ x) y e =
    at-another sep b (x ++ y) (one-first sep b x e) ∙ ap (joined b) (after_one sep x y (one-rest sep b x e)) ∙ onto-more b x (parts sep y)

pub goes_on : (sep : ℕ) (x y : List ℕ) → parts sep x ≡ x ∷ [] → parts sep y ≡ y ∷ [] → parts sep (x ++ y) ≡ (x ++ y) ∷ []
goes_on sep x y e f = after_one sep x y e ∙ ap (onto x) f

pub ends-part : (sep b : ℕ) (x : List ℕ) → parts sep x ≡ x ∷ [] → b ≡ sep → parts sep (x ++ (b ∷ [])) ≡ x ∷ [] ∷ []
ends-part sep b x e q =
    after_one sep x (b ∷ []) e ∙ ap (onto x) (at-separator sep b [] q ∙ ap (λ (ps : List (List ℕ)). [] ∷ ps) (no_bytes sep))
    ∙ ap (λ (p : List ℕ). p ∷ [] ∷ []) (append-nil x)

-- ---- bytes that come one after the other
ended-more : (p : List ℕ) (ps : List (List ℕ)) → 0 < length ps → ended (p ∷ ps) ≡ p ∷ ended ps
unfolding ended
ended-more p [] l = absurd (omega arith)
ended-more p (q ∷ ps) l = refl

waiting-more : (p : List ℕ) (ps : List (List ℕ)) → 0 < length ps → waiting (p ∷ ps) ≡ waiting ps
unfolding waiting
waiting-more p [] l = absurd (omega arith)
waiting-more p (q ∷ ps) l = refl

-- the parts that have ended stay; what waits goes on with what comes
joined-on : (sep b : ℕ) (ps : List (List ℕ)) (y : List ℕ) → 0 < length ps → (b ≡ sep → ⊥)
    → joined b (ended ps ++ parts sep (waiting ps ++ y)) ≡ ended (joined b ps) ++ parts sep (waiting (joined b ps) ++ y)
unfolding ended waiting
joined-on sep b [] y l n = absurd (omega arith)
joined-on sep b (p ∷ []) y l n = sym (at-another sep b (p ++ y) n)
joined-on sep b (p ∷ q ∷ ps) y l n = refl

none_yet : (sep : ℕ) (y : List ℕ) → parts sep y ≡ ended ([] ∷ []) ++ parts sep (waiting ([] ∷ []) ++ y)
unfolding ended waiting
none_yet sep y = refl

pub parts-on : (sep : ℕ) (x y : List ℕ) → parts sep (x ++ y) ≡ ended (parts sep x) ++ parts sep (waiting (parts sep x) ++ y)
parts-on sep [] y = rw (no_bytes sep) (none_yet sep y)
parts-on sep (b ∷ x) y =
    elim (ℕ_discrete b sep) [
      | yes e ↦ rw (at-separator sep b x e, at-separator sep b (x ++ y) e, ended-more [] (parts sep x) (parts-some sep x), waiting-more [] (parts sep x) (parts-some sep x)) (ap (λ (ps : List (List ℕ)). [] ∷ ps) (parts-on sep x y))
      | no e ↦ rw (at-another sep b x e, at-another sep b (x ++ y) e) (ap (joined b) (parts-on sep x y) ∙ joined-on sep b (parts sep x) y (parts-some sep x) e)
    ]

append-some : (xs ps : List (List ℕ)) → 0 < length ps → 0 < length (xs ++ ps)
append-some [] ps l = l
append-some (x ∷ xs) ps l = omega arith

ended-append : (xs ps : List (List ℕ)) → 0 < length ps → ended (xs ++ ps) ≡ xs ++ ended ps
ended-append [] ps l = refl
ended-append (x ∷ xs) ps l = ended-more x (xs ++ ps) (append-some xs ps l) ∙ ap (λ (r : List (List ℕ)). x ∷ r) (ended-append xs ps l)

waiting-append : (xs ps : List (List ℕ)) → 0 < length ps → waiting (xs ++ ps) ≡ waiting ps
waiting-append [] ps l = refl
waiting-append (x ∷ xs) ps l = waiting-more x (xs ++ ps) (append-some xs ps l) ∙ waiting-append xs ps l

pub parts-ended : (sep : ℕ) (x y : List ℕ) → ended (parts sep (x ++ y)) ≡ ended (parts sep x) ++ ended (parts sep (waiting (parts sep x) ++ y))
parts-ended sep x y =
    ap ended (parts-on sep x y) ∙ ended-append (ended (parts sep x)) (parts sep (waiting (parts sep x) ++ y)) (parts-some sep (waiting (parts sep x) ++ y))

pub parts-waiting : (sep : ℕ) (x y : List ℕ) → waiting (parts sep (x ++ y)) ≡ waiting (parts sep (waiting (parts sep x) ++ y))
parts-waiting sep x y =
    ap waiting (parts-on sep x y) ∙ waiting-append (ended (parts sep x)) (parts sep (waiting (parts sep x) ++ y)) (parts-some sep (waiting (parts sep x) ++ y))

-- what waits is one part
joined-whole : (sep b : ℕ) (ps : List (List ℕ)) → 0 < length ps → (b ≡ sep → ⊥) → parts sep (waiting ps) ≡ waiting ps ∷ []
    → parts sep (waiting (joined b ps)) ≡ waiting (joined b ps) ∷ []
unfolding waiting
joined-whole sep b [] l n e = absurd (omega arith)
joined-whole sep b (p ∷ []) l n e = at-another sep b p n ∙ ap (joined b) e
joined-whole sep b (p ∷ q ∷ ps) l n e = e

none-waiting : (sep : ℕ) → parts sep (waiting ([] ∷ [])) ≡ waiting ([] ∷ []) ∷ []
unfolding waiting
none-waiting sep = no_bytes sep

pub waiting-whole : (sep : ℕ) (x : List ℕ) → parts sep (waiting (parts sep x)) ≡ waiting (parts sep x) ∷ []
waiting-whole sep [] = ap (λ (ps : List (List ℕ)). parts sep (waiting ps)) (no_bytes sep) ∙ none-waiting sep ∙ ap (λ (ps : List (List ℕ)). waiting ps ∷ []) (sym (no_bytes sep))
waiting-whole sep (b ∷ x) =
    elim (ℕ_discrete b sep) [
      | yes e ↦ rw (at-separator sep b x e, waiting-more [] (parts sep x) (parts-some sep x)) (waiting-whole sep x)
      | no e ↦ rw (at-another sep b x e) (joined-whole sep b (parts sep x) (parts-some sep x) e (waiting-whole sep x))
    ]
