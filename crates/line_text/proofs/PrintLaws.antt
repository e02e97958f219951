-- Bytes put one after the other, the digits of a number, and the loop over the values. Assumes nothing.
use mathlib.Core.Path.{◌≡◌, refl, sym, ◌∙◌, ap}
use mathlib.Core.Bool.{true, false}
use mathlib.Core.List.{List, [], ◌∷◌, ◌++◌, append_assoc, append-nil}
use Prim.Native.Nat.{ℕ, zero, suc, ◌+◌, ◌*◌, ◌^◌, ◌/◌, ◌%◌, ◌≤◌, ◌<◌}
use native.Mathlib.Nat.{pow-suc, mul-suc}
use native.Mathlib.Numerals.{add-one}
use native.Mathlib.Omega.{arith}
use lib.ListN.{length, get_or, set, take, length-append}
use lib.Seq.{take-suc-set, take-suc, take_all, length-take-le}
use lib.Dec.{ltb}
use borrow.Author.Tests.{lt-ltb, le-ltb, ltb-true, ltb-false}
use Rattle.words.proofs.CaseLaws.{bool}
use Rattle.line_text.specs.Output.{digits_up_to, digits, paired, tabbed}
use Rattle.line_text.specs.PrintContracts.{Puts}

pub put-none : (at : ℕ) (out : List ℕ) → Puts at [] out at out
put-none at out = record { end = omega arith; filled = sym (append-nil (take at out)) }

pub put_one : (at b : ℕ) (out : List ℕ) → at < length out → Puts at (b ∷ []) out (at + 1) (set out at b)
put_one at b out h = record { end = omega arith; filled = rw (add-one at) (take-suc-set out at b h) }

pub put_then : (at m r : ℕ) (xs ys out₀ out₁ out : List ℕ) → Puts at xs out₀ m out₁ → Puts m ys out₁ r out → Puts at (xs ++ ys) out₀ r out
put_then at m r xs ys out₀ out₁ out p q = record {
  end = omega (arith, p.end, q.end, length-append xs ys);
  filled = q.filled ∙ ap (λ (l : List ℕ). l ++ ys) p.filled ∙ append_assoc (take at out₀) xs ys;
}

-- one step of the digits
none_more : (n : ℕ) → digits_up_to zero n ≡ (48 + n % 10) ∷ []
unfolding digits_up_to
none_more n = refl

low : (f n : ℕ) → n < 10 → digits_up_to (suc f) n ≡ (48 + n) ∷ []
unfolding digits_up_to
low f n h = rw (digits_up_to, lt-ltb n 10 h) refl

high : (f n : ℕ) → 10 ≤ n → digits_up_to (suc f) n ≡ digits_up_to f (n / 10) ++ ((48 + n % 10) ∷ [])
unfolding digits_up_to
high f n h = rw (digits_up_to, le-ltb n 10 h) refl

-- more steps than digits change nothing
enough : (f n : ℕ) → n < 10 ^ suc f → digits_up_to f n ≡ digits_up_to (suc f) n
enough zero n h =
    let l : n < 10 = omega (arith, pow-suc 10 0) in
    let e : n % 10 ≡ n = omega arith in
    rw (none_more n, low 0 n l, e) refl
enough (suc f) n h =
    bool (ltb n 10)
    (λ (e : ltb n 10 ≡ true). let l = ltb-true n 10 e in low f n l ∙ sym (low (suc f) n l))
    (λ (e : ltb n 10 ≡ false).
    let g = ltb-false n 10 e in
    high f n g ∙ ap (λ (l : List ℕ). l ++ ((48 + n % 10) ∷ [])) (enough f (n / 10) (omega (arith, h, pow-suc 10 (suc f)))) ∙ sym (high (suc f) n g))

pub one-digit : (n : ℕ) → n < 10 → digits n ≡ (48 + n % 10) ∷ []
one-digit n h = let e : n % 10 ≡ n = omega arith in low 18 n h ∙ ap (λ (k : ℕ). (48 + k) ∷ []) (sym e)

pub more-digits : (n : ℕ) → n < 2 ^ 64 → 10 ≤ n → digits n ≡ digits (n / 10) ++ ((48 + n % 10) ∷ [])
more-digits n l h = high 18 n h ∙ ap (λ (l : List ℕ). l ++ ((48 + n % 10) ∷ [])) (enough 18 (n / 10) (omega arith))

pub one-length : (n : ℕ) → n < 10 → length (digits n) ≡ 1
one-length n h = ap length (one-digit n h)

pub more-length : (n : ℕ) → n < 2 ^ 64 → 10 ≤ n → length (digits n) ≡ length (digits (n / 10)) + 1
more-length n l h = ap length (more-digits n l h) ∙ length-append (digits (n / 10)) ((48 + n % 10) ∷ [])

few : (f n : ℕ) → length (digits_up_to f n) ≤ f + 1
few zero n = rw (none_more n) (omega arith)
few (suc f) n =
    bool (ltb n 10)
    (λ (e : ltb n 10 ≡ true). rw (low f n (ltb-true n 10 e)) (omega arith))
    (λ (e : ltb n 10 ≡ false).
    rw (high f n (ltb-false n 10 e), length-append (digits_up_to f (n / 10)) ((48 + n % 10) ∷ [])) (omega (arith, few f (n / 10))))

pub at-most-20 : (n : ℕ) → length (digits n) ≤ 20
at-most-20 n = few 19 n

pub marked-few : (b n : ℕ) → length (b ∷ digits n) ≤ 21
marked-few b n = omega (arith, at-most-20 n)

pub pair-few : (b s c v : ℕ) → length ((b ∷ digits s) ++ (c ∷ digits v)) ≤ 42
pair-few b s c v = omega (arith, length-append (b ∷ digits s) (c ∷ digits v), marked-few b s, marked-few c v)

-- where a number, and a byte with a number, end
pub number-end : (at n r : ℕ) (out out' : List ℕ) → Puts at (digits n) out r out' → r ≤ at + 20
number-end at n r out out' p = omega (arith, p.end, at-most-20 n)

pub marked-end : (at b n r : ℕ) (out out' : List ℕ) → Puts at (b ∷ digits n) out r out' → r ≤ at + 21
marked-end at b n r out out' p = omega (arith, p.end, marked-few b n)

-- a tab and a number after others
pub tabbed-none : tabbed [] ≡ []
unfolding tabbed
tabbed-none = refl

pub tabbed-cons : (n : ℕ) (ns : List ℕ) → tabbed (n ∷ ns) ≡ (9 ∷ digits n) ++ tabbed ns
unfolding tabbed
tabbed-cons n ns = refl

pub tabbed-snoc : (ns : List ℕ) (n : ℕ) → tabbed (ns ++ (n ∷ [])) ≡ tabbed ns ++ ((9 ∷ []) ++ digits n)
tabbed-snoc [] n = rw (tabbed-cons n [], tabbed-none) (append-nil (9 ∷ digits n))
tabbed-snoc (m ∷ ns) n =
    tabbed-cons m (ns ++ (n ∷ [])) ∙ ap (λ (l : List ℕ). (9 ∷ digits m) ++ l) (tabbed-snoc ns n)
    ∙ sym (append_assoc (9 ∷ digits m) (tabbed ns) (9 ∷ digits n)) ∙ ap (λ (l : List ℕ). l ++ (9 ∷ digits n)) (sym (tabbed-cons m ns))

pub tabbed-few : (ns : List ℕ) → length (tabbed ns) ≤ 21 * length ns
tabbed-few [] = rw tabbed-none (omega arith)
tabbed-few (n ∷ ns) = rw (tabbed-cons n ns) (omega (arith, length-append (9 ∷ digits n) (tabbed ns), marked-few 9 n, tabbed-few ns))

-- a pair after others
pub paired_none : paired [] [] ≡ []
unfolding paired
paired_none = refl

paired-cons : (s v : ℕ) (ss vs : List ℕ) → paired (s ∷ ss) (v ∷ vs) ≡ (9 ∷ digits s) ++ ((58 ∷ digits v) ++ paired ss vs)
unfolding paired
paired-cons s v ss vs = refl

pub paired-snoc : (ss vs : List ℕ) (s v : ℕ) → length ss ≡ length vs → paired (ss ++ (s ∷ [])) (vs ++ (v ∷ [])) ≡ paired ss vs ++ ((9 ∷ digits s) ++ (58 ∷ digits v))
paired-snoc [] [] s v e = rw (paired-cons s v [] [], paired_none) (ap (λ (l : List ℕ). (9 ∷ digits s) ++ l) (append-nil (58 ∷ digits v)))
paired-snoc [] (u ∷ vs) s v e = absurd (omega arith)
paired-snoc (t ∷ ss) [] s v e = absurd (omega arith)
paired-snoc (t ∷ ss) (u ∷ vs) s v e =
    paired-cons t u (ss ++ (s ∷ [])) (vs ++ (v ∷ []))
    ∙ ap (λ (l : List ℕ). (9 ∷ digits t) ++ ((58 ∷ digits u) ++ l)) (paired-snoc ss vs s v (omega arith))
    ∙ ap (λ (l : List ℕ). (9 ∷ digits t) ++ l) (sym (append_assoc (58 ∷ digits u) (paired ss vs) ((9 ∷ digits s) ++ (58 ∷ digits v))))
    ∙ sym (append_assoc (9 ∷ digits t) ((58 ∷ digits u) ++ paired ss vs) ((9 ∷ digits s) ++ (58 ∷ digits v)))
    ∙ ap (λ (l : List ℕ). l ++ ((9 ∷ digits s) ++ (58 ∷ digits v))) (sym (paired-cons t u ss vs))

pub paired-few : (ss vs : List ℕ) → length (paired ss vs) ≤ 42 * length ss
unfolding paired
paired-few [] vs = omega arith
paired-few (s ∷ ss) [] = omega arith
paired-few (s ∷ ss) (v ∷ vs) =
    omega (
      arith,
      length-append (9 ∷ digits s) ((58 ∷ digits v) ++ paired ss vs),
      length-append (58 ∷ digits v) (paired ss vs),
      marked-few 9 s,
      marked-few 58 v,
      paired-few ss vs,
    )

-- ---- a loop that puts bytes: `bytes i` are those of i turns, put from `at` on up to `to`, at most `each` a turn
pub record PutSoFar (at each : ℕ) (bytes : ℕ → List ℕ) (out₀ : List ℕ) (i to : ℕ) (out : List ℕ) : Type 0 where
  pub long : length out ≡ length out₀
  pub room : to ≤ at + each * i
  pub puts : Puts at (bytes i) out₀ to out

module _ (at each : ℕ) (bytes : ℕ → List ℕ) (out₀ : List ℕ) where
  pub start : bytes 0 ≡ [] → PutSoFar at each bytes out₀ 0 at out₀
  start none = record { long = refl; room = omega arith; puts = rw none (put-none at out₀) }

  pub turn : (i to : ℕ) (out : List ℕ) (r : ℕ) (out' piece : List ℕ) → PutSoFar at each bytes out₀ i to out → bytes (i + 1) ≡ bytes i ++ piece
      → length piece ≤ each → Puts to piece out r out' → length out' ≡ length out → PutSoFar at each bytes out₀ (i + 1) r out'
  turn i to out r out' piece s more few p l = record {
    long = l ∙ s.long;
    room = let e : each * (i + 1) ≡ each * i + each = rw (add-one i) (mul-suc each i) in omega (arith, s.room, p.end, few, e);
    puts = rw more (put_then at to r (bytes i) piece out₀ out out' s.puts p);
  }

-- i values, i pairs and i bytes, and what one more adds
abbrev pub values_so_far : List ℕ → ℕ → List ℕ
values_so_far values i = tabbed (take i values)

pub values-more : (values : List ℕ) (i : ℕ) → i < length values → values_so_far values (i + 1) ≡ values_so_far values i ++ (9 ∷ digits (get_or values i 0))
values-more values i h = rw (add-one i, take-suc values i 0 h) (tabbed-snoc (take i values) (get_or values i 0))

abbrev pub pairs_so_far : List ℕ → List ℕ → ℕ → List ℕ
pairs_so_far ss vs i = paired (take i ss) (take i vs)

pub pairs-more : (ss vs : List ℕ) (i : ℕ) → i < length ss → i < length vs
    → pairs_so_far ss vs (i + 1) ≡ pairs_so_far ss vs i ++ ((9 ∷ digits (get_or ss i 0)) ++ (58 ∷ digits (get_or vs i 0)))
pairs-more ss vs i h k =
    rw (add-one i, take-suc ss i 0 h, take-suc vs i 0 k)
    (paired-snoc (take i ss) (take i vs) (get_or ss i 0) (get_or vs i 0) (length-take-le i ss (omega arith) ∙ sym (length-take-le i vs (omega arith))))

pub all-put : (at i r : ℕ) (part out out' : List ℕ) → length part ≤ i → Puts at (take i part) out r out' → Puts at part out r out'
all-put at i r part out out' l p = rw (take_all i part l) at p

pub bytes-more : (part : List ℕ) (i : ℕ) → i < length part → take (i + 1) part ≡ take i part ++ (get_or part i 0 ∷ [])
bytes-more part i h = rw (add-one i) (take-suc part i 0 h)

pub pairs-all : (ss vs : List ℕ) (n : ℕ) → length ss ≤ n → length vs ≤ n → pairs_so_far ss vs n ≡ paired ss vs
pairs-all ss vs n l m = rw (take_all n ss l, take_all n vs m) refl
