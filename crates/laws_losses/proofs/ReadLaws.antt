-- The reader takes the marks of flags and gives these flags, and what it takes are the marks of what it gives. The claim that carries
-- each induction is about the rest of the list at a place: the flags from there on. Assumes nothing.
use mathlib.Core.Path.{◌≡◌, refl, sym, ap, ◌∙◌}
use mathlib.Core.Bool.{Bool, true, false, cond, ◌&&◌, true≢false}
use mathlib.Core.Option.{Option, none, some, some-injective, none-ne-some}
use mathlib.Core.List.{List, [], ◌∷◌, ◌++◌, append-nil, append_assoc}
use Prim.Native.Nat.{ℕ, zero, suc, ◌+◌, ◌-◌, ◌≤◌, ◌<◌}
use native.Mathlib.Omega.{arith}
use lib.Dec.{leb, ltb, eqb}
use lib.ListN.{length, length-append, length-replicate}
use borrow.Author.Tests.{leb-true, ltb-true, eqb-true, le-leb, lt-ltb, eq-eqb, ne_eqb}
use Rattle.words.proofs.CaseLaws.{bool, both}
use Rattle.laws_losses.specs.Marks.{Mark, single, opens, stray, run_marks, marks_from, falses, trues, Ahead}
use Rattle.laws_losses.proofs.MarkLaws.{run_none, run-one, run-two, run-pair, marks-end, marks-lost, marks-kept, marks-skip-to, marks-gap-to, marks-run, marks-rest, marks-ahead}
use Rattle.laws_losses.specs.Reading.{Phase, clear, alone, ended, opened, Place, place, Turn, turn_to, allow, alone_at, opened_at, turn, is_opened_of, onto, said_by, go_on, read_from}

-- ---- flags before others

pub onto-none-before : (x : Option (List Bool)) → onto [] x ≡ x
onto-none-before none = refl
onto-none-before (some g) = refl

pub onto-onto : (f g : List Bool) (x : Option (List Bool)) → onto f (onto g x) ≡ onto (f ++ g) x
onto-onto f g none = refl
onto-onto f g (some h) = ap {B = Option (List Bool)} some (sym (append_assoc f g h))

onto-some : (f : List Bool) (x : Option (List Bool)) (g : List Bool) → onto f x ≡ some g → (h : List Bool) × (x ≡ some h) × (g ≡ f ++ h)
onto-some f none g e = absurd (none-ne-some g e)
onto-some f (some h) g e = (h, refl, sym (some-injective (f ++ h) g e))

-- ---- a turn that was allowed

allowed : (b : Bool) (t : Turn) (rest : Place → Option (List Bool)) → b ≡ true → go_on (allow b t) rest ≡ onto (said_by t) (rest t.next)
allowed true t rest e = refl
allowed false t rest e = absurd (true≢false (sym e))

allowed-on : (b : Bool) (t : Turn) (rest : Place → Option (List Bool)) (g : List Bool) → go_on (allow b t) rest ≡ some g
    → (h : List Bool) × (b ≡ true) × (rest t.next ≡ some h) × (g ≡ said_by t ++ h)
allowed-on true t rest g e = let x = onto-some (said_by t) (rest t.next) g e in (x.0, refl, x.1, x.2)
allowed-on false t rest g e = absurd (none-ne-some g e)

allow-some : (b : Bool) (t u : Turn) → allow b t ≡ some u → (b ≡ true) × (t ≡ u)
allow-some true t u e = (refl, some-injective t u e)
allow-some false t u e = absurd (none-ne-some u e)

-- the place after a turn comes after what it said, and lies in the range
abbrev Placed : ℕ → ℕ → Turn → Type 0
Placed n a t = (t.next.at ≡ a + t.gap + t.lost) × (t.next.at ≤ n)

module _ (n a o : ℕ) (t : Turn) where
  alone-place : (b : Bool) → alone_at n a o b ≡ some t → (b ≡ true → a ≤ o) → Placed n a t
  alone-place b e h =
      let x = allow-some (b && ltb o n) (turn_to (o - a) 1 (place (o + 1) alone)) t e in
      let c = both b (ltb o n) x.0 in
      let le = h c.0 in
      let lt = ltb-true o n c.1 in
      rw (← x.1) (omega arith, omega arith)

  opened-place : (b : Bool) → opened_at n a o b ≡ some t → (b ≡ true → a ≤ o) → Placed n a t
  opened-place b e h =
      let x = allow-some (b && ltb o n) (turn_to (o - a) 0 (place o opened)) t e in
      let c = both b (ltb o n) x.0 in
      let le = h c.0 in
      let lt = ltb-true o n c.1 in
      rw (← x.1) (omega arith, omega arith)

  ended-place : eqb o a ≡ true → allow (ltb o n) (turn_to 0 1 (place (o + 1) ended)) ≡ some t → Placed n a t
  ended-place q e =
      let x = allow-some (ltb o n) (turn_to 0 1 (place (o + 1) ended)) t e in
      let same = eqb-true o a q in
      let lt = ltb-true o n x.0 in
      rw (← x.1) (omega arith, omega arith)

  after-le : ltb a o ≡ true → a ≤ o
  after-le b = omega (arith, ltb-true a o b)

pub turn-place : (n a : ℕ) (p : Phase) (m : Mark) (t : Turn) → turn n a p m ≡ some t → Placed n a t
turn-place n a clear (single o) t e = alone-place n a o t (leb a o) e (leb-true a o)
turn-place n a clear (opens o) t e = opened-place n a o t (leb a o) e (leb-true a o)
turn-place n a clear (stray w) t e = absurd (none-ne-some t e)
turn-place n a alone (single o) t e =
    bool (eqb o a)
    (λ q. ended-place n a o t q (sym (ap (λ (b : Bool). cond b (allow (ltb o n) (turn_to 0 1 (place (o + 1) ended))) (alone_at n a o (ltb a o))) q) ∙ e))
    (λ q. alone-place n a o t (ltb a o) (sym (ap (λ (b : Bool). cond b (allow (ltb o n) (turn_to 0 1 (place (o + 1) ended))) (alone_at n a o (ltb a o))) q) ∙ e) (after-le n a o t))
turn-place n a alone (opens o) t e = opened-place n a o t (ltb a o) e (after-le n a o t)
turn-place n a alone (stray w) t e = absurd (none-ne-some t e)
turn-place n a ended (single o) t e = alone-place n a o t (ltb a o) e (after-le n a o t)
turn-place n a ended (opens o) t e = opened-place n a o t (ltb a o) e (after-le n a o t)
turn-place n a ended (stray w) t e = absurd (none-ne-some t e)
turn-place n a opened (single o) t e =
    let x = allow-some (leb (a + 2) o && ltb o n) (turn_to 0 ((o + 1) - a) (place (o + 1) ended)) t e in
    let c = both (leb (a + 2) o) (ltb o n) x.0 in
    let le = leb-true (a + 2) o c.0 in
    let lt = ltb-true o n c.1 in
    rw (← x.1) (omega arith, omega arith)
turn-place n a opened (opens o) t e = absurd (none-ne-some t e)
turn-place n a opened (stray w) t e = absurd (none-ne-some t e)

said-length : (t : Turn) (h : List Bool) → length (said_by t ++ h) ≡ t.gap + t.lost + length h
said-length t h =
    omega (arith, length-append (said_by t) h, length-append (falses t.gap) (trues t.lost), length-replicate t.gap false, length-replicate t.lost true)

-- ---- what a turn says, written

lost-said : (o y : ℕ) (h : List Bool) → marks_from o 0 (trues y ++ h) ≡ marks_from o y h
lost-said o y h =
    let e : 0 + y ≡ y = omega arith in
    marks-run y o 0 h ∙ ap (λ (x : ℕ). marks_from o x h) e

skip-said : (a o y : ℕ) (q : Place) (h : List Bool) → a ≤ o → marks_from a 0 (said_by (turn_to (o - a) y q) ++ h) ≡ marks_from o y h
skip-said a o y q h l = rw (append_assoc (falses (o - a)) (trues y) h) (marks-skip-to a o (trues y ++ h) l ∙ lost-said o y h)

gap-said : (s k a o y : ℕ) (q : Place) (h : List Bool) → s + k ≡ a → a < o
    → marks_from s k (said_by (turn_to (o - a) y q) ++ h) ≡ run_marks s k ++ marks_from o y h
gap-said s k a o y q h e l =
    rw (append_assoc (falses (o - a)) (trues y) h)
    (marks-gap-to s k a o (trues y ++ h) e l ∙ ap (λ (m : List Mark). run_marks s k ++ m) (lost-said o y h))

one_then : (o : ℕ) (l : List Mark) → run_marks o 1 ++ l ≡ single o ∷ l
one_then o l = ap (λ (m : List Mark). m ++ l) (run-one o)

-- ---- what is taken

-- flags g from distance a on go with the rest of a list: after the words of what came before a, they are written as that rest
abbrev Continues : Phase → ℕ → List Bool → List Mark → Type 0
Continues clear a g l = marks_from a 0 g ≡ l
Continues alone a g l = (s : ℕ) → s + 1 ≡ a → marks_from s 1 g ≡ run_marks s 1 ++ l
Continues ended a g l = (s k : ℕ) → s + k ≡ a → 2 ≤ k → marks_from s k g ≡ run_marks s k ++ l
Continues opened a g l = marks_from a 0 g ≡ opens a ∷ l

-- a single word after a gap, and a first word after a gap
abbrev Rest : ℕ → List Mark → Type 0
Rest n l = (a : ℕ) (p : Phase) (g : List Bool) → a ≤ n → read_from n (place a p) l ≡ some g → (a + length g ≡ n) × Continues p a g l

module _ (n : ℕ) (l : List Mark) (rest : Rest n l) (a o : ℕ) (g : List Bool) where
  alone-said : (b : Bool) → go_on (alone_at n a o b) (λ (q : Place). read_from n q l) ≡ some g
      → (h : List Bool) × (b ≡ true) × (g ≡ said_by (turn_to (o - a) 1 (place (o + 1) alone)) ++ h) × (a ≤ o → a + length g ≡ n) × (marks_from o 1 h ≡ single o ∷ l)
  alone-said b e =
      let t = turn_to (o - a) 1 (place (o + 1) alone) in
      let x = allowed-on (b && ltb o n) t (λ (q : Place). read_from n q l) g e in
      let c = both b (ltb o n) x.1 in
      let lt = ltb-true o n c.1 in
      let ih = rest (o + 1) alone x.0 (omega arith) x.2 in
      (x.0, c.0, x.3, (λ le. omega (arith, said-length t x.0, ap length x.3, ih.0)), ih.1 o refl ∙ one_then o l)

  opened-said : (b : Bool) → go_on (opened_at n a o b) (λ (q : Place). read_from n q l) ≡ some g
      → (h : List Bool) × (b ≡ true) × (g ≡ said_by (turn_to (o - a) 0 (place o opened)) ++ h) × (a ≤ o → a + length g ≡ n) × (marks_from o 0 h ≡ opens o ∷ l)
  opened-said b e =
      let t = turn_to (o - a) 0 (place o opened) in
      let x = allowed-on (b && ltb o n) t (λ (q : Place). read_from n q l) g e in
      let c = both b (ltb o n) x.1 in
      let lt = ltb-true o n c.1 in
      let ih = rest o opened x.0 (omega arith) x.2 in
      (x.0, c.0, x.3, (λ le. omega (arith, said-length t x.0, ap length x.3, ih.0)), ih.1)

  -- after a run of k, with at least one flag between
  single-after : (s k : ℕ) → s + k ≡ a → go_on (alone_at n a o (ltb a o)) (λ (q : Place). read_from n q l) ≡ some g
      → marks_from s k g ≡ run_marks s k ++ (single o ∷ l)
  single-after s k h e =
      let x = alone-said (ltb a o) e in
      ap (marks_from s k) x.2 ∙ gap-said s k a o 1 (place (o + 1) alone) x.0 h (ltb-true a o x.1) ∙ ap (λ (m : List Mark). run_marks s k ++ m) x.4

  single-long : go_on (alone_at n a o (ltb a o)) (λ (q : Place). read_from n q l) ≡ some g → a + length g ≡ n
  single-long e = let x = alone-said (ltb a o) e in x.3 (omega (arith, ltb-true a o x.1))

  opens-after : (s k : ℕ) → s + k ≡ a → go_on (opened_at n a o (ltb a o)) (λ (q : Place). read_from n q l) ≡ some g
      → marks_from s k g ≡ run_marks s k ++ (opens o ∷ l)
  opens-after s k h e =
      let x = opened-said (ltb a o) e in
      ap (marks_from s k) x.2 ∙ gap-said s k a o 0 (place o opened) x.0 h (ltb-true a o x.1) ∙ ap (λ (m : List Mark). run_marks s k ++ m) x.4

  opens-long : go_on (opened_at n a o (ltb a o)) (λ (q : Place). read_from n q l) ≡ some g → a + length g ≡ n
  opens-long e = let x = opened-said (ltb a o) e in x.3 (omega (arith, ltb-true a o x.1))

  -- a single word just after one: a run of two
  touches : (t : eqb o a ≡ true) → go_on (allow (ltb o n) (turn_to 0 1 (place (o + 1) ended))) (λ (q : Place). read_from n q l) ≡ some g
      → (a + length g ≡ n) × ((s : ℕ) → s + 1 ≡ a → marks_from s 1 g ≡ run_marks s 1 ++ (single o ∷ l))
  touches t e =
      let same = eqb-true o a t in
      let turned = turn_to 0 1 (place (o + 1) ended) in
      let x = allowed-on (ltb o n) turned (λ (q : Place). read_from n q l) g e in
      let lt = ltb-true o n x.1 in
      let ih = rest (o + 1) ended x.0 (omega arith) x.2 in (
        omega (arith, said-length turned x.0, ap length x.3, ih.0),
        λ s h.
            let two : s + 1 ≡ o = omega arith in
            ap (marks_from s 1) x.3 ∙ marks-lost s 1 x.0 ∙ ih.1 s 2 (omega arith) (omega arith)
            ∙ ap (λ (m : List Mark). m ++ l) (run-two s) ∙ ap (λ (y : ℕ). single s ∷ single y ∷ l) two ∙ sym (one_then s (single o ∷ l)),
      )

  -- the second word of a run of three or more
  closes : go_on (turn n a opened (single o)) (λ (q : Place). read_from n q l) ≡ some g → (a + length g ≡ n) × (marks_from a 0 g ≡ opens a ∷ single o ∷ l)
  closes e =
      let t = turn_to 0 ((o + 1) - a) (place (o + 1) ended) in
      let x = allowed-on (leb (a + 2) o && ltb o n) t (λ (q : Place). read_from n q l) g e in
      let c = both (leb (a + 2) o) (ltb o n) x.1 in
      let le = leb-true (a + 2) o c.0 in
      let lt = ltb-true o n c.1 in
      let ih = rest (o + 1) ended x.0 (omega arith) x.2 in
      let k = (o + 1) - a in (
        omega (arith, said-length t x.0, ap length x.3, ih.0),
        ap (marks_from a 0) x.3 ∙ lost-said a k x.0 ∙ ih.1 a k (omega arith) (omega arith)
            ∙ ap (λ (m : List Mark). m ++ l) (run-pair a k o (omega arith) (omega arith)),
      )

-- past the last word
module _ (n a : ℕ) (g : List Bool) (l : a ≤ n) (e : falses (n - a) ≡ g) where
  end-long : a + length g ≡ n
  end-long = omega (arith, ap length e, length-replicate (n - a) false)

  end_after : (s k : ℕ) → marks_from s k g ≡ run_marks s k ++ []
  end_after s k = ap (marks_from s k) (sym e) ∙ marks-rest (n - a) s k

pub read-sound : (n : ℕ) (l : List Mark) → Rest n l
unfolding read_from
read-sound n [] a clear g h e =
    let same = some-injective (falses (n - a)) g e in
    (end-long n a g h same, end_after n a g h same a 0 ∙ rw (run_none a))
read-sound n [] a alone g h e =
    let same = some-injective (falses (n - a)) g e in
    (end-long n a g h same, λ s i. end_after n a g h same s 1)
read-sound n [] a ended g h e =
    let same = some-injective (falses (n - a)) g e in
    (end-long n a g h same, λ s k i j. end_after n a g h same s k)
read-sound n [] a opened g h e = absurd (none-ne-some g e)
read-sound n (single o ∷ l) a clear g h e =
    let x = alone-said n l (read-sound n l) a o g (leb a o) e in
    let le = leb-true a o x.1 in
    (x.3 le, ap (marks_from a 0) x.2 ∙ skip-said a o 1 (place (o + 1) alone) x.0 le ∙ x.4)
read-sound n (single o ∷ l) a alone g h e =
    bool (eqb o a)
    (λ t.
    touches n l (read-sound n l) a o g t
    (sym (ap (λ (b : Bool). go_on (cond b (allow (ltb o n) (turn_to 0 1 (place (o + 1) ended))) (alone_at n a o (ltb a o))) (λ (q : Place). read_from n q l)) t) ∙ e))
    (λ t.
    let d = sym (ap (λ (b : Bool). go_on (cond b (allow (ltb o n) (turn_to 0 1 (place (o + 1) ended))) (alone_at n a o (ltb a o))) (λ (q : Place). read_from n q l)) t) ∙ e in
    (single-long n l (read-sound n l) a o g d, λ s i. single-after n l (read-sound n l) a o g s 1 i d))
read-sound n (single o ∷ l) a ended g h e =
    (single-long n l (read-sound n l) a o g e, λ s k i j. single-after n l (read-sound n l) a o g s k i e)
read-sound n (single o ∷ l) a opened g h e = closes n l (read-sound n l) a o g e
read-sound n (opens o ∷ l) a clear g h e =
    let x = opened-said n l (read-sound n l) a o g (leb a o) e in
    let le = leb-true a o x.1 in
    (x.3 le, ap (marks_from a 0) x.2 ∙ skip-said a o 0 (place o opened) x.0 le ∙ x.4)
read-sound n (opens o ∷ l) a alone g h e =
    (opens-long n l (read-sound n l) a o g e, λ s i. opens-after n l (read-sound n l) a o g s 1 i e)
read-sound n (opens o ∷ l) a ended g h e =
    (opens-long n l (read-sound n l) a o g e, λ s k i j. opens-after n l (read-sound n l) a o g s k i e)
read-sound n (opens o ∷ l) a opened g h e = absurd (none-ne-some g e)
read-sound n (stray w ∷ l) a clear g h e = absurd (none-ne-some g e)
read-sound n (stray w ∷ l) a alone g h e = absurd (none-ne-some g e)
read-sound n (stray w ∷ l) a ended g h e = absurd (none-ne-some g e)
read-sound n (stray w ∷ l) a opened g h e = absurd (none-ne-some g e)

-- ---- what is given

-- what a run of this length leaves behind it
abbrev phase_of : ℕ → Phase
phase_of zero = clear
phase_of (suc zero) = alone
phase_of (suc (suc k)) = ended

run-closed : (k : ℕ) → is_opened_of (phase_of k) ≡ false
run-closed zero = refl
run-closed (suc zero) = refl
run-closed (suc (suc k)) = refl

-- the words of a run are read as the run
module _ (n : ℕ) (l : List Mark) where
  read_one : (s : ℕ) → s < n → read_from n (place s clear) (single s ∷ l) ≡ onto (trues 1) (read_from n (place (s + 1) alone) l)
  unfolding read_from
  read_one s h =
      let t = turn_to (s - s) 1 (place (s + 1) alone) in
      let none_between : s - s ≡ 0 = omega arith in
      let ok : leb s s && ltb s n ≡ true = rw (le-leb s s (omega arith), lt-ltb s n h) in
      allowed (leb s s && ltb s n) t (λ (q : Place). read_from n q l) ok
      ∙ ap (λ (x : ℕ). onto (falses x ++ trues 1) (read_from n (place (s + 1) alone) l)) none_between

  read-second : (s : ℕ) → s < n → read_from n (place s alone) (single s ∷ l) ≡ onto (trues 1) (read_from n (place (s + 1) ended) l)
  unfolding read_from
  read-second s h =
      ap (λ (b : Bool). go_on (cond b (allow (ltb s n) (turn_to 0 1 (place (s + 1) ended))) (alone_at n s s (ltb s s))) (λ (q : Place). read_from n q l)) (eq-eqb s s refl)
      ∙ allowed (ltb s n) (turn_to 0 1 (place (s + 1) ended)) (λ (q : Place). read_from n q l) (lt-ltb s n h)

  read-opens : (s : ℕ) → s < n → read_from n (place s clear) (opens s ∷ l) ≡ read_from n (place s opened) l
  unfolding read_from
  read-opens s h =
      let t = turn_to (s - s) 0 (place s opened) in
      let none_between : s - s ≡ 0 = omega arith in
      let ok : leb s s && ltb s n ≡ true = rw (le-leb s s (omega arith), lt-ltb s n h) in
      allowed (leb s s && ltb s n) t (λ (q : Place). read_from n q l) ok
      ∙ ap (λ (x : ℕ). onto (falses x ++ trues 0) (read_from n (place s opened) l)) none_between ∙ onto-none-before (read_from n (place s opened) l)

  read-closes : (s o : ℕ) → s + 2 ≤ o → o < n
      → read_from n (place s opened) (single o ∷ l) ≡ onto (trues ((o + 1) - s)) (read_from n (place (o + 1) ended) l)
  unfolding read_from
  read-closes s o g h =
      let ok : leb (s + 2) o && ltb o n ≡ true = rw (le-leb (s + 2) o g, lt-ltb o n h) in
      allowed (leb (s + 2) o && ltb o n) (turn_to 0 ((o + 1) - s) (place (o + 1) ended)) (λ (q : Place). read_from n q l) ok

pub read-run : (n s k : ℕ) (l : List Mark) → s + k ≤ n → read_from n (place s clear) (run_marks s k ++ l) ≡ onto (trues k) (read_from n (place (s + k) (phase_of k)) l)
read-run n s zero l h =
    let e : s ≡ s + 0 = omega arith in
    rw (run_none s) (ap (λ (a : ℕ). read_from n (place a clear) l) e ∙ sym (onto-none-before (read_from n (place (s + 0) clear) l)))
read-run n s (suc zero) l h = rw (run-one s) (read_one n l s (omega arith))
read-run n s (suc (suc zero)) l h =
    let e : s + 1 + 1 ≡ s + 2 = omega arith in
    rw (run-two s)
    (read_one n (single (s + 1) ∷ l) s (omega arith)
    ∙ ap (onto (trues 1)) (read-second n l (s + 1) (omega arith)) ∙ onto-onto (trues 1) (trues 1) (read_from n (place (s + 1 + 1) ended) l)
    ∙ ap (λ (a : ℕ). onto (trues 2) (read_from n (place a ended) l)) e)
read-run n s (suc (suc (suc k))) l h =
    let o = s + (k + 2) in
    let e : o + 1 ≡ s + suc (suc (suc k)) = omega arith in
    let c : (o + 1) - s ≡ suc (suc (suc k)) = omega arith in
    rw (run-pair s (suc (suc (suc k))) o (omega arith) (omega arith))
    (read-opens n (single o ∷ l) s (omega arith) ∙ read-closes n l s o (omega arith) (omega arith)
    ∙ ap (λ (x : ℕ). onto (trues x) (read_from n (place (o + 1) ended) l)) c
    ∙ ap (λ (a : ℕ). onto (trues (suc (suc (suc k)))) (read_from n (place a ended) l)) e)

-- a flag that is not lost, with the next word after it
wider : (b c : Bool) (x y z : ℕ) (q : Place) (rest : Place → Option (List Bool)) → b ≡ c → x ≡ suc z
    → go_on (allow b (turn_to x y q)) rest ≡ onto (false ∷ []) (go_on (allow c (turn_to z y q)) rest)
wider true true x y z q rest e h =
    ap (λ (x : ℕ). onto (falses x ++ trues y) (rest q)) h ∙ sym (onto-onto (false ∷ []) (falses z ++ trues y) (rest q))
wider true false x y z q rest e h = absurd (true≢false e)
wider false true x y z q rest e h = absurd (true≢false (sym e))
wider false false x y z q rest e h = refl

module _ (n a o : ℕ) (h : a < o) where
  more : o - a ≡ suc (o - suc a)
  more = omega arith

  both-after : (b : Bool) → b ≡ true → b && ltb o n ≡ leb (suc a) o && ltb o n
  both-after b e = ap (λ (c : Bool). c && ltb o n) (e ∙ sym (le-leb (suc a) o (omega arith)))

  gap-alone : (b : Bool) (rest : Place → Option (List Bool)) → b ≡ true → go_on (alone_at n a o b) rest ≡ onto (false ∷ []) (go_on (turn n (suc a) clear (single o)) rest)
  gap-alone b rest e = wider (b && ltb o n) (leb (suc a) o && ltb o n) (o - a) 1 (o - suc a) (place (o + 1) alone) rest (both-after b e) more

  gap-opened : (b : Bool) (rest : Place → Option (List Bool)) → b ≡ true → go_on (opened_at n a o b) rest ≡ onto (false ∷ []) (go_on (turn n (suc a) clear (opens o)) rest)
  gap-opened b rest e = wider (b && ltb o n) (leb (suc a) o && ltb o n) (o - a) 0 (o - suc a) (place o opened) rest (both-after b e) more

pub read-gap : (n a : ℕ) (p : Phase) (l : List Mark) → is_opened_of p ≡ false → a < n → Ahead (suc a) l
    → read_from n (place a p) l ≡ onto (false ∷ []) (read_from n (place (suc a) clear) l)
unfolding read_from
read-gap n a p [] c h d =
    let e : n - a ≡ suc (n - suc a) = omega arith in
    rw c (ap (λ (x : ℕ). some (falses x)) e)
read-gap n a clear (single o ∷ l) c h d = gap-alone n a o (omega arith) (leb a o) (λ (q : Place). read_from n q l) (le-leb a o (omega arith))
read-gap n a clear (opens o ∷ l) c h d = gap-opened n a o (omega arith) (leb a o) (λ (q : Place). read_from n q l) (le-leb a o (omega arith))
read-gap n a clear (stray w ∷ l) c h d = refl
read-gap n a alone (single o ∷ l) c h d =
    ap (λ (b : Bool). go_on (cond b (allow (ltb o n) (turn_to 0 1 (place (o + 1) ended))) (alone_at n a o (ltb a o))) (λ (q : Place). read_from n q l)) (ne_eqb o a (omega arith))
    ∙ gap-alone n a o (omega arith) (ltb a o) (λ (q : Place). read_from n q l) (lt-ltb a o (omega arith))
read-gap n a alone (opens o ∷ l) c h d = gap-opened n a o (omega arith) (ltb a o) (λ (q : Place). read_from n q l) (lt-ltb a o (omega arith))
read-gap n a alone (stray w ∷ l) c h d = refl
read-gap n a ended (single o ∷ l) c h d = gap-alone n a o (omega arith) (ltb a o) (λ (q : Place). read_from n q l) (lt-ltb a o (omega arith))
read-gap n a ended (opens o ∷ l) c h d = gap-opened n a o (omega arith) (ltb a o) (λ (q : Place). read_from n q l) (lt-ltb a o (omega arith))
read-gap n a ended (stray w ∷ l) c h d = refl
read-gap n a opened (m ∷ l) c h d = absurd (true≢false c)

pub read-end : (n : ℕ) (p : Phase) → is_opened_of p ≡ false → read_from n (place n p) [] ≡ some []
unfolding read_from
read-end n p c =
    let e : n - n ≡ 0 = omega arith in
    rw c (ap (λ (x : ℕ). some (falses x)) e)

-- one lost flag more, at the run's end or before the rest
lost-more : (k : ℕ) (f : List Bool) → trues (suc k) ++ f ≡ trues k ++ (true ∷ f)
lost-more zero f = refl
lost-more (suc k) f = ap (λ (g : List Bool). true ∷ g) (lost-more k f)

pub read-complete : (f : List Bool) (n s k : ℕ) → s + k + length f ≡ n → read_from n (place s clear) (marks_from s k f) ≡ some (trues k ++ f)
read-complete [] n s k h =
    let e : s + k ≡ n = omega arith in
    rw (marks-end s k, ← append-nil (run_marks s k))
    (read-run n s k [] (omega arith) ∙ ap (λ (a : ℕ). onto (trues k) (read_from n (place a (phase_of k)) [])) e
    ∙ ap (onto (trues k)) (read-end n (phase_of k) (run-closed k)))
read-complete (true ∷ f) n s k h =
    rw (marks-lost s k f) (read-complete f n s (suc k) (omega arith) ∙ ap (λ (g : List Bool). some g) (lost-more k f))
read-complete (false ∷ f) n s k h =
    let l = marks_from (suc (s + k)) 0 f in
    rw (marks-kept s k f)
    (read-run n s k l (omega arith)
    ∙ ap (onto (trues k)) (read-gap n (s + k) (phase_of k) l (run-closed k) (omega arith) (marks-ahead f (suc (s + k)) 0)
    ∙ ap (onto (false ∷ [])) (read-complete f n (suc (s + k)) 0 (omega arith))))
