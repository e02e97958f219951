-- The marks of a set of losses: one flag, a stretch of flags alike, where they stand. Assumes nothing.
use mathlib.Core.Path.{◌≡◌, refl, sym, ap, ◌∙◌}
use mathlib.Core.Bool.{Bool, true, false}
use mathlib.Core.List.{List, [], ◌∷◌, ◌++◌, append-nil}
use Prim.Native.Nat.{ℕ, zero, suc, ◌+◌, ◌-◌, ◌≤◌, ◌<◌}
use native.Mathlib.Omega.{arith}
use lib.ListN.{length}
use Rattle.laws_losses.specs.Marks.{Mark, single, opens, run_marks, marks_from, falses, trues, Ahead, AllBelow}

-- ---- one run

pub run_none : (s : ℕ) → run_marks s 0 ≡ []
unfolding run_marks
run_none s = refl

pub run-one : (s : ℕ) → run_marks s 1 ≡ single s ∷ []
unfolding run_marks
run-one s = refl

pub run-two : (s : ℕ) → run_marks s 2 ≡ single s ∷ single (s + 1) ∷ []
unfolding run_marks
run-two s = refl

-- a run of three or more, from distance s to distance o
pub run-pair : (s k o : ℕ) → 3 ≤ k → s + k ≡ o + 1 → run_marks s k ≡ opens s ∷ single o ∷ []
unfolding run_marks
run-pair s zero o l e = absurd (omega arith)
run-pair s (suc zero) o l e = absurd (omega arith)
run-pair s (suc (suc zero)) o l e = absurd (omega arith)
run-pair s (suc (suc (suc k))) o l e =
    let last : s + (k + 2) ≡ o = omega arith in
    ap (λ (x : ℕ). opens s ∷ single x ∷ []) last

-- ---- one flag

pub marks-end : (s k : ℕ) → marks_from s k [] ≡ run_marks s k
unfolding marks_from
marks-end s k = refl

pub marks-lost : (s k : ℕ) (f : List Bool) → marks_from s k (true ∷ f) ≡ marks_from s (suc k) f
unfolding marks_from
marks-lost s k f = refl

pub marks-kept : (s k : ℕ) (f : List Bool) → marks_from s k (false ∷ f) ≡ run_marks s k ++ marks_from (suc (s + k)) 0 f
unfolding marks_from
marks-kept s k f = refl

-- ---- a stretch of flags

-- no run before: o - s flags that are not lost are passed over
pub marks-skip : (x s : ℕ) (f : List Bool) → marks_from s 0 (falses x ++ f) ≡ marks_from (s + x) 0 f
marks-skip zero s f =
    let e : s ≡ s + 0 = omega arith in
    ap (λ (a : ℕ). marks_from a 0 f) e
marks-skip (suc x) s f =
    let a : suc (s + 0) ≡ suc s = omega arith in
    let e : suc s + x ≡ s + suc x = omega arith in
    rw (marks-kept s 0 (falses x ++ f), run_none s, a) (marks-skip x (suc s) f ∙ ap (λ (a : ℕ). marks_from a 0 f) e)

-- a run before: it ends there
pub marks-gap : (x s k : ℕ) (f : List Bool) → 0 < x → marks_from s k (falses x ++ f) ≡ run_marks s k ++ marks_from (s + k + x) 0 f
marks-gap zero s k f l = absurd (omega arith)
marks-gap (suc x) s k f l =
    let e : suc (s + k) + x ≡ s + k + suc x = omega arith in
    marks-kept s k (falses x ++ f) ∙ ap (λ (m : List Mark). run_marks s k ++ m) (marks-skip x (suc (s + k)) f ∙ ap (λ (a : ℕ). marks_from a 0 f) e)

-- lost flags lengthen the run
pub marks-run : (x s k : ℕ) (f : List Bool) → marks_from s k (trues x ++ f) ≡ marks_from s (k + x) f
marks-run zero s k f =
    let e : k ≡ k + 0 = omega arith in
    ap (λ (a : ℕ). marks_from s a f) e
marks-run (suc x) s k f =
    let e : suc k + x ≡ k + suc x = omega arith in
    marks-lost s k (trues x ++ f) ∙ marks-run x s (suc k) f ∙ ap (λ (a : ℕ). marks_from s a f) e

-- the same, up to an distance o
pub marks-skip-to : (s o : ℕ) (f : List Bool) → s ≤ o → marks_from s 0 (falses (o - s) ++ f) ≡ marks_from o 0 f
marks-skip-to s o f l =
    let e : s + (o - s) ≡ o = omega arith in
    marks-skip (o - s) s f ∙ ap (λ (a : ℕ). marks_from a 0 f) e

pub marks-gap-to : (s k a o : ℕ) (f : List Bool) → s + k ≡ a → a < o → marks_from s k (falses (o - a) ++ f) ≡ run_marks s k ++ marks_from o 0 f
marks-gap-to s k a o f h l =
    let e : s + k + (o - a) ≡ o = omega arith in
    marks-gap (o - a) s k f (omega arith) ∙ ap (λ (a : ℕ). run_marks s k ++ marks_from a 0 f) e

-- nothing lost any more
pub marks-rest : (x s k : ℕ) → marks_from s k (falses x) ≡ run_marks s k ++ []
marks-rest zero s k = marks-end s k ∙ sym (append-nil (run_marks s k))
marks-rest (suc x) s k = marks-kept s k (falses x) ∙ ap (λ (m : List Mark). run_marks s k ++ m) (marks-rest x (suc (s + k)) 0 ∙ rw (run_none (suc (s + k))))

-- ---- where the marks stand

ahead-less : (a b : ℕ) (l : List Mark) → a ≤ b → Ahead b l → Ahead a l
ahead-less a b [] l h = tt
ahead-less a b (m ∷ ms) l h = omega arith

run-ahead : (s k : ℕ) (l : List Mark) → Ahead s l → Ahead s (run_marks s k ++ l)
unfolding run_marks
run-ahead s zero l h = h
run-ahead s (suc zero) l h = omega arith
run-ahead s (suc (suc zero)) l h = omega arith
run-ahead s (suc (suc (suc k))) l h = omega arith

-- none before the run
pub marks-ahead : (f : List Bool) (s k : ℕ) → Ahead s (marks_from s k f)
marks-ahead [] s k = rw (marks-end s k, ← append-nil (run_marks s k)) (run-ahead s k [] tt)
marks-ahead (true ∷ f) s k = rw (marks-lost s k f) (marks-ahead f s (suc k))
marks-ahead (false ∷ f) s k = rw (marks-kept s k f)
    (run-ahead s k (marks_from (suc (s + k)) 0 f) (ahead-less s (suc (s + k)) (marks_from (suc (s + k)) 0 f) (omega arith) (marks-ahead f (suc (s + k)) 0)))

run-below : (n s k : ℕ) (l : List Mark) → s + k ≤ n → AllBelow n l → AllBelow n (run_marks s k ++ l)
unfolding run_marks
run-below n s zero l h a = a
run-below n s (suc zero) l h a = (omega arith, a)
run-below n s (suc (suc zero)) l h a = (omega arith, (omega arith, a))
run-below n s (suc (suc (suc k))) l h a = (omega arith, (omega arith, a))

-- none past the flags
pub marks-below : (f : List Bool) (n s k : ℕ) → s + k + length f ≤ n → AllBelow n (marks_from s k f)
marks-below [] n s k h = rw (marks-end s k, ← append-nil (run_marks s k)) (run-below n s k [] (omega arith) tt)
marks-below (true ∷ f) n s k h = rw (marks-lost s k f) (marks-below f n s (suc k) (omega arith))
marks-below (false ∷ f) n s k h = rw (marks-kept s k f)
    (run-below n s k (marks_from (suc (s + k)) 0 f) (omega arith) (marks-below f n (suc (s + k)) 0 (omega arith)))
