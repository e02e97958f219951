-- `len` is the number of positions that hold a live value, and a range retired lowers it by those of its positions that did. Assumes nothing.
use mathlib.Core.Path.{◌≡◌, refl, sym, ap, ◌∙◌}
use mathlib.Core.Bool.{cond, true≢false}
use Prim.Native.Nat.{ℕ, zero, suc, ◌+◌, ◌*◌, ◌/◌, ◌%◌, ◌≤◌, ◌<◌}
use native.Mathlib.Omega.{arith}
use native.Mathlib.Decide.{ℕ_discrete}
use Rattle.words.proofs.CaseLaws.{bool}
use Rattle.words.specs.Word.{bit_at, count_below}
use Rattle.words.proofs.BitLaws.{bit-lt}
use Rattle.words.proofs.CountLaws.{count-suc}
use Rattle.window.specs.Memory.{capacity}
use Rattle.window.proofs.MemoryLaws.{capacity-pages}
use Rattle.model.specs.Table.{held, covers, sum, held_in_range}
use Rattle.model.specs.Window.{Window, pages_of, capacity_of, is_retired, live_at}
use Rattle.model.specs.Steps.{retire_range_of}
use Rattle.model.specs.Sound.{live_in}
use Rattle.page_base.proofs.PlaceLaws.{placed}
use Rattle.page_base.proofs.StandLaws.{stands-some, stands-none}
use Rattle.laws_soundness.specs.Change.{Limits}
use Rattle.laws_soundness.proofs.SumLaws.{sum-zero, sum-suc, sum_same, sum-add, sum-none, sum-blocks}
use Rattle.laws_soundness.proofs.PageLaws.{same-counts}
use Rattle.laws_soundness.proofs.LimitLaws.{range-limits}
use Rattle.laws_soundness.specs.Retire.{with_block_marks, Retiring}
use Rattle.laws_soundness.proofs.RetireRangeLaws.{retiring-range}
use Rattle.range_retire.proofs.LiveLaws.{live_bit}
use Rattle.range_retire.proofs.ClearLaws.{range_clear}

-- ---- the number of live values

-- set bits, one by one
count-zero-bits : (x : ℕ) → count_below 0 x ≡ 0
unfolding count_below
count-zero-bits x = refl

count-sum : (n x : ℕ) → count_below n x ≡ sum n (bit_at x)
count-sum zero x = count-zero-bits x ∙ sym (sum-zero (bit_at x))
count-sum (suc n) x = omega (arith, count-suc n x, sum-suc n (bit_at x), count-sum n x)

page-bits : (w : Window) (g : ℕ) → live_in w g ≡ sum 64 (λ (j : ℕ). live_bit w (64 * g + j))
page-bits w g =
    bool (is_retired w g)
    (λ e. rw e (sym (sum-none 64 (λ (j : ℕ). live_bit w (64 * g + j)) (λ j l. let y : (64 * g + j) / 64 ≡ g = omega arith in rw (y, e)))))
    (λ e.
    rw e
    (count-sum 64 (w.pages g).occupied
    ∙ sum_same 64 (bit_at (w.pages g).occupied) (λ (j : ℕ). live_bit w (64 * g + j))
    (λ j l.
    let y : (64 * g + j) / 64 ≡ g = omega arith in
    let z : (64 * g + j) % 64 ≡ j = omega arith in
    rw (y, z, e))))

pub len-bits : (w : Window) → Retiring w → w.header.len ≡ sum (capacity_of w) (live_bit w)
len-bits w ok =
    let u = with_block_marks w ok.marks in
    ok.proper.sound.len
    ∙ sum_same (pages_of w) (live_in u) (λ (g : ℕ). sum 64 (λ (j : ℕ). live_bit w (64 * g + j))) (λ g l. sym (same-counts u w g refl (ok.status g)).0 ∙ page-bits w g)
    ∙ sym (ap (λ (n : ℕ). sum n (live_bit w)) (capacity-pages w.header.window_size) ∙ sum-blocks (pages_of w) (live_bit w))

-- what the table holds at a position
held-bit : (w : Window) → Retiring w → (q : ℕ) → q < capacity_of w → held (live_at w q) ≡ live_bit w q
held-bit w ok q l =
    let g = q / 64 in
    let n = w.header.n in
    let p = w.pages g in
    let at = placed n (capacity_of w) g p (ok.proper.sound.page g (omega (arith, capacity-pages w.header.window_size))) in
    bool (is_retired w g)
    (λ r. rw r)
    (λ r.
    rw r
    (elim (ℕ_discrete (bit_at p.occupied (q % 64)) 1) [
      | yes b ↦ ap held (stands-some n p at (q % 64) (omega arith) b) ∙ sym b
      | no b ↦ let z : bit_at p.occupied (q % 64) ≡ 0 = omega (arith, b, bit-lt p.occupied (q % 64)) in ap held (stands-none n p at (q % 64) z) ∙ sym z
    ]))

-- `len` goes down by the number of positions of the range that held a live value
pub range-held : (w : Window) (start count : ℕ) → Retiring w → start < capacity_of w → 0 < count → count ≤ capacity_of w
    → w.header.len ≡ (retire_range_of w start count).after.header.len + held_in_range (capacity_of w) start count (live_at w)
unfolding held_in_range
range-held w start count ok low some few =
    let cap = capacity_of w in
    let v = (retire_range_of w start count).after in
    let c = range_clear w start count ok low some few in
    let gone : ℕ → ℕ = λ q. cond (covers cap start count q) (held (live_at w q)) 0 in
    let same : v.header.window_size ≡ w.header.window_size = ap (λ (y : Limits). y.size) (range-limits w start count) in
    let after : v.header.len ≡ sum cap (live_bit v) = len-bits v (retiring-range w start count ok low some few) ∙ ap (λ (n : ℕ). sum (capacity n) (live_bit v)) same in
    len-bits w ok
    ∙ sum_same cap (live_bit w) (λ (q : ℕ). live_bit v q + gone q)
    (λ q l. bool (covers cap start count q)
    (λ t. rw t (omega (arith, c.gone q l t, held-bit w ok q l)))
    (λ t. rw t (omega (arith, c.kept q l (λ s. true≢false (sym s ∙ t))))))
    ∙ sum-add cap (live_bit v) gone
    ∙ ap (λ (x : ℕ). x + sum cap gone) (sym after)
