-- The capacity: what it is in words, and what the code computes. Assumes nothing.
use mathlib.Core.Path.{◌≡◌, refl, sym, ap, ◌∙◌}
use mathlib.Core.Bool.{true≢false}
use Prim.Native.Nat.{ℕ, suc, ◌-◌, ◌*◌, ◌%◌, ◌^◌, ◌≤◌, ◌<◌}
use native.Mathlib.Omega.{arith}
use native.Mathlib.Decide.{dec_le}
use native.Mathlib.Nat.{mod-lt, one-mul, mod-eq_of_lt, sub-add_cancel}
use borrow.Author.Tests.{leb-true, le-leb, lt-leb}
use lib.Pow.{pow_mono, pow-lt, pow-add, mod-mod-pow}
use lib.Bits.{bit_and, and_mask}
use lib.Count.{count_leading_zeros, leading_top}
use Rattle.words.specs.First.{first_from_of}
use Rattle.words.proofs.FirstLaws.{IsFirst, first-is, first-eq}
use Rattle.window.specs.Memory.{covers, capacity, page_count_of, block_count_of}

-- the least power of two that is 64 or more and size or more: its exponent
pub exponent : (size : ℕ) → IsFirst (covers size) 6 16 (first_from_of (covers size) 10 6)
exponent size = first-is (covers size) 10 6

-- how the code's exponent is shown to be the definition's
pub capacity-eq : (size e : ℕ) → IsFirst (covers size) 6 16 e → 2 ^ e ≡ capacity size
unfolding capacity
capacity-eq size e i = ap (λ (k : ℕ). 2 ^ k) (first-eq (covers size) 10 6 e i)

-- window_size of 64 or less
pub capacity-small : (size : ℕ) → size ≤ 64 → 64 ≡ capacity size
capacity-small size h = capacity-eq size 6 (record { from = omega arith; top = omega arith; held = λ l. le-leb size 64 h; none = λ j a b. absurd (omega arith) })

-- a window_size above: 2 ^ (j + 1), where 2 ^ j is the highest power of two in window_size - 1
pub capacity-large : (size j : ℕ) → 64 < size → size ≤ 65536 → 2 ^ j ≤ size - 1 → size - 1 < 2 ^ suc j → 2 ^ suc j ≡ capacity size
capacity-large size j low high a b = capacity-eq size (suc j) (record {
  from = elim (dec_le 6 (suc j)) [ yes p ↦ p | no p ↦ absurd (omega (arith, pow_mono {i = suc j} {j = 6} (omega arith))) ];
  top = elim (dec_le (suc j) 16) [ yes p ↦ p | no p ↦ absurd (omega (arith, pow_mono {i = 16} {j = j} (omega arith))) ];
  held = λ l. le-leb size (2 ^ suc j) (omega arith);
  none = λ i l m. lt-leb size (2 ^ i) (omega (arith, pow_mono {i = i} {j = j} (omega arith)));
})

-- what `1 << (32 - leading_zeros(window_size - 1))` computes
pub capacity-code : (size : ℕ) → 64 < size → size ≤ 65536 → (1 * 2 ^ (32 - count_leading_zeros 32 (size - 1))) % 2 ^ 64 ≡ capacity size
capacity-code size low high =
    let t = leading_top 32 (size - 1) (omega arith) (omega arith) in
    let j = t.0 in
    let e : 32 - count_leading_zeros 32 (size - 1) ≡ suc j = omega (arith, t.1) in
    let c = capacity-large size j low high t.2 t.3 in
    rw (e, one-mul (2 ^ suc j)) (mod-eq_of_lt (pow-lt {i = suc j} {j = 64} (omega (arith, t.1))) ∙ c)

-- ---- what callers use
pub capacity-power : (size : ℕ) → (e : ℕ) × (6 ≤ e) × (e ≤ 16) × (capacity size ≡ 2 ^ e)
unfolding capacity
capacity-power size = let i = exponent size in (first_from_of (covers size) 10 6, i.from, i.top, refl)

-- window_size fits in
pub size-le : (size : ℕ) → size ≤ 65536 → size ≤ capacity size
unfolding capacity
size-le size h =
    let i = exponent size in
    let e = first_from_of (covers size) 10 6 in
    elim (dec_le 16 e) [ yes p ↦ omega (arith, pow_mono {i = 16} {j = e} p) | no p ↦ leb-true size (2 ^ e) (i.held (omega arith)) ]

-- and no smaller power of two from 64 on would do
pub capacity-least : (size k : ℕ) → 6 ≤ k → size ≤ 2 ^ k → k ≤ 16 → capacity size ≤ 2 ^ k
unfolding capacity
capacity-least size k low h high =
    let i = exponent size in
    let e = first_from_of (covers size) 10 6 in
    elim (dec_le e k) [ yes p ↦ pow_mono p | no p ↦ absurd (true≢false (sym (le-leb size (2 ^ k) h) ∙ i.none k low (omega arith))) ]

pub capacity-ge : (size : ℕ) → 64 ≤ capacity size
capacity-ge size = let p = capacity-power size in rw p.3 (pow_mono {i = 6} {j = p.0} p.1)

pub capacity-le : (size : ℕ) → capacity size ≤ 65536
capacity-le size = let p = capacity-power size in rw p.3 (pow_mono {i = p.0} {j = 16} p.2)

-- whole pages
pub capacity-pages : (size : ℕ) → capacity size ≡ 64 * page_count_of size
capacity-pages size =
    let p = capacity-power size in
    let e = p.0 in
    let q : 2 ^ e ≡ 2 ^ (e - 6) * 64 = ap (λ (k : ℕ). 2 ^ k) (sym (sub-add_cancel p.1)) ∙ pow-add 2 (e - 6) 6 in
    omega (arith, p.3)

pub page-count-ge : (size : ℕ) → 1 ≤ page_count_of size
page-count-ge size = omega (arith, capacity-ge size)

pub page-count-le : (size : ℕ) → page_count_of size ≤ 1024
page-count-le size = omega (arith, capacity-le size)

pub block-count-le : (size : ℕ) → block_count_of size ≤ 16
block-count-le size = omega (arith, capacity-le size)

-- what `sequence & mask` computes
pub position-code : (size sequence : ℕ) → bit_and sequence (capacity size - 1) ≡ sequence % capacity size
position-code size sequence = let p = capacity-power size in rw p.3 (and_mask sequence p.0)

pub position-lt : (size sequence : ℕ) → sequence % capacity size < capacity size
position-lt size sequence = mod-lt sequence (omega (arith, capacity-ge size))

-- a sequence's position in its page
pub position-slot : (size sequence : ℕ) → sequence % capacity size % 64 ≡ sequence % 64
position-slot size sequence =
    let p = capacity-power size in
    ap (λ (c : ℕ). sequence % c % 64) (p.3 ∙ ap (λ (k : ℕ). 2 ^ k) (sym (sub-add_cancel p.1))) ∙ mod-mod-pow sequence (p.0 - 6) 6
