-- iter, over plain variables: the pair of the next reachable cell, or done, with the reads. Assumes nothing.
use Rattle.std.proofs.Common.{◌≡◌, ℕ, ◌+◌, ◌-◌, ◌*◌, ◌/◌, ◌%◌, ◌<◌, ◌≤◌, cond, ltb, List, get_or, sym, refl, ap, ◌∙◌, arith, le-ltb, lt-ltb}
use Rattle.std.specs.Prelude.{Option, Some, None, unwrap_or}
use Rattle.window.proofs.MemoryLaws.{capacity-le}
use Rattle.words.specs.First.{first_from_of}
use Rattle.words.proofs.FirstLaws.{first-eq}
use Rattle.window.specs.declared.AdaptiveReceiverPacketWindow.{AdaptiveReceiverPacketWindow}
use Rattle.window.specs.Memory.{Memory, capacity}
use Rattle.model.specs.Calls.{Answer, pair, ended}
use Rattle.model.specs.Table.{Pair, pair_of}
use Rattle.model.specs.Window.{Window, Page, decode, capacity_of, is_reached, cell_pair, pair_in, reads_of, iter_step}
use Rattle.page_base.specs.Page.{part_of, cells}
use Rattle.page_base.proofs.PartLaws.{cells-part}
use Rattle.page_base.proofs.DecodeLaws.{page-at}
use Rattle.call_base.proofs.FitLaws.{at_bounds}

-- ---- by the cell c that was found from cell n on, with k reads

module _ (v : Window) (n c cap k : ℕ) (ec : cap ≡ capacity_of v) (e : c ≡ first_from_of (is_reached v) (cap - n) n) (ek : k ≡ reads_of cap n c) where
  abbrev answer : ℕ → ℕ → Answer
  answer end d = cond (ltb d end) (pair (cell_pair v d).sequence (cell_pair v d).value (d + 1) (reads_of end n d)) (ended (reads_of end n d))

  answer-is : answer cap c ≡ iter_step v n
  unfolding iter_step
  answer-is = ap (answer cap) e ∙ (λ i. answer (ec i) (first_from_of (is_reached v) (ec i - n) n))

  ended_is : cap ≤ c → ended k ≡ iter_step v n
  ended_is l = ap ended ek ∙ sym past ∙ answer-is
    where
      past : answer cap c ≡ ended (reads_of cap n c)
      past = rw (le-ltb c cap l)

  pair_is : c < cap → (p : Pair) → cell_pair v c ≡ p → pair p.sequence p.value (c + 1) k ≡ iter_step v n
  pair_is l p q = (λ i. pair (sym q i).sequence (sym q i).value (c + 1) (ek i)) ∙ sym inside ∙ answer-is
    where
      inside : answer cap c ≡ pair (cell_pair v c).sequence (cell_pair v c).value (c + 1) (reads_of cap n c)
      inside = rw (lt-ltb c cap l)

-- ---- by what the search gave: cell c, or none

module _ (v : Window) (n cap k : ℕ) (o : Option ℕ) (ec : cap ≡ capacity_of v) (e : unwrap_or o cap ≡ first_from_of (is_reached v) (cap - n) n)
    (ek : k ≡ reads_of cap n (unwrap_or o cap)) where
  pub iter-none : o ≡ None → ended k ≡ iter_step v n
  iter-none z = ended_is v n _ cap k ec e ek (omega (arith, ap (λ (x : Option ℕ). unwrap_or x cap) z))

  pub iter-some : (c : ℕ) → o ≡ Some c → c < cap → (p : Pair) → cell_pair v c ≡ p → pair p.sequence p.value (c + 1) k ≡ iter_step v n
  iter-some c z =
      let is = ap (λ (x : Option ℕ). unwrap_or x cap) z in
      pair_is v n c cap k ec (sym is ∙ e) (ek ∙ ap (reads_of cap n) is)

-- "done (also from capacity or more)"; document 02, S-2: "none from capacity or more"
pub iter-past : (v : Window) (n cap : ℕ) → cap ≡ capacity_of v → cap ≤ n → ended 0 ≡ iter_step v n
iter-past v n cap ec l =
    ended_is v n n cap 0 ec
    (first-eq (is_reached v) (cap - n) n n (record { from = omega arith; top = omega arith; held = λ k. absurd (omega arith); none = λ j a b. absurd (omega arith) }))
    (rw (le-ltb n cap l) refl)
    l

-- ---- the pair of a cell in the lent lists

-- cell q of a list is cell q % 64 of its part for page q / 64
cell_at : (xs : List ℕ) (q : ℕ) → cells (part_of (q / 64) xs) (q % 64) ≡ get_or xs q 0
cell_at xs q =
    let e : 64 * (q / 64) + q % 64 ≡ q = omega arith in
    ap (λ (f : ℕ → ℕ). f (q % 64)) (cells-part (q / 64) xs) ∙ rw (lt-ltb (q % 64) 64 (omega arith), e)

pub pair-at : (h : AdaptiveReceiverPacketWindow) (m : Memory) (q : ℕ) → q < capacity h.window_size
    → cell_pair (decode h m) q ≡ pair_of (get_or m.sequences q 0) (get_or m.values q 0)
pair-at h m q l =
    ap (λ (p : Page). pair_in p (q % 64)) (page-at h m (q / 64) (at_bounds h.window_size q l).page)
    ∙ (λ i. pair_of (cell_at m.sequences q i) (cell_at m.values q i))

pub capacity-is : (h : AdaptiveReceiverPacketWindow) (m : Memory) → capacity h.window_size ≡ capacity_of (decode h m)
unfolding decode
capacity-is h m = refl

-- what the tactics know of the next cell
pub ruleset iterating = (iter-past, iter-none, iter-some, pair-at, capacity-is, capacity-le)
