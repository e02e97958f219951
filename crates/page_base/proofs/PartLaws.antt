-- Cells and parts: reading a cell, writing one, one page's part put back into the whole list. Assumes nothing.
use mathlib.Core.Path.{◌≡◌, sym, ap, ◌∙◌}
use mathlib.Core.List.{List, ◌++◌}
use Prim.Native.Nat.{ℕ, ◌+◌, ◌*◌, ◌-◌, ◌≤◌, ◌<◌}
use native.Mathlib.Omega.{arith}
use native.Mathlib.Decide.{ℕ_discrete, dec_lt}
use lib.Dec.{ltb}
use lib.ListN.{length, take, drop, get_or, set, length-take, length-drop, length-append, get_or-append, take-append-drop}
use lib.Seq.{length-take-le, take_at, drop_at, get_or-take, get_or-drop, get_or-append-add, ext_get_or, get_or-set_same, get_or-set_other}
use borrow.Author.Tests.{eq-eqb, ne_eqb, lt-ltb, le-ltb, ltb-true}
use Rattle.words.proofs.CaseLaws.{bool}
use Rattle.window.specs.Memory.{capacity, page_count_of}
use Rattle.window.proofs.MemoryLaws.{capacity-pages}
use Rattle.model.specs.Window.{upd, cells_at}
use Rattle.model.specs.Pages.{set_value}
use Rattle.page_base.specs.declared.PageWords.{PageWords}
use Rattle.page_base.specs.Page.{cells, part_of, with_part, page}

-- ---- cells

pub cell_in : (xs : List ℕ) (c : ℕ) → c < 64 → cells xs c ≡ get_or xs c 0
unfolding cells
cell_in xs c h = rw (lt-ltb c 64 h)

pub cell-past : (xs : List ℕ) (c : ℕ) → 64 ≤ c → cells xs c ≡ 0
unfolding cells
cell-past xs c h = rw (le-ltb c 64 h)

-- one cell written
pub cells-set : (xs : List ℕ) (c v : ℕ) → length xs ≡ 64 → c < 64 → cells (set xs c v) ≡ upd (cells xs) c v
cells-set xs c v long h = λ i j. each j i
  where
    other : (j : ℕ) → (j ≡ c → ⊥) → cells (set xs c v) j ≡ cells xs j
    other j q =
        elim (dec_lt j 64) [
          | yes l ↦ cell_in (set xs c v) j l ∙ get_or-set_other xs c j v 0 q ∙ sym (cell_in xs j l)
          | no l ↦ cell-past (set xs c v) j (omega arith) ∙ sym (cell-past xs j (omega arith))
        ]

    each : (j : ℕ) → cells (set xs c v) j ≡ upd (cells xs) c v j
    each j =
        elim (ℕ_discrete j c) [
          | yes q ↦ rw (eq-eqb j c q, q) (cell_in (set xs c v) c h ∙ get_or-set_same xs c v 0 (omega arith))
          | no q ↦ rw (ne_eqb j c q) (other j q)
        ]

-- ---- parts

-- the cells of a page's part are the page's cells in the whole list
pub cells-part : (g : ℕ) (xs : List ℕ) → cells (part_of g xs) ≡ cells_at xs g
unfolding cells part_of
cells-part g xs = λ i c. each c i
  where
    each : (c : ℕ) → cells (part_of g xs) c ≡ cells_at xs g c
    each c = bool (ltb c 64)
        (λ e. rw e (get_or-take 64 (drop (64 * g) xs) c 0 (ltb-true c 64 e) ∙ get_or-drop (64 * g) xs c 0))
        (λ e. rw e)

pub part_length : (g : ℕ) (xs : List ℕ) → 64 * g + 64 ≤ length xs → length (part_of g xs) ≡ 64
unfolding part_of
part_length g xs h = simp (length-take, length-drop) (omega arith)

-- the part that stands there put back
pub part-own : (g : ℕ) (xs : List ℕ) → with_part g xs (part_of g xs) ≡ xs
unfolding part_of with_part
part-own g xs = ap (λ (l : List ℕ). take (64 * g) xs ++ l) (take-append-drop 64 (drop (64 * g) xs)) ∙ take-append-drop (64 * g) xs

module _ (g : ℕ) (xs ys : List ℕ) (within : 64 * g + 64 ≤ length xs) (full : length ys ≡ 64) where
  front : length (take (64 * g) xs) ≡ 64 * g
  front = length-take-le (64 * g) xs (omega arith)

  at_before : (j : ℕ) → j < 64 * g → get_or (with_part g xs ys) j 0 ≡ get_or xs j 0
  unfolding with_part
  at_before j h = get_or-append (take (64 * g) xs) (ys ++ drop 64 (drop (64 * g) xs)) 0 j (omega (arith, front)) ∙ get_or-take (64 * g) xs j 0 h

  at_after : (j : ℕ) → 64 * g + 64 ≤ j → get_or (with_part g xs ys) j 0 ≡ get_or xs j 0
  unfolding with_part
  at_after j h =
      let i = j - (64 * g + 64) in
      let e : j ≡ length (take (64 * g) xs) + (length ys + i) = omega (arith, front) in
      let k : 64 * g + (64 + i) ≡ j = omega arith in
      ap (λ (k : ℕ). get_or (take (64 * g) xs ++ (ys ++ drop 64 (drop (64 * g) xs))) k 0) e
      ∙ get_or-append-add (take (64 * g) xs) (ys ++ drop 64 (drop (64 * g) xs)) (length ys + i) 0
      ∙ get_or-append-add ys (drop 64 (drop (64 * g) xs)) i 0
      ∙ get_or-drop 64 (drop (64 * g) xs) i 0 ∙ get_or-drop (64 * g) xs (64 + i) 0 ∙ ap (λ (k : ℕ). get_or xs k 0) k

  pub with-part-length : length (with_part g xs ys) ≡ length xs
  unfolding with_part
  with-part-length = simp (length-append, length-drop) (omega (arith, front))

  -- the part that was put back
  pub part_same : part_of g (with_part g xs ys) ≡ ys
  unfolding part_of with_part
  part_same = rw (drop_at (take (64 * g) xs) (ys ++ drop 64 (drop (64 * g) xs)) (64 * g) front) (take_at ys (drop 64 (drop (64 * g) xs)) 64 full)

  -- every other page
  pub cells-other : (h : ℕ) → (h ≡ g → ⊥) → cells_at (with_part g xs ys) h ≡ cells_at xs h
  cells-other h q = λ i c. each c i
    where
      each : (c : ℕ) → cells_at (with_part g xs ys) h c ≡ cells_at xs h c
      each c = bool (ltb c 64)
          (λ e.
          let l = ltb-true c 64 e in
          rw e (elim (dec_lt h g) [ yes a ↦ at_before (64 * h + c) (omega arith) | no a ↦ at_after (64 * h + c) (omega arith) ]))
          (λ e. rw e)

  -- what lies past a page above it
  pub with-part-past : (n : ℕ) → g < n → drop (64 * n) (with_part g xs ys) ≡ drop (64 * n) xs
  with-part-past n h =
      ext_get_or 0 _ _ (simp (length-drop, with-part-length))
      (λ i m. get_or-drop (64 * n) (with_part g xs ys) i 0 ∙ at_after (64 * n + i) (omega arith) ∙ sym (get_or-drop (64 * n) xs i 0))

-- what lies past a window of this size

pub part-past : (size g : ℕ) (xs ys : List ℕ) → g < page_count_of size → capacity size ≤ length xs → length ys ≡ 64
    → drop (capacity size) (with_part g xs ys) ≡ drop (capacity size) xs
part-past size g xs ys l long full =
    let c = capacity-pages size in
    ap (λ (k : ℕ). drop k (with_part g xs ys)) c ∙ with-part-past g xs ys (omega arith) full (page_count_of size) l ∙ ap (λ (k : ℕ). drop k xs) (sym c)

-- ---- a page with one value written

pub page-set-value : (w : PageWords) (ss vs : List ℕ) (c v : ℕ) → length vs ≡ 64 → c < 64 → page w ss (set vs c v) ≡ set_value (page w ss vs) c v
page-set-value w ss vs c v long h = λ i. record {
  kind = w.kind;
  occupied = w.occupied;
  filled = w.filled;
  sequences = cells ss;
  values = cells-set vs c v long h i;
}
