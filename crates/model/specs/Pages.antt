-- What is done to one page. Document 01, 'Pages'. Definitions only. Assumes nothing.
use Rattle.std.specs.Prelude.{Bool, true, false, cond, not, ◌&&◌, List, [], ◌∷◌, ℕ, zero, suc, ◌+◌, ◌%◌, leb, ltb, eqb}
use Rattle.words.specs.First.{first_from_of}
use Rattle.words.specs.Word.{is_set, set_bit, clear_bit, count, span, lowest}
use Rattle.model.specs.Calls.{Answer, new, replaced, refused}
use Rattle.model.specs.Window.{Page, upd, cell_of}

-- a page with these words, and the cells of p
abbrev pub words : ℕ → ℕ → ℕ → Page → Page
words kind occupied filled p = record { kind = kind; occupied = occupied; filled = filled; sequences = p.sequences; values = p.values }

-- how many values it holds; whether it holds one
abbrev pub values_in_of : Page → ℕ
values_in_of p = count p.occupied

abbrev pub holds_value : Page → Bool
holds_value p = not (eqb p.occupied 0)

-- ---- one cell

-- sequence s and value v in cell c, which comes into use, of a page of this kind
abbrev pub put_cell : Page → ℕ → ℕ → ℕ → ℕ → Page
put_cell p kind c s v = record {
  kind = kind;
  occupied = set_bit p.occupied (s % 64);
  filled = set_bit p.filled c;
  sequences = upd p.sequences c s;
  values = upd p.values c v;
}

-- another value in cell c
abbrev pub set_value : Page → ℕ → ℕ → Page
set_value p c v =
    record { kind = p.kind; occupied = p.occupied; filled = p.filled; sequences = p.sequences; values = upd p.values c v }

-- cell c no longer in use; what it holds stays there
abbrev pub take_cell_of : Page → ℕ → Page
take_cell_of p c = words p.kind (clear_bit p.occupied (p.sequences c % 64)) (clear_bit p.filled c) p

-- "a new value takes the lowest cell not in use"
unfoldable pub free_cell_of : Page → ℕ
free_cell_of p = first_from_of (λ (c : ℕ). not (is_set p.filled c)) 64 0

-- ---- changes of kind

-- "Dense: the cell is the position": each value moves to the cell of its position; a cell that gets none keeps what it holds
unfoldable pub promoted : Page → Page
promoted p = record {
  kind = 2;
  occupied = p.occupied;
  filled = p.occupied;
  sequences = λ (j : ℕ). cond (is_set p.occupied j) (p.sequences (cell_of p j)) (p.sequences j);
  values = λ (j : ℕ). cond (is_set p.occupied j) (p.values (cell_of p j)) (p.values j);
}

-- the set bit of w that has k set bits below it
unfoldable pub nth_set : ℕ → ℕ → ℕ
nth_set w zero = lowest w 0
nth_set w (suc k) = lowest w (nth_set w k + 1)

-- "it becomes sparse, packed by rising position"; a cell past the values keeps what it holds
unfoldable pub packed : Page → Page
packed p = record {
  kind = 1;
  occupied = p.occupied;
  filled = span 0 (values_in_of p);
  sequences = λ (c : ℕ). cond (ltb c (values_in_of p)) (p.sequences (nth_set p.occupied c)) (p.sequences c);
  values = λ (c : ℕ). cond (ltb c (values_in_of p)) (p.values (nth_set p.occupied c)) (p.values c);
}

-- "An emptied page gets kind 0 and empty words"
abbrev pub unless_emptied_of : Page → Page
unless_emptied_of p = cond (holds_value p) p (words 0 0 0 p)

-- "After a removal that leaves a dense page with 1 to demote_at values: it becomes sparse .., demotions + 1"
abbrev pub demotes : ℕ → Page → Bool
demotes demote_at p = eqb p.kind 2 && (holds_value p && leb (values_in_of p) demote_at)

abbrev pub after_removal : ℕ → Page → Page
after_removal demote_at p = cond (demotes demote_at p) (packed p) (unless_emptied_of p)

-- ---- insert

-- the page after an insert, the answer, and whether it became dense
pub record Inserted : Type 0 where
  pub page : Page
  pub answer : Answer
  pub promotes : Bool

abbrev pub inserted : Page → Answer → Bool → Inserted
inserted p a promotes = record { page = p; answer = a; promotes = promotes }

-- "Insert at an occupied position: same sequence, the old value is replaced and returned; another sequence, refused."
abbrev pub insert_over : Page → ℕ → ℕ → ℕ → Inserted
insert_over p c s v = cond (eqb (p.sequences c) s) (inserted (set_value p c v) (replaced (p.values c)) false) (inserted p (refused 4) false)

-- "At a free position of a sparse page with N values: the page becomes dense, promotions + 1." A page of kind 0 becomes sparse.
abbrev pub insert_new_of : ℕ → Page → ℕ → ℕ → Inserted
insert_new_of n p s v =
    cond (eqb p.kind 2) (inserted (put_cell p 2 (s % 64) s v) new false)
    (cond (ltb (values_in_of p) n) (inserted (put_cell p 1 (free_cell_of p) s v) new false)
    (inserted (put_cell (promoted p) 2 (s % 64) s v) new true))

unfoldable pub insert_page : ℕ → Page → ℕ → ℕ → Inserted
insert_page n p s v = cond (ltb (cell_of p (s % 64)) 64) (insert_over p (cell_of p (s % 64)) s v) (insert_new_of n p s v)

-- ---- values taken out by rising position

-- the page after it, and the values in order
pub record PageDrained : Type 0 where
  pub page : Page
  pub out : List ℕ

abbrev pub page_drained : Page → List ℕ → PageDrained
page_drained p l = record { page = p; out = l }

-- of the n positions from j upwards where P holds, take out the first k values
unfoldable pub drain_page : ℕ → ℕ → (ℕ → Bool) → ℕ → Page → PageDrained
drain_page zero j P k p = page_drained p []
drain_page (suc n) j P zero p = page_drained p []
drain_page (suc n) j P (suc k) p = elim (P j && is_set p.occupied j) [
  | true ↦
      let d = drain_page n (suc j) P k (take_cell_of p (cell_of p j)) in
      page_drained d.page (p.values (cell_of p j) ∷ d.out)
  | false ↦ drain_page n (suc j) P (suc k) p
]
