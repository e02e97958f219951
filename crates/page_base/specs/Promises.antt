-- What the functions that find and read promise: on any page a cell is below 64, so that a caller stays inside; on a page whose
-- values are in their places, what the definitions of the model say. Definitions only. Assumes nothing.
use Rattle.std.specs.Prelude.{◌≡◌, cond, List, ℕ, ◌%◌, ◌<◌, Option, None, Some, IfSome, unwrap_or}
use Rattle.model.specs.Calls.{Answer, absent, found}
use Rattle.model.specs.Table.{value_if, finds}
use Rattle.model.specs.Window.{Page, cell_of, stands_at}
use Rattle.model.specs.Pages.{set_value}
use Rattle.page_base.specs.declared.PageWords.{PageWords}
use Rattle.page_base.specs.Page.{page, Placed}

-- the answer of document 01 for each answer of a read
abbrev pub read_answer_of : Option ℕ → Answer
read_answer_of None = absent
read_answer_of (Some v) = found v

-- "found by its sequence": the cell that holds sequence s; 64 if none does
unfoldable pub cell_with : Page → ℕ → ℕ
cell_with p s = cond (finds s (stands_at p (s % 64))) (cell_of p (s % 64)) 64

-- get: what the page gives for sequence s
abbrev pub read_of : Page → ℕ → Answer
read_of p s = value_if s (stands_at p (s % 64))

-- exchange: the page with value v for sequence s, if it holds s
unfoldable pub exchanged : Page → ℕ → ℕ → Page
exchanged p s v = cond (finds s (stands_at p (s % 64))) (set_value p (cell_of p (s % 64)) v) p

module _ (n : ℕ) (w : PageWords) (ss : List ℕ) where
  pub record SlotAt (j : ℕ) (r : Option ℕ) : Type 0 where
    pub bounded : IfSome r (λ c. c < 64)
    pub cell : (vs : List ℕ) → Placed n (page w ss vs) → unwrap_or r 64 ≡ cell_of (page w ss vs) j

  pub record Finds (s : ℕ) (r : Option ℕ) : Type 0 where
    pub bounded : IfSome r (λ c. c < 64)
    pub cell : (vs : List ℕ) → Placed n (page w ss vs) → unwrap_or r 64 ≡ cell_with (page w ss vs) s

  pub record Reads (vs : List ℕ) (s : ℕ) (r : Option ℕ) : Type 0 where
    pub answer : Placed n (page w ss vs) → read_answer_of r ≡ read_of (page w ss vs) s

  pub record Exchanges (vs : List ℕ) (s v : ℕ) (r : Option ℕ) (vs' : List ℕ) : Type 0 where
    pub answer : Placed n (page w ss vs) → read_answer_of r ≡ read_of (page w ss vs) s
    pub after : Placed n (page w ss vs) → page w ss vs' ≡ exchanged (page w ss vs) s v
