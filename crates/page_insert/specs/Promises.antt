-- What the functions promise: on a page whose values are in their places, what the model's definitions say. On any other page they
-- end and stay inside the two parts. Definitions only. Assumes nothing.
use Rattle.std.specs.Prelude.{◌≡◌, ◌⊎◌, IfErr, List, ℕ}
use Rattle.words.specs.Word.{span}
use Rattle.window.specs.declared.refusals.Refusal.TheVariants.{Occupied, Unsound}
use Rattle.model.specs.Pages as model
use Rattle.page_base.specs.declared.PageWords.{PageWords}
use Rattle.page_base.specs.Page.{page, Placed}
use Rattle.page_insert.specs.declared.Inserted.{Inserted}
use Rattle.page_insert.specs.Insert.{inserted_of}

-- a sparse page whose first n cells are in use
pub record Promotes (n : ℕ) (w : PageWords) (ss vs : List ℕ) (r : PageWords) (ss' vs' : List ℕ) : Type 0 where
  pub after : Placed n (page w ss vs) → w.filled ≡ span 0 n → page r ss' vs' ≡ model.promoted (page w ss vs)

-- on any page, with c the cell of the value
pub record Replaces (w : PageWords) (ss vs : List ℕ) (c s v : ℕ) (r : Inserted) (vs' : List ℕ) : Type 0 where
  pub refuses : IfErr r.answer (λ why. why ≡ Occupied)
  pub gives : inserted_of r ss vs' ≡ model.insert_over (page w ss vs) c s v

-- a refusal is Unsound on any page
pub record InsertsNew (n : ℕ) (w : PageWords) (ss vs : List ℕ) (s v : ℕ) (r : Inserted) (ss' vs' : List ℕ) : Type 0 where
  pub refuses : IfErr r.answer (λ why. why ≡ Unsound)
  pub gives : Placed n (page w ss vs) → inserted_of r ss' vs' ≡ model.insert_new_of n (page w ss vs) s v

-- a refusal is Occupied or Unsound on any page
pub record Inserts (n : ℕ) (w : PageWords) (ss vs : List ℕ) (s v : ℕ) (r : Inserted) (ss' vs' : List ℕ) : Type 0 where
  pub refuses : IfErr r.answer (λ why. (why ≡ Occupied) ⊎ (why ≡ Unsound))
  pub gives : Placed n (page w ss vs) → inserted_of r ss' vs' ≡ model.insert_page n (page w ss vs) s v
