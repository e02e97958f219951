-- What an insert's steps give. Definitions only. Assumes nothing.
use Rattle.std.specs.Prelude.{Result, Ok, Err, Bool, true, false, not, List, ℕ, zero, suc, ◌%◌, get_or, set}
use Rattle.words.specs.First.{first_from_of}
use Rattle.words.specs.Word.{is_set}
use Rattle.window.specs.declared.refusals.Refusal.{Refusal}
use Rattle.window.specs.Refusals.{refusal_number_of}
use Rattle.model.specs.Calls.{Answer, new, replaced, refused}
use Rattle.model.specs.Pages as model
use Rattle.page_base.specs.Page.{page}
use Rattle.page_insert.specs.declared.InsertAnswer.{InsertAnswer}
use Rattle.page_insert.specs.declared.InsertAnswer.TheVariants.{New, Promoted, Replaced}
use Rattle.page_insert.specs.declared.Inserted.{Inserted}

-- document 01's answer for each answer of an insert into a page, and for its refusals: 4 at an occupied position, 7 on an unsound page
abbrev pub answer_of : Result InsertAnswer Refusal → Answer
answer_of (Ok New) = new
answer_of (Ok Promoted) = new
answer_of (Ok (Replaced v)) = replaced v
answer_of (Err why) = refused (refusal_number_of why)

-- whether the page became dense
abbrev pub promotes : Result InsertAnswer Refusal → Bool
promotes (Ok New) = false
promotes (Ok Promoted) = true
promotes (Ok (Replaced v)) = false
promotes (Err why) = false

-- what an insert leaves: the page, its answer, and whether it became dense
abbrev pub inserted_of : Inserted → List ℕ → List ℕ → model.Inserted
inserted_of r ss vs = model.inserted (page r.words ss vs) (answer_of r.answer) (promotes r.answer)

-- "the lowest cell not in use", of a page's filled word
unfoldable pub free_of : ℕ → ℕ
free_of filled = first_from_of (λ (c : ℕ). not (is_set filled c)) 64 0

-- the first n of `from`, each written to the position of its sequence
unfoldable pub spread : List ℕ → List ℕ → ℕ → List ℕ → List ℕ
spread ss from zero list = list
spread ss from (suc c) list = set (spread ss from c list) (get_or ss c 0 % 64) (get_or from c 0)
