-- Lines noted one after another. Assumes nothing.
use Rattle.std.proofs.Common.{◌≡◌, ℕ, List, [], ◌∷◌, ◌++◌, refl}
use Rattle.model.specs.Window.{Window}
use Rattle.line_program.specs.declared.notes.Notes.{Notes}
use Rattle.line_program.specs.Program.{line_does, lines_do}
use Rattle.line_program.specs.Notes.{noted_line, noted_lines}

pub noted_one : (k : Window) (n : Notes) (l : List ℕ) → noted_lines k n (l ∷ []) ≡ noted_line k n l
unfolding noted_lines
noted_one k n l = refl

pub noted-on : (k : Window) (n : Notes) (xs ys : List (List ℕ)) → noted_lines k n (xs ++ ys) ≡ noted_lines (lines_do k xs).after (noted_lines k n xs) ys
unfolding noted_lines lines_do
noted-on k n [] ys = refl
noted-on k n (x ∷ xs) ys = noted-on (line_does k x).after (noted_line k n x) xs ys
