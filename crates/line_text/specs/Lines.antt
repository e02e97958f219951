-- What a line says. Document 01, 'The line program'. A line is a list of bytes, without its line feed. Definitions only.
-- Assumes nothing.
use Rattle.std.specs.Prelude.{Bool, true, false, cond, Option, None, Some, List, [], ◌∷◌, ℕ, eqb, length}
use Rattle.line_text.specs.Fields.{field_of}

-- b before the first part
abbrev pub joined : ℕ → List (List ℕ) → List (List ℕ)
joined b [] = (b ∷ []) ∷ []
joined b (p ∷ ps) = (b ∷ p) ∷ ps

-- bytes parted by a byte: those up to the first such byte, and the same of what comes after it
unfoldable pub parts : ℕ → List ℕ → List (List ℕ)
parts sep [] = [] ∷ []
parts sep (b ∷ bs) = elim (eqb b sep) [ true ↦ [] ∷ parts sep bs | false ↦ joined b (parts sep bs) ]

-- "Lines end in a line feed; the last of the input may lack it." The lines of an input that have ended, of its parts by line feeds: all
-- but the last
unfoldable pub ended : List (List ℕ) → List (List ℕ)
ended [] = []
ended (p ∷ []) = []
ended (p ∷ q ∷ ps) = p ∷ ended (q ∷ ps)

-- what has come of the next: the last part
unfoldable pub waiting : List (List ℕ) → List ℕ
waiting [] = []
waiting (p ∷ []) = p
waiting (p ∷ q ∷ ps) = waiting (q ∷ ps)

abbrev pub both : Option ℕ → Option (List ℕ) → Option (List ℕ)
both None rest = None
both (Some n) None = None
both (Some n) (Some ns) = Some (n ∷ ns)

-- the numbers that fields write; none if one is not written as a field is
unfoldable pub numbers : List (List ℕ) → Option (List ℕ)
numbers [] = Some []
numbers (p ∷ ps) = both (field_of p) (numbers ps)

-- a letter is among others
unfoldable pub among : ℕ → List ℕ → Bool
among b [] = false
among b (c ∷ cs) = cond (eqb b c) true (among b cs)

-- "Command letters: n (window_size, N, demote_at), i (sequence, value), g, r, s, f (sequence), e (sequence, value), d, q (first,
-- last), b, v (number), c, l (no field)"; document 02, S-1: "a (sequence) .. and t (no field)": how many fields the letter takes; none
-- for another letter. In bytes: n 110, i 105, g 103, r 114, s 115, f 102, e 101, d 100, q 113, b 98, v 118, c 99, l 108, a 97, t 116.
unfoldable pub fields_of_letter : ℕ → Option ℕ
fields_of_letter b =
    cond (among b (110 ∷ [])) (Some 3)
    (cond (among b (105 ∷ 101 ∷ 100 ∷ 113 ∷ [])) (Some 2)
    (cond (among b (103 ∷ 114 ∷ 115 ∷ 102 ∷ 98 ∷ 118 ∷ 97 ∷ [])) (Some 1)
    (cond (among b (99 ∷ 108 ∷ 116 ∷ [])) (Some 0)
    None)))

-- a call: its letter and its fields
pub record Line : Type 0 where
  pub letter : ℕ
  pub fields : List ℕ

abbrev pub line : ℕ → List ℕ → Line
line b ns = record { letter = b; fields = ns }

-- as many fields as the letter takes
abbrev pub counted : ℕ → Option ℕ → Option (List ℕ) → Option Line
counted b None ns = None
counted b (Some k) None = None
counted b (Some k) (Some ns) = cond (eqb (length ns) k) (Some (line b ns)) None

-- "A line with another letter, a wrong count of fields, or a field not so written": none
abbrev pub of_parts : List (List ℕ) → Option Line
of_parts [] = None
of_parts ([] ∷ ps) = None
of_parts ((b ∷ []) ∷ ps) = counted b (fields_of_letter b) (numbers ps)
of_parts ((b ∷ c ∷ bs) ∷ ps) = None

-- "fields parted by tabs"
unfoldable pub line_of : List ℕ → Option Line
line_of bytes = of_parts (parts 9 bytes)
