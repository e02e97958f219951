-- The bytes of an output line. Document 01, 'The line program': "Each output line: letter, answer, len, retired_held, promotions,
-- demotions, then dropped values, that is the return list (for l, sequence:value pairs)." Definitions only. Assumes nothing.
use Rattle.std.specs.Prelude.{ℕ, List, [], ◌∷◌, ◌++◌, length}
use Rattle.line_text.specs.Output.{digits, tabbed, paired}
use Rattle.window.specs.declared.AdaptiveReceiverPacketWindow.{AdaptiveReceiverPacketWindow}
use Rattle.model.specs.Calls.{Answer, done, new, replaced, absent, found, pair, ended, released, refused}
use Rattle.model.specs.Steps.{demotions_of}

-- "Answers: `.` nothing, `+` new, `=V` replaced V, `-` absent, `!k` refusal k, v gives released:units, l the pair count, else the
-- number." A pair is shown by its sequence. In bytes: . 46, + 43, = 61, - 45, ! 33, : 58.
unfoldable pub answer_bytes : Answer → List ℕ
answer_bytes done = 46 ∷ []
answer_bytes new = 43 ∷ []
answer_bytes (replaced v) = 61 ∷ digits v
answer_bytes absent = 45 ∷ []
answer_bytes (found n) = digits n
answer_bytes (pair s v next reads) = digits s
answer_bytes (ended reads) = 46 ∷ []
answer_bytes (released values units) = digits values ++ (58 ∷ digits units)
answer_bytes (refused k) = 33 ∷ digits k

-- "len, retired_held, promotions, demotions"; document 02, S-5: "their sum, modulo 2^64, is the count .. printed"
unfoldable pub count_bytes : AdaptiveReceiverPacketWindow → List ℕ
count_bytes w = tabbed (w.len ∷ w.retired_held ∷ w.promotions ∷ demotions_of w ∷ [])

-- the letter, a tab, the answer, and the counts
abbrev pub head_bytes : ℕ → Answer → AdaptiveReceiverPacketWindow → List ℕ
head_bytes letter a w = letter ∷ 9 ∷ (answer_bytes a ++ count_bytes w)

-- "then dropped values, that is the return list"; lines end in a line feed, 10
abbrev pub line_bytes : ℕ → Answer → AdaptiveReceiverPacketWindow → List ℕ → List ℕ
line_bytes letter a w dropped = head_bytes letter a w ++ (tabbed dropped ++ (10 ∷ []))

-- "(for l, sequence:value pairs)", "l the pair count"; l is 108
abbrev pub list_bytes : AdaptiveReceiverPacketWindow → List ℕ → List ℕ → List ℕ
list_bytes w sequences values = head_bytes 108 (found (length sequences)) w ++ (paired sequences values ++ (10 ∷ []))

-- "prints `?` alone": ? is 63
abbrev pub unknown_bytes : List ℕ
unknown_bytes = 63 ∷ 10 ∷ []
