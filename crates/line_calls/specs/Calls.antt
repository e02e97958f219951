-- Which call a line makes, by its letter and fields. Document 01, 'The line program': "In this order they call new, insert, get, remove,
-- successor_after, first_from, exchange, remove_range, stranger, clear_bounded, release_retired, clear, and iter from 0 until done."
-- Document 02, S-1: "The line programs gain a (sequence), which sets the base .., and t (no field), which takes the front". Definitions
-- only. Assumes nothing.
use Rattle.std.specs.Prelude.{◌≡◌, Bool, true, cond, Option, None, Some, List, [], ℕ, leb, eqb, length, get_or}
use Rattle.std.proofs.Math.Option as maybe
use Rattle.line_text.specs.Lines.{Line}
use Rattle.window.specs.declared.AdaptiveReceiverPacketWindow.{AdaptiveReceiverPacketWindow}
use Rattle.window.specs.declared.answers.Step.{Step}
use Rattle.window.specs.Memory.{Memory}
use Rattle.window.specs.Lent.{Lent, found_in, left_in}
use Rattle.model.specs.Calls.{Call, insert, exchange, remove, remove_range, clear, clear_bounded, release_retired, set_base, take_front, ask, get, successor_after, first_from, stranger}
use Rattle.model.specs.Roles.{role_of}
use Rattle.model.specs.Contract.{State, Meets}
use Rattle.call_base.specs.Answers.{state_of, left_of}

-- the fields of a line, from the first on
abbrev pub first : Line → ℕ
first l = get_or l.fields 0 0

abbrev pub second : Line → ℕ
second l = get_or l.fields 1 0

abbrev pub third : Line → ℕ
third l = get_or l.fields 2 0

-- d, b, v and c; `listed`: whether the return list has 384 places
unfoldable pub range_call_of : Line → Bool → Option Call
range_call_of l listed =
    cond (eqb l.letter 100) (Some (remove_range (first l) (second l) listed))
    (cond (eqb l.letter 98) (Some (clear_bounded (first l) listed))
    (cond (eqb l.letter 118) (Some (release_retired (first l) listed))
    (cond (eqb l.letter 99) (Some (clear listed)) None)))

-- a and t, then those
unfoldable pub base_call_of : Line → Bool → Option Call
base_call_of l listed =
    cond (eqb l.letter 97) (Some (set_base (first l)))
    (cond (eqb l.letter 116) (Some take_front) (range_call_of l listed))

-- i, g, r, s, f, e, q, then those; none for n and l, which make no one call, and for any other letter
unfoldable pub call_of : Line → Bool → Option Call
call_of l listed =
    cond (eqb l.letter 105) (Some (insert (first l) (second l) listed))
    (cond (eqb l.letter 103) (Some (ask (get (first l))))
    (cond (eqb l.letter 114) (Some (remove (first l)))
    (cond (eqb l.letter 115) (Some (ask (successor_after (first l))))
    (cond (eqb l.letter 102) (Some (ask (first_from (first l))))
    (cond (eqb l.letter 101) (Some (exchange (first l) (second l)))
    (cond (eqb l.letter 113) (Some (ask (stranger (first l) (second l)))) (base_call_of l listed)))))))

-- what a line asks for: n new, l "iter from 0 until done", another letter its call; nothing for a letter that has none
pub data Command : Type 0 where
  create : (size n demote_at : ℕ) → Command
  listing : Command
  make : Call → Command
  nothing : Command

abbrev pub called : Option Call → Command
called None = nothing
called (Some c) = make c

-- the program's return list has 384 places
unfoldable pub command_of : Line → Command
command_of l =
    cond (eqb l.letter 110) (create (first l) (second l) (third l))
    (cond (eqb l.letter 108) listing (called (call_of l true)))

-- a return list as a call sees it: one that takes none sees an empty one
abbrev pub taken : maybe.Option Bool → List ℕ → List ℕ
taken maybe.none l = []
taken (maybe.some b) l = l

abbrev pub seen_by : Call → List ℕ → List ℕ
seen_by c l = taken (role_of c).listed l

-- a call that was made: it meets the contract of every call, and one without a return list leaves the program's as it was
pub record Makes (c : Call) (u : State) (l : List ℕ) (s : Step) (m : Memory) (l' : List ℕ) : Type 0 where
  pub meets : Meets c u (seen_by c l) (left_of s m (seen_by c l'))
  pub apart : (role_of c).listed ≡ maybe.none → l' ≡ l

-- what a letter did: its call, or nothing where it has none
abbrev pub Made : Option Call → State → List ℕ → Option Step → Memory → List ℕ → Type 0
Made (Some c) u l (Some s) m l' = Makes c u l s m l'
Made (Some c) u l None m l' = ⊥
Made None u l (Some s) m l' = ⊥
Made None u l None m l' = (m ≡ u.memory) × (l' ≡ l)

-- as a signature says it
abbrev pub MadeBy : (Bool → Option Call) → AdaptiveReceiverPacketWindow → (sequences values pages blocks returned : Lent) → Option Step → Type 0
MadeBy c w ss vs pages blocks l r =
    Made (c (leb 384 (length l.entry))) (state_of w (found_in ss vs pages blocks)) l.entry r (left_in ss vs pages blocks) l.exit
