-- Whether there is a place for a line. Assumes nothing.
use Rattle.std.proofs.Common.{◌≡◌, ℕ, ◌+◌, ◌*◌, ◌≤◌, Bool, true, ◌&&◌, leb, List, sym, ◌∙◌, true≢false, le-leb, leb-true}
use Rattle.words.proofs.CaseLaws.{both}
use Rattle.line_text.specs.PrintContracts.{Puts}
use Rattle.line_output.specs.Promises.{room_for, PutsIf}

-- ---- what a test leads to

module _ (buffer at list count each : ℕ) where
  pub record Room : Type 0 where
    pub few : count ≤ 4096
    pub listed : count ≤ list
    pub placed : at + (128 + each * count) ≤ buffer

  room-is : room_for buffer at list count each ≡ true → Room
  unfolding room_for
  room-is e =
      let a = both (leb count 4096) (leb count list && leb (at + (128 + each * count)) buffer) e in
      let b = both (leb count list) (leb (at + (128 + each * count)) buffer) a.1 in
      record { few = leb-true _ _ a.0; listed = leb-true _ _ b.0; placed = leb-true _ _ b.1 }

  -- by the test of the code
  pub room-there : (b : Bool) → b ≡ room_for buffer at list count each → b ≡ true → Room
  room-there b e t = room-is (sym e ∙ t)

-- there is a place, and the bytes are put
pub with-room : (room : Bool) (at r : ℕ) (bytes out out' : List ℕ) → room ≡ true → Puts at bytes out r out' → PutsIf room at bytes out r out'
with-room room at r bytes out out' e p = record {
  puts = λ h. p;
  end = λ h. absurd (true≢false (sym e ∙ h));
  stays = λ h. absurd (true≢false (sym e ∙ h));
}

-- pairs of two lists
pub room-for-both : (b room : Bool) (values count : ℕ) → b ≡ room → b ≡ true → count ≤ values → room && leb count values ≡ true
room-for-both b room values count e t l = rw (sym e ∙ t, le-leb count values l)
