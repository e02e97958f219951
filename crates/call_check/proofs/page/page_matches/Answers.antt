-- The rest of the clauses is the test of a dense page (MatchLaws). Assumes nothing.
use Rattle.std.proofs.Common.{◌≡◌, ℕ, Bool, true, false, not, eqb, ◌⊎◌, inl, inr, ap, sym, ◌∙◌, true≢false, ne_eqb, eq-eqb}
use Rattle.block_marks.specs.Marks.{page_retired_of}
use Rattle.call_check.proofs.MatchLaws.{matches}
use Rattle.call_check.proofs.page.page_matches.Goals as goal

-- a page with a mark holds a value: an empty one with a mark was told
holds : (o : ℕ) (b : Bool) → ((o ≡ 0) × (b ≡ false)) ⊎ (o ≡ 0 → ⊥) → b ≡ true → not (eqb o 0) ≡ true
holds o b (inl p) e = absurd (true≢false (sym e ∙ p.1))
holds o b (inr n) e = ap not (ne_eqb o 0 n)

pub returns : goal.returns
unfolding page_retired_of
returns c =
    let s = c.args in
    let noted = rw c.if-not-bit_matches.false at c.bit_matches.ensures in
    matches s.w s.words s.block s.page noted (λ m. holds s.words.occupied c.bit-marked.result c.else-words-eq0.either (c.bit-marked.ensures ∙ eq-eqb _ 1 m)) _ (cc) _ c.dense_enough.ensures
