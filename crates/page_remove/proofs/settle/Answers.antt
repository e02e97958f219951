-- The page by whether it is empty, and then by its kind and the number of its values, which the answer carries. Assumes nothing.
use Rattle.std.proofs.Common.{ℕ, ◌≡◌, ◌<◌, ◌∙◌, ap, true, arith, rules}
use Rattle.words.proofs.CountLaws.{count-zero}
use Rattle.words.specs.Word.{count}
use Rattle.model.specs.Window.{Page}
use Rattle.page_remove.proofs.SettleLaws.{settled, settle-empty, settle-demoted}
use Rattle.page_remove.proofs.settle.Goals as goal

positive : (k : ℕ) → (k ≡ 0 → ⊥) → 0 < k
positive k h = omega arith

pub returns-then-emptied : goal.returns-then-emptied
returns-then-emptied c = settle-empty _ _ c.if-emptied.true

pub demote-words-requires : goal.demote-words-requires
demote-words-requires c =
    let occupied = c.args.w.occupied in
    (search rules, search rules, positive (count occupied) (λ z. c.if-emptied.false (count-zero 64 occupied (omega arith) z)))

pub returns-then-count-demote_at : goal.returns-then-count-demote_at
returns-then-count-demote_at c =
    ap (λ (p : Page). settled p c.count-count.result true) c.demote-words.ensures
    ∙ settle-demoted _ _ _ c.count-count.ensures c.if-w-eq-DENSE.true c.if-emptied.false c.if-count-demote_at.true
