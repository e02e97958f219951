-- The bytes of an answer, of the counts and of a head: how they are put, and how many they are. Assumes nothing.
use Rattle.std.proofs.Common.{◌≡◌, ℕ, ◌+◌, ◌*◌, ◌≤◌, List, [], ◌∷◌, ◌++◌, length, take, ap, subst, append-nil, arith, length-append, length-take-le}
use Rattle.line_text.specs.Output.{digits, tabbed, paired}
use Rattle.line_text.specs.PrintContracts.{Puts}
use Rattle.line_text.proofs.PrintLaws.{tabbed-none, tabbed-cons, tabbed-few, paired-few, at-most-20, marked-few}
use Rattle.window.specs.declared.AdaptiveReceiverPacketWindow.{AdaptiveReceiverPacketWindow}
use Rattle.model.specs.Steps.{demotions_of}
use Rattle.model.specs.Calls.{Answer, done, new, replaced, absent, found, pair, ended, released, refused}
use Rattle.line_output.specs.Output.{answer_bytes, count_bytes, head_bytes}

answer-few : (a : Answer) → length (answer_bytes a) ≤ 41
unfolding answer_bytes
answer-few done = omega arith
answer-few new = omega arith
answer-few (replaced v) = omega (arith, marked-few 61 v)
answer-few absent = omega arith
answer-few (found n) = omega (arith, at-most-20 n)
answer-few (pair s v next reads) = omega (arith, at-most-20 s)
answer-few (ended reads) = omega arith
answer-few (released values units) = omega (arith, length-append (digits values) (58 ∷ digits units), at-most-20 values, marked-few 58 units)
answer-few (refused k) = omega (arith, marked-few 33 k)

pub answer-end : (at r : ℕ) (a : Answer) (out out' : List ℕ) → Puts at (answer_bytes a) out r out' → r ≤ at + 41
answer-end at r a out out' p = omega (arith, p.end, answer-few a)

-- a count that is another's
pub put_count : (at n k r : ℕ) (out out' : List ℕ) → n ≡ k → Puts at (9 ∷ digits n) out r out' → Puts at (9 ∷ digits k) out r out'
put_count at n k r out out' e = subst (λ (x : ℕ). Puts at (9 ∷ digits x) out r out') e

module _ (w : AdaptiveReceiverPacketWindow) where
  pub counts-are : count_bytes w ≡ (9 ∷ digits w.len) ++ ((9 ∷ digits w.retired_held) ++ ((9 ∷ digits w.promotions) ++ (9 ∷ digits (demotions_of w))))
  unfolding count_bytes
  counts-are =
      rw (tabbed-cons w.len (w.retired_held ∷ w.promotions ∷ demotions_of w ∷ []), tabbed-cons w.retired_held (w.promotions ∷ demotions_of w ∷ []), tabbed-cons w.promotions (demotions_of w ∷ []), tabbed-cons (demotions_of w) [], tabbed-none)
      (ap (λ (l : List ℕ). (9 ∷ digits w.len) ++ ((9 ∷ digits w.retired_held) ++ ((9 ∷ digits w.promotions) ++ l))) (append-nil (9 ∷ digits (demotions_of w))))

  counts-few : length (count_bytes w) ≤ 84
  unfolding count_bytes
  counts-few = omega (arith, tabbed-few (w.len ∷ w.retired_held ∷ w.promotions ∷ demotions_of w ∷ []))

  pub head_few : (letter : ℕ) (a : Answer) → length (head_bytes letter a w) ≤ 127
  head_few letter a = omega (arith, length-append (answer_bytes a) (count_bytes w), answer-few a, counts-few)

-- where a head, and the items after it, end
pub head-end : (at letter r : ℕ) (a : Answer) (w : AdaptiveReceiverPacketWindow) (out out' : List ℕ) → Puts at (head_bytes letter a w) out r out' → r ≤ at + 127
head-end at letter r a w out out' p = omega (arith, p.end, head_few w letter a)

pub values-end : (at count r : ℕ) (list out out' : List ℕ) → count ≤ length list → Puts at (tabbed (take count list)) out r out' → r ≤ at + 21 * count
values-end at count r list out out' l p = omega (arith, p.end, tabbed-few (take count list), length-take-le count list l)

pub pairs_end : (at count r : ℕ) (ss vs out out' : List ℕ) → count ≤ length ss → Puts at (paired (take count ss) (take count vs)) out r out' → r ≤ at + 42 * count
pairs_end at count r ss vs out out' l p = omega (arith, p.end, paired-few (take count ss) (take count vs), length-take-le count ss l)

-- the number of pairs told is how many are listed
pub list-head : (at count r : ℕ) (w : AdaptiveReceiverPacketWindow) (ss out out' : List ℕ) → count ≤ length ss → Puts at (head_bytes 108 (found count) w) out r out'
    → Puts at (head_bytes 108 (found (length (take count ss))) w) out r out'
list-head at count r w ss out out' l p = rw (length-take-le count ss l) p
