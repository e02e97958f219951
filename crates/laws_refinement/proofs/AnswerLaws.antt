-- No call on a window is answered by refusal 7. Assumes nothing.
use mathlib.Core.Path.{◌≡◌, refl, sym, ap, ◌∙◌}
use mathlib.Core.Bool.{Bool, true, false, cond, true≢false, ◌&&◌}
use mathlib.Core.Option.{Option, none, some}
use Prim.Native.Nat.{ℕ, zero, suc, ◌+◌, ◌-◌, ◌%◌}
use lib.Dec.{eqb, leb, ltb}
use lib.ListN.{length}
use Rattle.words.proofs.CaseLaws.{bool}
use Rattle.words.specs.First.{first_from_of, first_round}
use Rattle.window.specs.Memory.{position}
use Rattle.window.specs.Refusals.{is_wire_number_of}
use Rattle.model.specs.Calls.{Query, get, successor_after, first_from, iter, stranger, check, write_losses, read_losses, Call, insert, exchange, remove, remove_range, clear, clear_bounded, release_retired, set_base, take_front, ask, Answer, done, new, replaced, absent, found, pair, ended, released, refused}
use Rattle.model.specs.Roles.{Arguments, no_argument, sequence_argument, range_argument, number_argument, base_argument, report_argument, role_of}
use Rattle.model.specs.Losses.{is_loss_list_of}
use Rattle.model.specs.Table.{Pair, Table, holds, value_if, range_count_of, covers, sequence_of, search_from, is_stranger_of, pair_answer_of, stranger_in, loss_list_of, Known, first, limit_refusal_of, are_wire_numbers_of, refused_for_of, has_places, argument_refusal}
use Rattle.model.specs.Window.{Page, Window, size_of, capacity_of, cell_of, live_at, is_reached, cell_pair, reads_of, iter_step}
use Rattle.model.specs.Pages.{values_in_of, insert_page}
use Rattle.model.specs.Steps.{Effect, page_of, live_here, revive, insert_step, exchange_step, remove_step, range_step, clear_step, clear_bounded_step, release_step, front_step, unless_refused, window_answer, known_by, window_acts, window_step, window_does}

abbrev pub is_seven : Answer → Bool
is_seven done = false
is_seven new = false
is_seven (replaced v) = false
is_seven absent = false
is_seven (found n) = false
is_seven (pair s v next reads) = false
is_seven (ended reads) = false
is_seven (released values units) = false
is_seven (refused k) = eqb k 7

pub not-refused-7 : (a : Answer) → is_seven a ≡ false → a ≡ refused 7 → ⊥
not-refused-7 a n e = true≢false (ap is_seven (sym e) ∙ n)

-- one of two answers, neither of them 7
neither : (a b : Answer) (t : Bool) → is_seven a ≡ false → is_seven b ≡ false → is_seven (cond t a b) ≡ false
neither a b true x y = x
neither a b false x y = y

neither-effect : (a b : Effect) (t : Bool) → is_seven a.answer ≡ false → is_seven b.answer ≡ false → is_seven (cond t a b).answer ≡ false
neither-effect a b true x y = x
neither-effect a b false x y = y

value-answer : (s : ℕ) (o : Option Pair) → is_seven (value_if s o) ≡ false
value-answer s none = refl
value-answer s (some e) = neither (found e.value) absent (eqb e.sequence s) refl refl

sequence-answer : (o : Option Pair) → is_seven (sequence_of o) ≡ false
sequence-answer none = refl
sequence-answer (some e) = refl

pair-answer : (o : Option Pair) → is_seven (pair_answer_of o) ≡ false
pair-answer none = refl
pair-answer (some e) = refl

search-answer : (cap : ℕ) (t : Table) (p : ℕ) → is_seven (search_from cap t p) ≡ false
unfolding search_from
search-answer cap t p =
    let q = first_round (λ (r : ℕ). holds (t r)) cap p in
    neither (sequence_of (t q)) absent (ltb q cap) (sequence-answer (t q)) refl

page-answer : (n : ℕ) (p : Page) (s v : ℕ) → is_seven (insert_page n p s v).answer ≡ false
unfolding insert_page
page-answer n p s v =
    let c = cell_of p (s % 64) in
    bool (ltb c 64)
    (λ e. bool (eqb (p.sequences c) s) (λ f. rw (e, f)) (λ f. rw (e, f)))
    (λ e. bool (eqb p.kind 2) (λ f. rw (e, f)) (λ f. bool (ltb (values_in_of p) n) (λ k. rw (e, f, k)) (λ k. rw (e, f, k))))

-- no refusal for arguments is 7
tested-not-7 : (k : ℕ) (taken : Bool) (rest : ℕ) → is_seven (refused k) ≡ false → is_seven (refused rest) ≡ false → is_seven (refused (first k taken rest)) ≡ false
tested-not-7 k true rest a b = b
tested-not-7 k false rest a b = a

limit-not-7 : (k : Known) (a : Arguments) → is_seven (refused (limit_refusal_of k a)) ≡ false
limit-not-7 k no_argument = refl
limit-not-7 k (sequence_argument s) = refl
limit-not-7 k (range_argument a b) = tested-not-7 5 (leb (range_count_of a b) k.size) 0 refl refl
limit-not-7 k (number_argument n) = tested-not-7 8 (leb n 256) 0 refl refl
limit-not-7 k (base_argument s) = tested-not-7 9 (is_wire_number_of s) 0 refl refl
limit-not-7 k (report_argument a b words places) =
    let n = range_count_of a b in
    tested-not-7 5 (leb n k.size) (first 11 (leb n places) (first 12 (is_loss_list_of a n words) 0)) refl
    (tested-not-7 11 (leb n places) (first 12 (is_loss_list_of a n words) 0) refl (tested-not-7 12 (is_loss_list_of a n words) 0 refl refl))

refused-for-not-7 : (k : Known) (a : Arguments) → is_seven (refused (refused_for_of k a)) ≡ false
refused-for-not-7 k a = tested-not-7 10 (are_wire_numbers_of a) (limit_refusal_of k a) refl (limit-not-7 k a)

pub argument-not-7 : (k : Known) (c : Call) → is_seven (refused (argument_refusal k c)) ≡ false
argument-not-7 k c = tested-not-7 6 (has_places (role_of c).listed) (refused_for_of k (role_of c).arguments) refl (refused-for-not-7 k (role_of c).arguments)

module _ (w : Window) where
  insert-answer : (s v : ℕ) → is_seven (insert_step w s v).answer ≡ false
  unfolding insert_step
  insert-answer s v = page-answer w.header.n ((revive w (page_of w s)).after.pages (page_of w s)) s v

  exchange-answer : (s v : ℕ) → is_seven (exchange_step w s v).answer ≡ false
  unfolding exchange_step
  exchange-answer s v = value-answer s (live_here w s)

  remove-answer : (s : ℕ) → is_seven (remove_step w s).answer ≡ false
  unfolding remove_step
  remove-answer s = value-answer s (live_here w s)

  iter-answer : (cell : ℕ) → is_seven (iter_step w cell) ≡ false
  unfolding iter_step
  iter-answer cell =
      let c = first_from_of (is_reached w) (capacity_of w - cell) cell in
      let k = reads_of (capacity_of w) cell c in
      neither (pair (cell_pair w c).sequence (cell_pair w c).value (c + 1) k) (ended k) (ltb c (capacity_of w)) refl refl

  stranger-answer : (a b : ℕ) → is_seven (stranger_in (size_of w) (live_at w) a b) ≡ false
  unfolding stranger_in
  stranger-answer a b =
      let start = position (size_of w) a in
      let n = range_count_of a b in
      let q = first_round (λ (r : ℕ). covers (capacity_of w) start n r && is_stranger_of a n (live_at w r)) (capacity_of w) start in
      neither (pair_answer_of (live_at w q)) absent (ltb q (capacity_of w)) (pair-answer (live_at w q)) refl

  query-not-7 : (q : Query) → is_seven (window_answer w q) ≡ false
  query-not-7 (get s) = value-answer s (live_here w s)
  query-not-7 (successor_after s) = search-answer (capacity_of w) (live_at w) (position (size_of w) (s + 1))
  query-not-7 (first_from s) = search-answer (capacity_of w) (live_at w) (position (size_of w) s)
  query-not-7 (iter cell) = iter-answer cell
  query-not-7 (stranger a b) = stranger-answer a b
  query-not-7 check = refl
  query-not-7 (write_losses a b places) =
      let words = loss_list_of (size_of w) (live_at w) a b in
      neither (found (length words)) (refused 11) (leb (length words) places) refl refl
  query-not-7 (read_losses a b words places) = refl

  -- no call gives 7 on a window
  answer-not-7 : (c : Call) → is_seven (window_does w c).answer ≡ false
  unfolding window_does range_step clear_step clear_bounded_step release_step front_step
  answer-not-7 (insert s v listed) = insert-answer s v
  answer-not-7 (exchange s v) = exchange-answer s v
  answer-not-7 (remove s) = remove-answer s
  answer-not-7 (remove_range a b listed) = refl
  answer-not-7 (clear listed) = refl
  answer-not-7 (clear_bounded n listed) = refl
  answer-not-7 (release_retired b listed) = refl
  answer-not-7 (set_base s) = refl
  answer-not-7 take_front = remove-answer w.header.base
  answer-not-7 (ask q) = query-not-7 q

  unless-not-7 : (k : ℕ) (e : Effect) → is_seven (refused k) ≡ false → is_seven e.answer ≡ false → is_seven (unless_refused k w e).answer ≡ false
  unless-not-7 zero e h i = i
  unless-not-7 (suc k) e h i = h

  step-not-7 : (c : Call) → is_seven (window_step w c).answer ≡ false
  step-not-7 c = unless-not-7 (argument_refusal (known_by w.header) c) (window_acts w c) (argument-not-7 (known_by w.header) c) (answer-not-7 c)

  pub never-7 : (c : Call) → (window_step w c).answer ≡ refused 7 → ⊥
  never-7 c = not-refused-7 (window_step w c).answer (step-not-7 c)
