-- Each call that retires nothing does to a sound window what `step` does at its positions. Assumes nothing.
use mathlib.Core.Path.{◌≡◌, refl, sym, ap, ◌∙◌}
use mathlib.Core.Bool.{Bool, true, false, cond, true≢false}
use mathlib.Core.Option.{Option, none, some}
use Prim.Native.Nat.{ℕ, ◌-◌, ◌/◌, ◌%◌}
use native.Mathlib.Omega.{arith}
use native.Mathlib.Decide.{ℕ_discrete}
use lib.Dec.{ltb}
use borrow.Author.Tests.{eq-eqb, ne_eqb}
use Rattle.words.proofs.CaseLaws.{bool}
use Rattle.words.specs.First.{first_from_of}
use Rattle.window.specs.Memory.{position}
use Rattle.window.proofs.MemoryLaws.{position-slot}
use Rattle.window.specs.declared.Cause.TheVariants.{Single}
use Rattle.model.specs.Calls.{Query, get, successor_after, first_from, iter, stranger, check, write_losses, read_losses, insert, exchange, remove, set_base, take_front, ask}
use Rattle.model.specs.Roles.{if_refused, role_of, told_of}
use Rattle.model.specs.Table.{Pair, Table, at, sequence_at_of, put_at, put_answer_of, exchange_at, remove_at, table_answer, finds}
use Rattle.model.specs.Window.{Page, Window, size_of, capacity_of, pages_of, cell_of, stands_at, is_retired, live_at, retired_at, is_reached, iter_step}
use Rattle.model.specs.Pages.{set_value, take_cell_of, after_removal, demotes, insert_page, Inserted}
use Rattle.model.specs.Positions.{Positions, positions, plain, does}
use Rattle.model.specs.Steps.{with_page, note_nonempty, put_page, add_live_of, sub_live_of, count_promotion_of, count_demotion_of, revive, is_new, insert_step, exchange_step, remove_step, front_step, window_answer, window_does}
use Rattle.model.specs.Sound.{Sound}
use Rattle.page_base.specs.Page.{Placed}
use Rattle.page_base.specs.Promises.{exchanged}
use Rattle.page_base.proofs.PlaceLaws.{placed}
use Rattle.page_base.proofs.ExchangeLaws.{exchange-stands}
use Rattle.page_insert.proofs.InsertLaws.{Leaves, insert-leaves}
use Rattle.page_remove.specs.Remove.{RemovedPage}
use Rattle.page_remove.proofs.RemoveLaws.{remove-when-found, remove-stands}
use Rattle.laws_soundness.specs.Change.{NothingPast}
use Rattle.laws_soundness.proofs.ExchangeRemoveLaws.{page-lt}
use Rattle.laws_refinement.specs.Seen.{positions_of, Follows}
use Rattle.laws_refinement.proofs.SeenLaws.{view-seen, view_then, note-view, add-view, promotion-view, fewer-seen, live_here_lem, point-seen}
use Rattle.laws_refinement.proofs.ReleaseLaws.{Releases, revive-page, revived-live}

-- ---- one position of the live table replaced, if the sequence is found there

at_own : (t : Table) (x q : ℕ) → at t x (t x) q ≡ t q
at_own t x q = elim (ℕ_discrete q x) [ yes e ↦ rw (eq-eqb q x e) (ap t (sym e)) | no e ↦ rw (ne_eqb q x e) ]

abbrev pointed : Positions → ℕ → (Option Pair → Option Pair) → Positions
pointed z x f = positions (at z.live x (f (z.live x))) z.retired z.cursor z.base

-- v if the sequence was found, else w
if-found : (w v : Window) (x : ℕ) (f : Option Pair → Option Pair) (b : Bool) → (b ≡ true → positions_of v ≡ pointed (positions_of w) x f)
    → (b ≡ false → f (live_at w x) ≡ live_at w x) → positions_of (cond b v w) ≡ pointed (positions_of w) x f
if-found w v x f true g h = g refl
if-found w v x f false g h = λ i. record { live = λ q. same q i; retired = retired_at w; cursor = w.header.release_cursor; base = w.header.base }
  where
    same : (q : ℕ) → live_at w q ≡ at (live_at w) x (f (live_at w x)) q
    same q = sym (ap (λ (o : Option Pair). at (live_at w) x o q) (h refl) ∙ at_own (live_at w) x q)

exchange-absent : (s v : ℕ) (o : Option Pair) → finds s o ≡ false → exchange_at s v o ≡ o
exchange-absent s v none e = refl
exchange-absent s v (some x) e = rw e

remove_absent : (s : ℕ) (o : Option Pair) → finds s o ≡ false → remove_at s o ≡ o
remove_absent s none e = refl
remove_absent s (some x) e = rw e

module _ (w : Window) (s : ℕ) where
  -- the position of the sequence, and its page
  abbrev x : ℕ
  x = position (size_of w) s

  abbrev p : Page
  p = w.pages (x / 64)

  -- where a live pair is found, its page is live
  found-live : finds s (live_at w x) ≡ true → (is_retired w (x / 64) ≡ false) × (finds s (stands_at p (s % 64)) ≡ true)
  found-live t =
      bool (is_retired w (x / 64))
      (λ r. absurd (true≢false (sym (rw r at t))))
      (λ r. (r, ap (λ (j : ℕ). finds s (stands_at p j)) (sym (position-slot (size_of w) s)) ∙ ap (finds s) (sym (live_here_lem w (x / 64) x refl r)) ∙ t))

  module _ (ok : Sound w) where
    in_place : Placed w.header.n p
    in_place = placed _ _ (x / 64) p (ok.page (x / 64) (page-lt w s))

    exchange-page : (v : ℕ) → finds s (live_at w x) ≡ true
        → positions_of (with_page w (x / 64) (set_value p (cell_of p (s % 64)) v)) ≡ pointed (positions_of w) x (exchange_at s v)
    unfolding exchanged
    exchange-page v t =
        let f = found-live t in
        point-seen w x (set_value p (cell_of p (s % 64)) v) (exchange_at s v) f.0
        (λ j l. rw (position-slot (size_of w) s) (rw f.1 at (exchange-stands w.header.n p in_place v s j l)))

    pub exchange-follows : (v : ℕ) → Follows w (exchange s v)
    unfolding does window_does exchange_step
    exchange-follows v = record {
      after = if-found w _ x (exchange_at s v) (finds s (live_at w x)) (exchange-page v) (exchange-absent s v (live_at w x));
      answer = refl;
      returned = refl;
    }

    -- the page without the value
    abbrev rest : Page
    rest = take_cell_of p (cell_of p (s % 64))

    abbrev d : ℕ
    d = w.header.demote_at

    removed-page : finds s (live_at w x) ≡ true
        → positions_of (count_demotion_of Single (put_page (sub_live_of w (x / 64 / 64) 1) (x / 64) (after_removal d rest)) (demotes d rest)) ≡ pointed (positions_of w) x (remove_at s)
    removed-page t =
        let f = found-live t in
        fewer-seen w Single (x / 64) 1 (after_removal d rest) (demotes d rest)
        ∙ point-seen w x (after_removal d rest) (remove_at s) f.0
        (λ j l. rw (position-slot (size_of w) s)
        (ap (λ (r : RemovedPage). stands_at r.page j) (sym (remove-when-found p s d f.1)) ∙ remove-stands w.header.n p in_place s d j l))

    pub remove-follows : Follows w (remove s)
    unfolding does window_does remove_step
    remove-follows = record {
      after = if-found w _ x (remove_at s) (finds s (live_at w x)) removed-page (remove_absent s (live_at w x));
      answer = refl;
      returned = refl;
    }

    -- ---- insert: into the page revived

    module _ (past : NothingPast w) (v : ℕ) where
      -- the window with the page revived, and what the insert leaves of the page
      abbrev u : Window
      u = (revive w (x / 64)).after

      abbrev i : Inserted
      i = insert_page w.header.n (u.pages (x / 64)) s v

      revived : Releases w.header.n (pages_of w) (positions_of w) (x / 64) 64 (revive w (x / 64))
      revived = revive-page w (x / 64) ok past (page-lt w s)

      leaves : Leaves w.header.n (u.pages (x / 64)) s v i
      leaves = insert-leaves w.header.n (u.pages (x / 64)) s v (revived.order.places (x / 64)) (omega (arith, ok.within.n_high))

      live : is_retired u (x / 64) ≡ false
      live = revived-live w (x / 64) ok past (page-lt w s)

      put : positions_of (with_page u (x / 64) i.page) ≡ pointed (positions_of u) x (put_at s v)
      put = point-seen u x i.page (put_at s v) live (λ j l. rw (position-slot (size_of w) s) (leaves.stands j l))

      -- a new value is noted and counted
      put-new : positions_of (add_live_of (count_promotion_of (put_page u (x / 64) i.page) i.promotes) (x / 64 / 64) 1) ≡ pointed (positions_of u) x (put_at s v)
      put-new =
          let a = with_page u (x / 64) i.page in
          let b = note_nonempty a (x / 64) in
          let c = count_promotion_of b i.promotes in
          let e = add_live_of c (x / 64 / 64) 1 in
          view-seen a e (view_then a c (view_then a b (note-view a (x / 64)) c (promotion-view b i.promotes)) e (add-view c (x / 64 / 64) 1)) ∙ put

      -- the window after the insert
      put-either : (b : Bool) → positions_of (cond b (add_live_of (count_promotion_of (put_page u (x / 64) i.page) i.promotes) (x / 64 / 64) 1) (with_page u (x / 64) i.page)) ≡ pointed (positions_of u) x (put_at s v)
      put-either true = put-new
      put-either false = put

      stood : live_at w x ≡ stands_at (u.pages (x / 64)) (s % 64)
      stood =
          sym (ap (λ (z : Positions). z.live x) revived.after)
          ∙ live_here_lem u (x / 64) x refl live
          ∙ ap (stands_at (u.pages (x / 64))) (position-slot (size_of w) s)

      pub insert-follows : (listed : Bool) → Follows w (insert s v listed)
      unfolding does window_does insert_step
      insert-follows listed = record {
        after = put-either (is_new i.answer) ∙ ap (λ (z : Positions). pointed z x (put_at s v)) revived.after;
        answer = ap some (ap (put_answer_of s) stood ∙ sym leaves.answer);
        returned = revived.out;
      }

-- ---- the base

pub base-follows : (w : Window) (s : ℕ) → Follows w (set_base s)
unfolding does window_does
base-follows w s = record { after = refl; answer = refl; returned = refl }

-- a remove of the base, and the base moved if it was found
pub front-follows : (w : Window) → Sound w → Follows w take_front
unfolding does window_does front_step remove_step
front-follows w ok =
    let s = w.header.base in
    let y = position (size_of w) s in
    record {
      after =
          bool (finds s (live_at w y))
          (λ t. rw t (ap (λ (z : Positions). positions z.live z.retired z.cursor (sequence_at_of s 1)) (removed-page w s ok t)))
          (λ t. rw t (if-found w w y (remove_at s) false (λ e. absurd (true≢false (sym e))) (λ e. remove_absent s (live_at w y) t)));
      answer = refl;
      returned = refl;
    }

-- ---- calls that change nothing

-- an answer of iter is no refusal
iter-answers : (w : Window) (cell : ℕ) → none ≡ if_refused (iter_step w cell)
unfolding iter_step
iter-answers w cell = bool (ltb (first_from_of (is_reached w) (capacity_of w - cell) cell) (capacity_of w)) (λ e. rw e) (λ e. rw e)

-- what the table tells of the answer is what the window answers
asked-as : (w : Window) (q : Query) → told_of (role_of (ask q)) (table_answer (size_of w) (plain (positions_of w)) q) ≡ (role_of (ask q)).told (window_answer w q)
asked-as w (get s) = refl
asked-as w (successor_after s) = refl
asked-as w (first_from s) = refl
asked-as w (iter cell) = iter-answers w cell
asked-as w (stranger a b) = refl
asked-as w check = refl
asked-as w (write_losses a b places) = refl
asked-as w (read_losses a b words places) = refl

pub ask-follows : (w : Window) (q : Query) → Follows w (ask q)
unfolding does window_does
ask-follows w q = record { after = refl; answer = asked-as w q; returned = refl }
