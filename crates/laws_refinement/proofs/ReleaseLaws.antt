-- A page released and a page revived: at the positions, the page's retired values are drained. Assumes nothing.
use mathlib.Core.Path.{◌≡◌, refl, sym, ap, subst, ◌∙◌}
use mathlib.Core.Bool.{true, false, cond, ◌&&◌, ◌||◌, and-false}
use mathlib.Core.Option.{none}
use mathlib.Core.List.{[]}
use Prim.Native.Nat.{ℕ, zero, suc, ◌+◌, ◌-◌, ◌*◌, ◌/◌, ◌%◌, ◌≤◌, ◌<◌}
use native.Mathlib.Omega.{arith}
use native.Mathlib.Decide.{ℕ_discrete, dec_lt}
use lib.ListN.{length}
use borrow.Author.Tests.{eq-eqb, ne_eqb}
use Rattle.words.proofs.CaseLaws.{bool}
use Rattle.words.specs.Word.{is_set, count}
use Rattle.words.proofs.CountLaws.{count-le}
use Rattle.model.specs.Table.{Table}
use Rattle.model.specs.Window.{Page, Window, pages_of, stands_at, is_retired, live_at, retired_at}
use Rattle.model.specs.Pages.{holds_value, PageDrained, unless_emptied_of, drain_page}
use Rattle.model.specs.Positions.{Positions, positions, Drained, drained, drain}
use Rattle.model.specs.Steps.{with_header, set_held, with_page, note_nonempty, drop_block_marks, split_block, all_positions, Returned, returned_by, release_page_of, revive}
use Rattle.model.specs.Sound.{Sound, retired_in}
use Rattle.page_base.specs.Page.{Placed}
use Rattle.page_remove.proofs.StandLaws.{unless-stands, unless-placed, unless-count}
use Rattle.page_remove.proofs.DrainLaws.{drain-placed, drain-count, TableDrained, drain-positions-from}
use Rattle.laws_soundness.specs.Change.{NothingPast}
use Rattle.laws_soundness.proofs.SumLaws.{sum-but}
use Rattle.laws_soundness.proofs.ReleaseLaws.{drain-whole}
use Rattle.laws_soundness.proofs.SplitLaws.{split-unmarked}
use Rattle.laws_refinement.specs.Seen.{positions_of}
use Rattle.laws_refinement.proofs.SeenLaws.{view-retired, view-seen, note-view, note-held, note-size, page-live, page-retired, retired-here, none-live-here, none-retired-here}
use Rattle.laws_refinement.proofs.MarkLaws.{InOrder, in_order, SameShown, shown-seen, shown-order, view-shown, unmarked, unmarked-same, unmarked-shown, drop-shown, drop-order, drop-size, drop-live, split-seen, split-order}

-- ---- draining

-- of positions at which nothing stands
pub nothing-drained : (m p k : ℕ) (t : Table) → ((q : ℕ) → p ≤ q → q < p + m → t q ≡ none) → drain m p k t ≡ drained t []
unfolding drain
nothing-drained zero p k t h = refl
nothing-drained (suc m) p zero t h = refl
nothing-drained (suc m) p (suc k) t h = rw (h p (omega arith) (omega arith), drain) (nothing-drained m (suc p) (suc k) t (λ q a b. h q (omega arith) (omega arith)))

-- ---- what is left and what comes out, where the positions were x

pub record Releases (n pages : ℕ) (x : Positions) (g k : ℕ) (r : Returned) : Type 0 where
  pub out : r.out ≡ (drain 64 (64 * g) k x.retired).out
  pub after : positions_of r.after ≡ positions x.live (drain 64 (64 * g) k x.retired).left x.cursor x.base
  pub order : InOrder n pages r.after

-- ---- a retired page released

module _ (n pages : ℕ) (w : Window) (o : InOrder n pages w) (g : ℕ) (below : g < pages) (r : is_retired w g ≡ true) (k : ℕ) where
  abbrev d : PageDrained
  d = drain_page 64 0 all_positions k (w.pages g)

  -- retired_held counted down; the page replaced; and noted
  abbrev counted : Window
  counted = with_header w (set_held w.header (w.header.retired_held - length d.out))

  abbrev changed : Window
  changed = with_page counted g (unless_emptied_of d.page)

  abbrev noted : Window
  noted = note_nonempty changed g

  rest-placed : Placed n d.page
  rest-placed = drain-placed all_positions n 64 0 k (w.pages g) (omega arith) (o.places g)

  own_page : (x : ℕ) → x ≡ g → changed.pages x ≡ unless_emptied_of d.page
  own_page x e = rw (eq-eqb x g e)

  other-page : (x : ℕ) → (x ≡ g → ⊥) → changed.pages x ≡ w.pages x
  other-page x e = rw (ne_eqb x g e)

  changed-order : InOrder n pages changed
  changed-order = record {
    places = λ x. elim (ℕ_discrete x g) [ yes e ↦ rw (own_page x e) (unless-placed n d.page rest-placed) | no e ↦ rw (other-page x e) (o.places x) ];
    past = λ x l. ap (λ (p : Page). p.occupied) (other-page x (λ e. omega arith)) ∙ o.past x l;
    held =
        let before : retired_in w g ≡ count (w.pages g).occupied = rw r in
        let now : retired_in changed g ≡ count d.page.occupied = rw (r, own_page g refl) (unless-count d.page) in
        let others = sum-but pages (retired_in changed) (retired_in w) g below (λ x l e. ap (λ (p : Page). cond (is_retired w x) (count p.occupied) 0) (other-page x e)) in
        omega (arith, o.held, drain-count all_positions n 64 0 k (w.pages g) (omega arith) (o.places g));
  }

  -- the page in the table, and drained there
  in_table : (i : ℕ) → i < 64 → retired_at w (64 * g + i) ≡ stands_at (w.pages g) i
  in_table i l =
      let e : (64 * g + i) / 64 ≡ g = omega arith in
      let j : (64 * g + i) % 64 ≡ i = omega arith in
      retired-here w g (64 * g + i) e r ∙ ap (stands_at (w.pages g)) j

  abbrev table : Drained
  table = drain 64 (64 * g) k (retired_at w)

  both-drained : TableDrained (64 * g) 0 64 (retired_at w) table d
  both-drained = drain-positions-from n (64 * g) all_positions 64 0 k (64 * g) (w.pages g) (retired_at w) (omega arith) (o.places g) (omega arith) in_table (λ i a b. refl)

  changed-live : (q : ℕ) → live_at changed q ≡ live_at w q
  changed-live q =
      page-live counted g (unless_emptied_of d.page) q
      ∙ elim (ℕ_discrete (q / 64) g) [
        | yes e ↦ rw (eq-eqb (q / 64) g e, r) (sym (none-live-here w g q e r))
        | no e ↦ rw (ne_eqb (q / 64) g e)
      ]

  changed-retired : (q : ℕ) → retired_at changed q ≡ table.left q
  changed-retired q =
      page-retired counted g (unless_emptied_of d.page) q
      ∙ elim (ℕ_discrete (q / 64) g) [
        | yes e ↦
            let z : 64 * g + q % 64 ≡ q = omega arith in
            rw (eq-eqb (q / 64) g e, r)
            (unless-stands n d.page rest-placed (q % 64) ∙ sym (both-drained.here (q % 64) (omega arith)) ∙ ap table.left z)
        | no e ↦
            rw (ne_eqb (q / 64) g e)
            (elim (dec_lt q (64 * g)) [
              | yes l ↦ sym (both-drained.below q (omega arith))
              | no l ↦ sym (both-drained.above q (omega arith))
            ])
      ]

  noted-seen : positions_of noted ≡ positions (live_at w) table.left w.header.release_cursor w.header.base
  noted-seen = view-seen changed noted (note-view changed g) ∙ (λ i. record { live = λ q. changed-live q i; retired = λ q. changed-retired q i; cursor = w.header.release_cursor; base = w.header.base })

  noted-order : InOrder n pages noted
  noted-order = shown-order changed noted (view-shown changed noted (note-view changed g)) n pages (note-held changed g) changed-order

  -- an emptied page without its mark; no block mark if none is held
  abbrev freed : Window
  freed = unmarked noted g

  module _ (empty : d.page.occupied ≡ 0) where
    emptied : (noted.pages g).occupied ≡ 0
    emptied = ap (λ (f : ℕ → Page). (f g).occupied) (note-view changed g).pages ∙ ap (λ (p : Page). p.occupied) (own_page g refl) ∙ rw (eq-eqb d.page.occupied 0 empty)

    freed-shown : SameShown noted freed
    freed-shown = unmarked-shown noted g emptied

    freed-order : InOrder n pages freed
    freed-order = shown-order noted freed freed-shown n pages refl noted-order

    dropped-seen : positions_of (drop_block_marks freed) ≡ positions_of noted
    dropped-seen =
        shown-seen freed (drop_block_marks freed) (drop-shown n pages freed freed-order) n freed-order.places
        ∙ shown-seen noted freed freed-shown n noted-order.places

    empty-release : release_page_of w g k ≡ returned_by (drop_block_marks freed) d.out
    unfolding release_page_of
    empty-release = rw (eq-eqb d.page.occupied 0 empty)

  other-release : (d.page.occupied ≡ 0 → ⊥) → release_page_of w g k ≡ returned_by noted d.out
  unfolding release_page_of
  other-release h = rw (ne_eqb d.page.occupied 0 h)

  pub release-page : Releases n pages (positions_of w) g k (release_page_of w g k)
  release-page = elim (ℕ_discrete d.page.occupied 0) [
    | yes e ↦
        rw (empty-release e)
        (record { out = sym both-drained.out; after = dropped-seen e ∙ noted-seen; order = drop-order n pages freed (freed-order e) })
    | no e ↦ rw (other-release e) (record { out = sym both-drained.out; after = noted-seen; order = noted-order })
  ]

  -- the other pages, and window_size, are unaltered
  pub release-others : (x : ℕ) → (x ≡ g → ⊥) → (release_page_of w g k).after.pages x ≡ w.pages x
  release-others x h =
      let own = ap (λ (f : ℕ → Page). f x) (note-view changed g).pages ∙ other-page x h in
      elim (ℕ_discrete d.page.occupied 0) [
        | yes e ↦ rw (empty-release e) (ap (λ (f : ℕ → Page). f x) (drop-shown n pages freed (freed-order e)).pages ∙ own)
        | no e ↦ rw (other-release e) own
      ]

  pub release-size : (release_page_of w g k).after.header.window_size ≡ w.header.window_size
  release-size = elim (ℕ_discrete d.page.occupied 0) [
    | yes e ↦ rw (empty-release e) (drop-size freed ∙ note-size changed g)
    | no e ↦ rw (other-release e) (note-size changed g)
  ]

  -- a page that holds a value still is retired
  pub release-status : (is_retired (release_page_of w g k).after g && holds_value ((release_page_of w g k).after.pages g)) ≡ holds_value ((release_page_of w g k).after.pages g)
  release-status = elim (ℕ_discrete d.page.occupied 0) [
    | yes e ↦
        let empty : ((release_page_of w g k).after.pages g).occupied ≡ 0 = rw (empty-release e) (ap (λ (f : ℕ → Page). (f g).occupied) (drop-shown n pages freed (freed-order e)).pages ∙ emptied e) in
        rw (eq-eqb ((release_page_of w g k).after.pages g).occupied 0 empty) (and-false (is_retired (release_page_of w g k).after g))
    | no e ↦ rw (other-release e, view-retired changed noted (note-view changed g) g, r)
  ]

-- a page released whole is live, if its block has no mark
released-live : (n pages : ℕ) (w : Window) (o : InOrder n pages w) (g : ℕ) (below : g < pages) (r : is_retired w g ≡ true)
    → is_set w.header.retired_blocks (g / 64) ≡ false → is_retired (release_page_of w g 64).after g ≡ false
released-live n pages w o g below r b =
    let empty = drain-whole n 64 (w.pages g) (o.places g) (count-le 64 (w.pages g).occupied) in
    let before = changed n pages w o g below r 64 in
    rw (empty-release n pages w o g below r 64 empty)
    (drop-live (freed n pages w o g below r 64) g
    (unmarked-same (noted n pages w o g below r 64) g ∙ ap (λ (x : ℕ). is_set x (g / 64) || false) (note-view before g).block_marks ∙ rw b))

-- ---- a page revived

-- nothing of a live page is retired
live-releases : (n pages : ℕ) (w : Window) (g : ℕ) → InOrder n pages w → is_retired w g ≡ false → Releases n pages (positions_of w) g 64 (returned_by w [])
live-releases n pages w g o r =
    let e = nothing-drained 64 (64 * g) 64 (retired_at w) (λ q a b. none-retired-here w g q (omega arith) r) in
    record {
      out = ap (λ (d : Drained). d.out) (sym e);
      after = ap (λ (d : Drained). positions (live_at w) d.left w.header.release_cursor w.header.base) (sym e);
      order = o;
    }

module _ (w : Window) (g : ℕ) where
  abbrev split : Window
  split = split_block w (g / 64)

  -- a page that is live, one that only its block's mark retired, one with a mark
  revive-live : is_retired w g ≡ false → revive w g ≡ returned_by w []
  unfolding revive
  revive-live r = rw r

  revive-bare : is_retired w g ≡ true → is_retired split g ≡ false → revive w g ≡ returned_by split []
  unfolding revive
  revive-bare r u = rw (r, u)

  revive-marked : is_retired w g ≡ true → is_retired split g ≡ true → revive w g ≡ release_page_of split g 64
  unfolding revive
  revive-marked r u = rw (r, u)

  module _ (ok : Sound w) (past : NothingPast w) (below : g < pages_of w) where
    pub revive-page : Releases w.header.n (pages_of w) (positions_of w) g 64 (revive w g)
    revive-page =
        let o = split-order w ok past (g / 64) in
        let same = subst (λ (x : Positions). Releases w.header.n (pages_of w) x g 64 (revive w g)) (split-seen w ok past (g / 64)) in
        bool (is_retired w g)
        (λ r. bool (is_retired split g)
        (λ u. same (rw (revive-marked r u) (release-page w.header.n (pages_of w) split o g below u 64)))
        (λ u. same (rw (revive-bare r u) (live-releases w.header.n (pages_of w) split g o u))))
        (λ r. rw (revive-live r) (live-releases w.header.n (pages_of w) w g (in_order w ok past) r))

    pub revived-live : is_retired (revive w g).after g ≡ false
    revived-live =
        bool (is_retired w g)
        (λ r. bool (is_retired split g)
        (λ u. rw (revive-marked r u) (released-live w.header.n (pages_of w) split (split-order w ok past (g / 64)) g below u (split-unmarked w (g / 64))))
        (λ u. rw (revive-bare r u) u))
        (λ r. rw (revive-live r) r)
