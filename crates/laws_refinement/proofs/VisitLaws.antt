-- A release does to a window, proper or one while values are retired, what `release` does at its positions. Assumes nothing.
use mathlib.Core.Path.{◌≡◌, refl, sym, ap, subst, ◌∙◌}
use mathlib.Core.Bool.{Bool, true, cond}
use mathlib.Core.List.{[], ◌++◌}
use Prim.Native.Nat.{ℕ, zero, suc, ◌+◌, ◌-◌, ◌*◌, ◌%◌, ◌<◌}
use native.Mathlib.Omega.{arith}
use lib.Dec.{ltb}
use lib.ListN.{length}
use borrow.Author.Tests.{ltb-true}
use Rattle.words.proofs.CaseLaws.{bool}
use Rattle.window.specs.Memory.{page_count_of}
use Rattle.model.specs.Calls.{release_retired}
use Rattle.model.specs.Table.{Table}
use Rattle.model.specs.Window.{Window, pages_of, is_retired, live_at, retired_at}
use Rattle.model.specs.Positions.{Positions, positions, Drained, drain, next_page, cursor_after, Released, released_of, does, release as release_at}
use Rattle.model.specs.Steps.{drop_block_marks, Returned, release_page_of, next_retired_of, move_cursor, Release, release_of, release_units, release, release_step, window_does}
use Rattle.model.proofs.ReleaseLaws.{release-stops, release-visits}
use Rattle.laws_soundness.specs.Change.{Proper}
use Rattle.laws_soundness.specs.Retire.{Retiring}
use Rattle.laws_soundness.proofs.RetireLaws.{proper-retiring, retiring-from, retiring-drop}
use Rattle.laws_soundness.proofs.RetireReleaseLaws.{release-drop}
use Rattle.laws_soundness.proofs.VisitLaws.{proper-visit, next-is, units-none, units-visits}
use Rattle.laws_refinement.specs.Seen.{positions_of, Follows}
use Rattle.laws_refinement.proofs.MarkLaws.{InOrder, proper-order, shown-seen, drop-seen, drop-shown, drop-size}
use Rattle.laws_refinement.proofs.ReleaseLaws.{Releases, release-page, release-size, release-status}
use Rattle.laws_refinement.proofs.CountLaws.{page-holds, next-page}

-- what is left and what comes out, where the positions were x
pub record ReleasedAs (pages f b : ℕ) (x : Positions) (r : Release) : Type 0 where
  pub out : r.out ≡ (release_at pages f b x.retired x.cursor).out
  pub units : r.units ≡ (release_at pages f b x.retired x.cursor).units
  pub after : positions_of r.after ≡ positions x.live (release_at pages f b x.retired x.cursor).retired (release_at pages f b x.retired x.cursor).cursor x.base

-- by how many pages there are, and what stands at the positions
pub as_seen : (n pages f b : ℕ) (y x : Positions) (r : Release) → n ≡ pages → y ≡ x → ReleasedAs n f b y r → ReleasedAs pages f b x r
as_seen n pages f b y x r e s t = subst (λ (m : ℕ). ReleasedAs m f b x r) e (subst (λ (z : Positions). ReleasedAs n f b z r) s t)

-- ---- nothing more to release

as-stops : (pages f b : ℕ) (x : Positions) (w : Window) → release_at pages f b x.retired x.cursor ≡ released_of x.retired x.cursor [] 0
    → positions_of w ≡ x → ReleasedAs pages f b x (release_of w [] 0)
as-stops pages f b x w e s = record {
  out = ap (λ (r : Released). r.out) (sym e);
  units = ap (λ (r : Released). r.units) (sym e);
  after = s ∙ ap (λ (r : Released). positions x.live r.retired r.cursor x.base) (sym e);
}

module _ (w : Window) (ok : Proper w) where
  as-end : (b : ℕ) → ReleasedAs (pages_of w) 0 b (positions_of w) (release_units 0 b w)
  unfolding release_units release_at
  as-end b = as-stops (pages_of w) 0 b (positions_of w) (drop_block_marks w) refl (drop-seen w ok.sound ok.past)

  as-spent : (f : ℕ) → ReleasedAs (pages_of w) (suc f) 0 (positions_of w) (release_units (suc f) 0 w)
  unfolding release_units release_at
  as-spent f = as-stops (pages_of w) (suc f) 0 (positions_of w) (drop_block_marks w) refl (drop-seen w ok.sound ok.past)

-- ---- one page more

module _ (pages f b : ℕ) (x : Positions) where
  abbrev g : ℕ
  g = next_page pages x.retired x.cursor

  abbrev d : Drained
  d = drain 64 (64 * g) b x.retired

  abbrev next : Positions
  next = positions x.live d.left (cursor_after pages d.left g) x.base

  as-visits : (p : Returned) (r : Release) → ltb g pages ≡ true → p.out ≡ d.out → ReleasedAs pages f (b - length p.out) next r
      → ReleasedAs pages (suc f) (suc b) x (release_of r.after (p.out ++ r.out) (1 + length p.out + r.units))
  as-visits p r t e s =
      let u = rw e at s in
      let v = release-visits pages f b x.retired x.cursor t in
      record {
        out = (λ i. e i ++ u.out i) ∙ ap (λ (z : Released). z.out) (sym v);
        units = (λ i. 1 + length (e i) + u.units i) ∙ ap (λ (z : Released). z.units) (sym v);
        after = u.after ∙ ap (λ (z : Released). positions x.live z.retired z.cursor x.base) (sym v);
      }

-- a page inspected
module _ (w : Window) (ok : Proper w) where
  abbrev h : ℕ
  h = next_retired_of w

  order : InOrder w.header.n (pages_of w) w
  order = proper-order w ok

  next-same : next_page (pages_of w) (retired_at w) w.header.release_cursor ≡ h
  next-same = next-page w.header.n (pages_of w) w order refl (omega (arith, ok.sound.cursor))

  module _ (b : ℕ) (l : h < pages_of w) (r : is_retired w h ≡ true) where
    abbrev p : Returned
    p = release_page_of w h b

    page : Releases w.header.n (pages_of w) (positions_of w) h b p
    page = release-page w.header.n (pages_of w) w order h l r b

    cursor-same : (move_cursor p.after h).header.release_cursor ≡ cursor_after (pages_of w) (drain 64 (64 * h) b (retired_at w)).left h
    cursor-same =
        let size = release-size w.header.n (pages_of w) w order h l r b in
        let status = release-status w.header.n (pages_of w) w order h l r b in
        let holds = page-holds w.header.n p.after h (page.order.places h) in
        let left = ap (λ (x : Positions). x.retired) page.after in
        rw size (ap (λ (t : Bool). cond t h ((h + 1) % pages_of w)) (sym status ∙ sym holds) ∙ ap (λ (t : Table). cursor_after (pages_of w) t h) left)

    moved-seen : positions_of (move_cursor p.after h) ≡ positions (live_at w) (drain 64 (64 * h) b (retired_at w)).left (cursor_after (pages_of w) (drain 64 (64 * h) b (retired_at w)).left h) w.header.base
    moved-seen = λ i. positions (page.after i).live (page.after i).retired (cursor-same i) (page.after i).base

-- ---- the whole release

units-as : (f b : ℕ) (w : Window) → Proper w → ReleasedAs (pages_of w) f b (positions_of w) (release_units f b w)
units-as zero b w ok = as-end w ok b
units-as (suc f) zero w ok = as-spent w ok f
units-as (suc f) (suc b) w ok =
    let g = next_retired_of w in
    let same = next-same w ok in
    bool (ltb g (pages_of w))
    (λ t.
    let l = ltb-true g (pages_of w) t in
    let r = (next-is w ok.sound l).0 in
    let p = release_page_of w g b in
    let v = move_cursor p.after g in
    let pages : pages_of v ≡ pages_of w = ap page_count_of (release-size w.header.n (pages_of w) w (order w ok) g l r b) in
    let rest = units-as f (b - length p.out) v (proper-visit w g b ok l r) in
    let at : ℕ → Positions = λ h. positions (live_at w) (drain 64 (64 * h) b (retired_at w)).left (cursor_after (pages_of w) (drain 64 (64 * h) b (retired_at w)).left h) w.header.base in
    subst (ReleasedAs (pages_of w) (suc f) (suc b) (positions_of w)) (sym (units-visits w f b t))
    (as-visits (pages_of w) f b (positions_of w) p _ (ap (λ (h : ℕ). ltb h (pages_of w)) same ∙ t)
    ((page w ok b l r).out ∙ ap (λ (h : ℕ). (drain 64 (64 * h) b (retired_at w)).out) (sym same))
    (as_seen (pages_of v) (pages_of w) f (b - length p.out) (positions_of v) _ (release_units f (b - length p.out) v) pages (moved-seen w ok b l r ∙ ap at (sym same)) rest)))
    (λ t. subst (ReleasedAs (pages_of w) (suc f) (suc b) (positions_of w)) (sym (units-none w (suc f) (suc b) t))
    (as-stops (pages_of w) (suc f) (suc b) (positions_of w) (drop_block_marks w)
    (release-stops (pages_of w) f b (retired_at w) w.header.release_cursor (ap (λ (h : ℕ). ltb h (pages_of w)) same ∙ t))
    (drop-seen w ok.sound ok.past)))

-- also where block marks stand on pages without a value
module _ (w : Window) (ok : Retiring w) where
  pub retiring-order : InOrder w.header.n (pages_of w) w
  retiring-order = let o = proper-order _ ok.proper in record { places = o.places; past = o.past; held = (retiring-from w ok).held }

  pub dropped-seen : positions_of (drop_block_marks w) ≡ positions_of w
  dropped-seen = shown-seen w (drop_block_marks w) (drop-shown w.header.n (pages_of w) w retiring-order) w.header.n retiring-order.places

  pub release-as : (b : ℕ) → ReleasedAs (pages_of w) b b (positions_of w) (release b w)
  release-as b =
      let v = drop_block_marks w in
      rw (release-drop w ok b b)
      (as_seen (pages_of v) (pages_of w) b b (positions_of v) (positions_of w) (release b v) (ap page_count_of (drop-size w)) dropped-seen (units-as b b v (retiring-drop w ok)))

-- ---- release_retired

pub release-follows : (w : Window) → Proper w → (b : ℕ) (listed : Bool) → Follows w (release_retired b listed)
unfolding does window_does release_step
release-follows w ok b listed =
    let r = release-as w (proper-retiring w ok) b in
    record { after = r.after; answer = refl; returned = r.out }
