-- What the steps of the calls leave of the header: window_size, N, demote_at, base and point, and of the counts of demotions those that are
-- not of their cause. c is the cause whose count is not looked at. Assumes nothing.
use mathlib.Core.Path.{refl, ◌∙◌}
use mathlib.Core.Bool.{Bool, true, false, cond, not, ◌&&◌, ◌||◌}
use mathlib.Core.Option.{Option, some}
use mathlib.Core.List.{[], ◌++◌}
use Prim.Native.Nat.{ℕ, zero, suc, ◌+◌, ◌-◌, ◌*◌, ◌/◌, ◌%◌}
use lib.Dec.{eqb, leb, ltb}
use lib.ListN.{length}
use Rattle.words.proofs.CaseLaws.{bool}
use Rattle.words.specs.Word.{is_set, clear_bit}
use Rattle.window.specs.declared.Cause.{Cause}
use Rattle.window.specs.declared.Cause.TheVariants.{Single, Range}
use Rattle.model.specs.Table.{finds}
use Rattle.model.specs.Window.{Window, capacity_of, pages_of, blocks_of, cell_of, is_retired}
use Rattle.model.specs.Pages.{holds_value, take_cell_of, after_removal, demotes, unless_emptied_of, drain_page, insert_page}
use Rattle.model.specs.Steps.{with_header, with_page, set_held, set_retired_blocks, set_marks, note_nonempty, add_live_of, sub_live_of, count_promotion_of, count_demotion_of, drop_block_marks, split_block, all_positions, Returned, returned_by, release_page_of, next_retired_of, move_cursor, release_units, release, release_pages_of, revive, remove_slots_of, retire_in_block, retire_block_of, covers_block, retire_blocks_of, retire_pages_of, retire_stretch, retire_range_of, retire_all_of, page_of, live_here, is_new, insert_step, exchange_step, remove_step}
use Rattle.laws_soundness.specs.Change.{SameBut}
use Rattle.laws_soundness.specs.Retire.{retire_next, inside_page, first_page, last_page}

-- ---- any cause

module _ (c : Option Cause) where
  -- one of two
  pub kept_either : (w u v : Window) (b : Bool) → SameBut c w u → SameBut c w v → SameBut c w (cond b u v)
  kept_either w u v true l r = l
  kept_either w u v false l r = r

  pub kept-returned : (w : Window) (u v : Returned) (b : Bool) → SameBut c w u.after → SameBut c w v.after → SameBut c w (cond b u v).after
  kept-returned w u v true l r = l
  kept-returned w u v false l r = r

  module _ (w : Window) where
    pub note-kept : (g : ℕ) → SameBut c w (note_nonempty w g)
    unfolding note_nonempty
    note-kept g = refl

    pub drop-kept : SameBut c w (drop_block_marks w)
    drop-kept = kept_either w (with_header w (set_retired_blocks w.header 0)) w (eqb w.header.retired_held 0) refl refl

    pub split-kept : (b : ℕ) → SameBut c w (split_block w b)
    unfolding split_block
    split-kept b = bool (is_set w.header.retired_blocks b) (λ e. rw e) (λ e. rw e)

  -- ---- release and revival

  pub release-page-kept : (w : Window) (g k : ℕ) → SameBut c w (release_page_of w g k).after
  unfolding release_page_of
  release-page-kept w g k =
      let d = drain_page 64 0 all_positions k (w.pages g) in
      let u = with_page (with_header w (set_held w.header (w.header.retired_held - length d.out))) g (unless_emptied_of d.page) in
      let v = note_nonempty u g in
      let x = set_marks v (g / 64) (clear_bit (v.blocks (g / 64)).retired (g % 64)) in
      kept_either w v (drop_block_marks x) (holds_value d.page) (note-kept u g) (drop-kept x ∙ note-kept u g)

  pub revive-kept : (w : Window) (g : ℕ) → SameBut c w (revive w g).after
  unfolding revive
  revive-kept w g =
      let v = split_block w (g / 64) in
      let split = split-kept w (g / 64) in
      kept-returned w (cond (is_retired v g) (release_page_of v g 64) (returned_by v [])) (returned_by w []) (is_retired w g)
      (kept-returned w (release_page_of v g 64) (returned_by v []) (is_retired v g) (release-page-kept v g 64 ∙ split) split)
      refl

  units-kept : (f b : ℕ) (w : Window) → SameBut c w (release_units f b w).after
  unfolding release_units
  units-kept zero b w = drop-kept w
  units-kept (suc f) zero w = drop-kept w
  units-kept (suc f) (suc b) w =
      let g = next_retired_of w in
      let p = release_page_of w g b in
      bool (ltb g (pages_of w))
      (λ e. rw (e, release_units) (units-kept f (b - length p.out) (move_cursor p.after g) ∙ release-page-kept w g b))
      (λ e. rw (e, release_units) (drop-kept w))

  pub release-kept : (b : ℕ) (w : Window) → SameBut c w (release b w).after
  release-kept b w = units-kept b b w

  pub release-pages-kept : (n g k : ℕ) (w : Window) → SameBut c w (release_pages_of n g k w).after
  unfolding release_pages_of
  release-pages-kept zero g k w = refl
  release-pages-kept (suc n) g zero w = refl
  release-pages-kept (suc n) g (suc k) w =
      let p = cond (holds_value (w.pages g)) (release_page_of w g (suc k)) (returned_by w []) in
      release-pages-kept n (suc g) (suc k - length p.out) p.after
      ∙ kept-returned w (release_page_of w g (suc k)) (returned_by w []) (holds_value (w.pages g)) (release-page-kept w g (suc k)) refl

  -- ---- whole pages retired

  module _ (w : Window) (b : ℕ) where
    in-block-kept : (from to : ℕ) → SameBut c w (retire_in_block w from to b)
    unfolding retire_in_block
    in-block-kept from to = split-kept w b

    block-kept : SameBut c w (retire_block_of w b)
    unfolding retire_block_of
    block-kept = refl

    pub next-kept : (from to : ℕ) (several : Bool) → SameBut c w (retire_next w b from to several)
    next-kept from to several =
        kept_either w (cond (several && covers_block from to b) (retire_block_of w b) (retire_in_block w from to b)) w (ltb from (64 * b + 64) && ltb (64 * b) to)
        (kept_either w (retire_block_of w b) (retire_in_block w from to b) (several && covers_block from to b) block-kept (in-block-kept from to))
        refl

  module _ (from to : ℕ) where
    blocks-kept : (n b : ℕ) (w : Window) (several : Bool) → SameBut c w (retire_blocks_of n b w from to several)
    unfolding retire_blocks_of
    blocks-kept zero b w several = refl
    blocks-kept (suc n) b w several = blocks-kept n (suc b) (retire_next w b from to several) several ∙ next-kept w b from to several

    pages-kept : (w : Window) → SameBut c w (retire_pages_of w from to)
    unfolding retire_pages_of
    pages-kept w =
        let several = not (eqb (from / 64) ((to - 1) / 64)) in
        kept_either w (retire_blocks_of (blocks_of w) 0 w from to several) w (ltb from to) (blocks-kept (blocks_of w) 0 w several) refl

  pub all-kept : (w : Window) → SameBut c w (retire_all_of w)
  unfolding retire_all_of
  all-kept w = bool (eqb (w.header.retired_held + w.header.len) 0) (λ e. rw e) (λ e. rw e)

  -- ---- insert and exchange

  module _ (w : Window) (s : ℕ) where
    pub insert-kept : (v : ℕ) → SameBut c w (insert_step w s v).after
    unfolding insert_step
    insert-kept v =
        let g = page_of w s in
        let u = (revive w g).after in
        let i = insert_page w.header.n (u.pages g) s v in
        let x = with_page u g i.page in
        kept_either w (add_live_of (count_promotion_of (note_nonempty x g) i.promotes) (g / 64) 1) x (is_new i.answer)
        (note-kept x g ∙ revive-kept w g)
        (revive-kept w g)

    pub exchange-kept : (v : ℕ) → SameBut c w (exchange_step w s v).after
    unfolding exchange_step
    exchange-kept v = bool (finds s (live_here w s)) (λ e. rw e) (λ e. rw e)

-- ---- values taken out of a range, whose demotions are counted as its

pub slots_kept : (w : Window) (g : ℕ) (P : ℕ → Bool) → SameBut (some Range) w (remove_slots_of w g P).after
unfolding remove_slots_of
slots_kept w g P =
    let d = drain_page 64 0 P 64 (w.pages g) in
    let demote_at = w.header.demote_at in
    let u = with_page (sub_live_of w (g / 64) (length d.out)) g (after_removal demote_at d.page) in
    kept-returned (some Range) w (returned_by w []) (returned_by (count_demotion_of Range (note_nonempty u g) (demotes demote_at d.page)) d.out) (is_retired w g || not (holds_value (w.pages g)))
    refl (note-kept (some Range) u g)

module _ (w : Window) where
  pub first-kept : (a : ℕ) → SameBut (some Range) w (first_page w a).after
  first-kept a =
      kept-returned (some Range) w (returned_by w []) (remove_slots_of w (a / 64) (λ (j : ℕ). leb (a % 64) j)) (eqb (a % 64) 0) refl (slots_kept w (a / 64) _)

  pub last-kept : (e : ℕ) → SameBut (some Range) w (last_page w e).after
  last-kept e =
      kept-returned (some Range) w (returned_by w []) (remove_slots_of w (e / 64) (λ (j : ℕ). ltb j (e % 64))) (eqb (e % 64) 0) refl (slots_kept w (e / 64) _)

pub stretch-kept : (w : Window) (a e : ℕ) → SameBut (some Range) w (retire_stretch w a e).after
unfolding retire_stretch
stretch-kept w a e =
    let u = first_page w a in
    let v = last_page u.after e in
    kept-returned (some Range) w (inside_page w a e) (returned_by (retire_pages_of v.after ((a + 63) / 64) (e / 64)) (u.out ++ v.out)) (eqb (a / 64) ((e - 1) / 64))
    (slots_kept w (a / 64) _)
    (pages-kept (some Range) ((a + 63) / 64) (e / 64) v.after ∙ last-kept u.after e ∙ first-kept w a)

pub range-kept : (w : Window) (start count : ℕ) → SameBut (some Range) w (retire_range_of w start count).after
unfolding retire_range_of
range-kept w start count =
    let u = retire_stretch w start (capacity_of w) in
    let v = retire_stretch u.after 0 (start + count - capacity_of w) in
    kept-returned (some Range) w (retire_stretch w start (start + count)) (returned_by v.after (u.out ++ v.out)) (leb (start + count) (capacity_of w))
    (stretch-kept w start (start + count))
    (stretch-kept u.after 0 (start + count - capacity_of w) ∙ stretch-kept w start (capacity_of w))

-- ---- a single value taken out

pub remove-kept : (w : Window) (s : ℕ) → SameBut (some Single) w (remove_step w s).after
unfolding remove_step
remove-kept w s =
    let g = page_of w s in
    let d = w.header.demote_at in
    let p = take_cell_of (w.pages g) (cell_of (w.pages g) (s % 64)) in
    let u = with_page (sub_live_of w (g / 64) 1) g (after_removal d p) in
    kept_either (some Single) w (count_demotion_of Single (note_nonempty u g) (demotes d p)) w (finds s (live_here w s)) (note-kept (some Single) u g) refl
