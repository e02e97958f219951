-- What remove_range makes of the second count: it counts every page that it made sparse, and rises by two at the most. Assumes nothing.
use mathlib.Core.Path.{◌≡◌, refl, sym, ap, ◌∙◌}
use mathlib.Core.Bool.{Bool, cond, not, ◌&&◌, ◌||◌}
use mathlib.Core.Option.{none}
use mathlib.Core.Logic.{◌⊎◌, ⊎_elim, inl, inr}
use Prim.Native.Nat.{ℕ, zero, suc, ◌+◌, ◌-◌, ◌*◌, ◌/◌, ◌%◌, ◌^◌, ◌≤◌, ◌<◌}
use native.Mathlib.Omega.{arith}
use native.Mathlib.Nat.{mod-lt}
use native.Mathlib.Decide.{ℕ_discrete, dec_lt}
use lib.Dec.{eqb, leb, ltb}
use lib.ListN.{length}
use borrow.Author.Tests.{eq-eqb, ne_eqb, eqb-true}
use Rattle.words.proofs.CaseLaws.{bool, both}
use Rattle.words.specs.Word.{is_set}
use Rattle.window.specs.declared.Cause.TheVariants.{Range}
use Rattle.window.specs.Memory.{page_count_of}
use Rattle.window.proofs.MemoryLaws.{capacity-pages}
use Rattle.model.specs.Table.{sum}
use Rattle.model.specs.Demand3.{one}
use Rattle.model.specs.Window.{Page, Window, size_of, capacity_of, pages_of, blocks_of, cell_of, is_retired, upd}
use Rattle.model.specs.Pages.{holds_value, take_cell_of, packed, unless_emptied_of, demotes, after_removal, drain_page}
use Rattle.model.specs.Steps.{with_header, with_page, set_cursor, note_nonempty, sub_live_of, count_demotion_of, drop_block_marks, split_block, all_positions, release_page_of, next_retired_of, move_cursor, release_units, release, remove_slots_of, retire_in_block, retire_block_of, covers_block, retire_blocks_of, retire_pages_of, retire_stretch, retire_range_of, range_step}
use Rattle.laws_soundness.specs.Change.{Kept, SameBut}
use Rattle.laws_soundness.specs.Retire.{retire_next, inside_page, first_page, last_page}
use Rattle.laws_soundness.proofs.PageLaws.{one-lt}
use Rattle.laws_soundness.proofs.SumLaws.{sum-zero, sum-suc, sum-add, sum-none, sum-but}
use Rattle.laws_soundness.proofs.KeptLaws.{drop-kept, next-kept, release-page-kept}
use Rattle.laws_demotions.specs.Demotions.{became_sparse, sparser}
use Rattle.laws_demotions.proofs.SparseLaws.{same_kind, emptied-sparse, removal-sparse}

-- ---- the kind of a page that is emptied, drained, or settled after a removal

drain-kind : (m j : ℕ) (P : ℕ → Bool) (k : ℕ) (p : Page) → (drain_page m j P k p).page.kind ≡ p.kind
unfolding drain_page
drain-kind zero j P k p = refl
drain-kind (suc m) j P zero p = refl
drain-kind (suc m) j P (suc k) p =
    bool (P j && is_set p.occupied j)
    (λ e. rw (e, drain_page) (drain-kind m (suc j) P k (take_cell_of p (cell_of p j))))
    (λ e. rw (e, drain_page) (drain-kind m (suc j) P (suc k) p))

unless-kind : (q : Page) → ((unless_emptied_of q).kind ≡ q.kind) ⊎ ((unless_emptied_of q).kind ≡ 0)
unless-kind q = bool (holds_value q) (λ h. inl (rw h)) (λ h. inr (rw h))

after-kind : (d : ℕ) (q : Page) → (after_removal d q).kind ≤ q.kind
unfolding packed
after-kind d q =
    bool (demotes d q)
    (λ e. rw e (omega (arith, eqb-true q.kind 2 (both (eqb q.kind 2) _ e).0)))
    (λ e. rw e (⊎_elim (λ s. omega (arith, s)) (λ z. omega (arith, z)) (unless-kind q)))

-- ---- pages that became sparse, over two steps

sum-each : (n : ℕ) (f h : ℕ → ℕ) → ((g : ℕ) → f g ≤ h g) → sum n f ≤ sum n h
sum-each zero f h l = omega (arith, sum-zero f)
sum-each (suc n) f h l = omega (arith, sum-suc n f, sum-suc n h, sum-each n f h l, l n)

page-twice : (p q r : Page) → q.kind ≤ p.kind → r.kind ≤ q.kind → one (became_sparse p r) ≤ one (became_sparse p q) + one (became_sparse q r)
page-twice p q r l m =
    bool (became_sparse p r)
    (λ e.
    let t = both (eqb p.kind 2) _ e in
    let a = eqb-true p.kind 2 t.0 in
    let b = eqb-true r.kind 1 t.1 in
    elim (ℕ_discrete q.kind 2) [
      | yes z ↦ let s : one (became_sparse q r) ≡ 1 = rw (eq-eqb q.kind 2 z, t.1) in omega (arith, s, one-lt (became_sparse p r))
      | no z ↦
          let k : q.kind ≡ 1 = omega arith in
          let s : one (became_sparse p q) ≡ 1 = rw (t.0, eq-eqb q.kind 1 k) in
          omega (arith, s, one-lt (became_sparse p r))
    ])
    (λ e. let s = ap one e in omega (arith, s))

-- v is what a step leaves of w: how it raised the second count, by `most` at the most
pub record Counted (most : ℕ) (w v : Window) : Type 0 where
  pub rise : ℕ
  pub few : rise ≤ most
  pub range : v.header.range_demotions % 2 ^ 64 ≡ (w.header.range_demotions + rise) % 2 ^ 64
  pub room : w.header.range_demotions < 2 ^ 64 → v.header.range_demotions < 2 ^ 64
  pub sparse : sparser w v ≤ rise
  pub size : size_of v ≡ size_of w
  pub below : (g : ℕ) → (v.pages g).kind ≤ (w.pages g).kind

pub weaken : (m n : ℕ) (w v : Window) → m ≤ n → Counted m w v → Counted n w v
weaken m n w v l t = record { rise = t.rise; few = omega (arith, t.few); range = t.range; room = t.room; sparse = t.sparse; size = t.size; below = t.below }

then : (m n : ℕ) (w v z : Window) → Counted m w v → Counted n v z → Counted (m + n) w z
then m n w v z a b =
    let f : ℕ → ℕ = λ g. one (became_sparse (w.pages g) (v.pages g)) in
    let h : ℕ → ℕ = λ g. one (became_sparse (v.pages g) (z.pages g)) in
    let same : sparser v z ≡ sum (pages_of w) h = ap (λ (k : ℕ). sum (page_count_of k) h) a.size in
    let each = sum-each (pages_of w) (λ (g : ℕ). one (became_sparse (w.pages g) (z.pages g))) (λ (g : ℕ). f g + h g) (λ g. page-twice (w.pages g) (v.pages g) (z.pages g) (a.below g) (b.below g)) in
    record {
      rise = a.rise + b.rise;
      few = omega (arith, a.few, b.few);
      range = omega (arith, a.range, b.range);
      room = λ l. b.room (a.room l);
      sparse = omega (arith, each, sum-add (pages_of w) f h, same, a.sparse, b.sparse);
      size = b.size ∙ a.size;
      below = λ g. omega (arith, a.below g, b.below g);
    }

-- ---- steps that make no page sparse and count nothing

-- each page has its kind, or is emptied
record Empties (w v : Window) : Type 0 where
  kinds : (g : ℕ) → ((v.pages g).kind ≡ (w.pages g).kind) ⊎ ((v.pages g).kind ≡ 0)
  kept : SameBut none w v

empties-then : (w v z : Window) → Empties w v → Empties v z → Empties w z
empties-then w v z a b = record {
  kinds = λ g. ⊎_elim (λ s. ⊎_elim (λ t. inl (s ∙ t)) (λ t. inr (s ∙ t)) (a.kinds g)) (λ s. inr s) (b.kinds g);
  kept = b.kept ∙ a.kept;
}

same-empties : (w v : Window) → v.pages ≡ w.pages → SameBut none w v → Empties w v
same-empties w v p k = record { kinds = λ g. inl (ap (λ (f : ℕ → Page). (f g).kind) p); kept = k }

empties-counted : (w v : Window) → Empties w v → Counted 0 w v
empties-counted w v t =
    let none-sparse = sum-none (pages_of w) (λ (g : ℕ). one (became_sparse (w.pages g) (v.pages g)))
    (λ g l. ap one (⊎_elim (λ s. same_kind (w.pages g) (v.pages g) s) (λ s. emptied-sparse (w.pages g) (v.pages g) s) (t.kinds g))) in
    let same = ap (λ (k : Kept). k.range) t.kept in
    record {
      rise = 0;
      few = omega arith;
      range = omega (arith, same);
      room = λ l. omega (arith, same);
      sparse = omega (arith, none-sparse);
      size = ap (λ (k : Kept). k.limits.size) t.kept;
      below = λ g. ⊎_elim (λ s. omega (arith, s)) (λ s. omega (arith, s)) (t.kinds g);
    }

pub still : (w : Window) → Counted 0 w w
still w = empties-counted w w (same-empties w w refl refl)

-- ---- whole pages retired: their marks alone change

split-pages : (w : Window) (b : ℕ) → (split_block w b).pages ≡ w.pages
unfolding split_block
split-pages w b = bool (is_set w.header.retired_blocks b) (λ e. rw e) (λ e. rw e)

in-block-pages : (w : Window) (from to b : ℕ) → (retire_in_block w from to b).pages ≡ w.pages
unfolding retire_in_block
in-block-pages w from to b = split-pages w b

block-pages : (w : Window) (b : ℕ) → (retire_block_of w b).pages ≡ w.pages
unfolding retire_block_of
block-pages w b = refl

next-pages : (w : Window) (b from to : ℕ) (several : Bool) → (retire_next w b from to several).pages ≡ w.pages
next-pages w b from to several =
    bool (ltb from (64 * b + 64) && ltb (64 * b) to)
    (λ e. rw e (bool (several && covers_block from to b) (λ c. rw c (block-pages w b)) (λ c. rw c (in-block-pages w from to b))))
    (λ e. rw e)

blocks-empties : (n b : ℕ) (w : Window) (from to : ℕ) (several : Bool) → Empties w (retire_blocks_of n b w from to several)
unfolding retire_blocks_of
blocks-empties zero b w from to several = same-empties w w refl refl
blocks-empties (suc n) b w from to several =
    let v = retire_next w b from to several in
    empties-then w v (retire_blocks_of n (suc b) v from to several) (same-empties w v (next-pages w b from to several) (next-kept none w b from to several)) (blocks-empties n (suc b) v from to several)

pages-empties : (w : Window) (from to : ℕ) → Empties w (retire_pages_of w from to)
unfolding retire_pages_of
pages-empties w from to =
    let several = not (eqb (from / 64) ((to - 1) / 64)) in
    bool (ltb from to) (λ e. rw e (blocks-empties (blocks_of w) 0 w from to several)) (λ e. rw e (same-empties w w refl refl))

-- ---- release: pages keep their kind until they are emptied

module _ (w : Window) (g k h : ℕ) where
  abbrev rest : Page
  rest = (drain_page 64 0 all_positions k (w.pages g)).page

  written : ((release_page_of w g k).after.pages h).kind ≡ (upd w.pages g (unless_emptied_of rest) h).kind
  unfolding release_page_of note_nonempty
  written =
      let d = drain_page 64 0 all_positions k (w.pages g) in
      bool (holds_value d.page) (λ e. rw e) (λ e. rw e (bool (eqb (w.header.retired_held - length d.out) 0) (λ z. rw z) (λ z. rw z)))

  page-kinds : (((release_page_of w g k).after.pages h).kind ≡ (w.pages h).kind) ⊎ (((release_page_of w g k).after.pages h).kind ≡ 0)
  page-kinds =
      elim (ℕ_discrete h g) [
        | yes e ↦
            let own : (upd w.pages g (unless_emptied_of rest) h).kind ≡ (unless_emptied_of rest).kind = rw (eq-eqb h g e) in
            ⊎_elim
            (λ s. inl (written ∙ own ∙ s ∙ drain-kind 64 0 all_positions k (w.pages g) ∙ ap (λ (x : ℕ). (w.pages x).kind) (sym e)))
            (λ s. inr (written ∙ own ∙ s))
            (unless-kind rest)
        | no e ↦ inl (written ∙ rw (ne_eqb h g e))
      ]

page-empties : (w : Window) (g k : ℕ) → Empties w (move_cursor (release_page_of w g k).after g)
page-empties w g k = record { kinds = page-kinds w g k; kept = release-page-kept none w g k }

drop-empties : (w : Window) → Empties w (drop_block_marks w)
drop-empties w = same-empties w (drop_block_marks w) (bool (eqb w.header.retired_held 0) (λ e. rw e) (λ e. rw e)) (drop-kept none w)

release-empties : (f b : ℕ) (w : Window) → Empties w (release_units f b w).after
unfolding release_units
release-empties zero b w = drop-empties w
release-empties (suc f) zero w = drop-empties w
release-empties (suc f) (suc b) w =
    let g = next_retired_of w in
    let p = release_page_of w g b in
    bool (ltb g (pages_of w))
    (λ e. rw (e, release_units) (empties-then w (move_cursor p.after g) (release_units f (b - length p.out) (move_cursor p.after g)).after (page-empties w g b) (release-empties f (b - length p.out) (move_cursor p.after g))))
    (λ e. rw (e, release_units) (drop-empties w))

-- ---- values of one page taken out: counted if it became sparse

-- page g replaced by q, and a demotion counted or not
put-counted : (w : Window) (g k : ℕ) (q : Page) (b : Bool) → q.kind ≤ (w.pages g).kind → one (became_sparse (w.pages g) q) ≤ one b
    → Counted 1 w (count_demotion_of Range (note_nonempty (with_page (sub_live_of w (g / 64) k) g q) g) b)
unfolding note_nonempty
put-counted w g k q b l s =
    let f : ℕ → ℕ = λ h. one (became_sparse (w.pages h) (upd w.pages g q h)) in
    let z : ℕ → ℕ = λ h. 0 in
    let own : f g ≡ one (became_sparse (w.pages g) q) = rw (eq-eqb g g refl) in
    let others : (h : ℕ) → (h ≡ g → ⊥) → f h ≡ 0 = λ h e. rw (ne_eqb h g e) (ap one (same_kind (w.pages h) (w.pages h) refl)) in
    record {
      rise = one b;
      few = omega (arith, one-lt b);
      range = omega arith;
      room = λ m. mod-lt (w.header.range_demotions + one b) {m = 2 ^ 64} (omega arith);
      sparse = elim (dec_lt g (pages_of w)) [
        | yes m ↦ omega (arith, own, sum-none (pages_of w) z (λ h y. refl), sum-but (pages_of w) f z g m (λ h y e. others h e))
        | no m ↦ omega (arith, sum-none (pages_of w) f (λ h y. others h (λ e. omega arith)))
      ];
      size = refl;
      below = λ h. elim (ℕ_discrete h g) [ yes e ↦ rw (eq-eqb h g e, e) l | no e ↦ rw (ne_eqb h g e) (omega arith) ];
    }

slots-counted : (w : Window) (g : ℕ) (P : ℕ → Bool) → Counted 1 w (remove_slots_of w g P).after
unfolding remove_slots_of
slots-counted w g P =
    let d = drain_page 64 0 P 64 (w.pages g) in
    let demote_at = w.header.demote_at in
    let same = drain-kind 64 0 P 64 (w.pages g) in
    let made = ap one (removal-sparse (w.pages g) d.page same demote_at) in
    bool (is_retired w g || not (holds_value (w.pages g)))
    (λ e. rw e (weaken 0 1 w w (omega arith) (still w)))
    (λ e. rw e (put-counted w g (length d.out) (after_removal demote_at d.page) (demotes demote_at d.page) (omega (arith, after-kind demote_at d.page, same)) (omega (arith, made))))

-- ---- a stretch, and a range

-- whether a stretch that begins or ends at q has a partial page there
abbrev partial : ℕ → ℕ
partial q = cond (eqb (q % 64) 0) 0 1

first_counted : (w : Window) (a : ℕ) → Counted (partial a) w (first_page w a).after
first_counted w a = bool (eqb (a % 64) 0) (λ e. rw e (still w)) (λ e. rw e (slots-counted w (a / 64) _))

last-counted : (w : Window) (e : ℕ) → Counted (partial e) w (last_page w e).after
last-counted w e = bool (eqb (e % 64) 0) (λ z. rw z (still w)) (λ z. rw z (slots-counted w (e / 64) _))

stretch-counted : (w : Window) (a e most : ℕ) → 1 ≤ most → partial a + partial e ≤ most → Counted most w (retire_stretch w a e).after
unfolding retire_stretch
stretch-counted w a e most l m =
    let u = (first_page w a).after in
    let v = (last_page u e).after in
    let z = retire_pages_of v ((a + 63) / 64) (e / 64) in
    bool (eqb (a / 64) ((e - 1) / 64))
    (λ t. rw t (weaken 1 most w (inside_page w a e).after l (slots-counted w (a / 64) _)))
    (λ t. rw t
    (weaken (partial a + partial e + 0) most w z (omega arith)
    (then (partial a + partial e) 0 w v z (then (partial a) (partial e) w u v (first_counted w a) (last-counted u e)) (empties-counted v z (pages-empties v ((a + 63) / 64) (e / 64))))))

partial_le : (q : ℕ) → partial q ≤ 1
partial_le q = bool (eqb (q % 64) 0) (λ e. rw e (omega arith)) (λ e. rw e (omega arith))

range-counted : (w : Window) (start count : ℕ) → Counted 2 w (retire_range_of w start count).after
unfolding retire_range_of
range-counted w start count =
    let end = capacity_of w in
    let u = (retire_stretch w start end).after in
    let e = start + count - end in
    let whole : partial end ≡ 0 = rw (eq-eqb (end % 64) 0 (omega (arith, capacity-pages (size_of w)))) in
    bool (leb (start + count) end)
    (λ t. rw t (stretch-counted w start (start + count) 2 (omega arith) (omega (arith, partial_le start, partial_le (start + count)))))
    (λ t. rw t
    (then 1 1 w u (retire_stretch u 0 e).after (stretch-counted w start end 1 (omega arith) (omega (arith, partial_le start, whole))) (stretch-counted u 0 e 1 (omega arith) (omega (arith, partial_le e)))))

-- the whole call, with the release that follows
pub step-counted : (w : Window) (start count : ℕ) → Counted 2 w (range_step w start count).after
unfolding range_step
step-counted w start count =
    let t = (retire_range_of w start count).after in
    let moved = with_header t (set_cursor t.header (start / 64)) in
    let v = cond (eqb w.header.retired_held 0) moved t in
    let cursor : Empties t v = bool (eqb w.header.retired_held 0) (λ e. rw e (same-empties t moved refl refl)) (λ e. rw e (same-empties t t refl refl)) in
    let z = (release 256 v).after in
    then 2 0 w t z (range-counted w start count) (empties-counted t z (empties-then t v z cursor (release-empties 256 256 v)))
