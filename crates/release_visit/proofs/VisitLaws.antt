-- A release visit, over plain variables: a page inspected and the cursor moved, one turn of the loop, and its ends. Assumes nothing.
use Rattle.std.specs.Prelude.{None, Some}
use mathlib.Core.Path.{◌≡◌, refl, sym, ap, ◌∙◌, subst}
use mathlib.Core.Bool.{true, false, cond, true≢false}
use mathlib.Core.List.{List, [], ◌++◌, append-nil, append_assoc}
use mathlib.Core.Logic.{◌⊎◌, ⊎_elim}
use Prim.Native.Nat.{ℕ, suc, ◌+◌, ◌-◌, ◌*◌, ◌%◌, ◌≤◌, ◌<◌}
use native.Mathlib.Omega.{arith}
use lib.Dec.{eqb, ltb}
use lib.ListN.{length}
use borrow.Author.Tests.{ltb-true}
use Rattle.words.proofs.CaseLaws.{bool}
use Rattle.window.specs.declared.AdaptiveReceiverPacketWindow.{AdaptiveReceiverPacketWindow}
use Rattle.window.specs.Memory.{Memory, memory, page_count_of, block_count_of, words_per_block}
use Rattle.window.specs.Refusals.{LongEnough}
use Rattle.model.specs.Window.{Page, Window, window, decode, pages_of, is_retired, no_page, no_block}
use Rattle.model.specs.Pages.{holds_value}
use Rattle.model.specs.Steps.{set_cursor, with_header, drop_block_marks, release_page_of, next_retired_of, move_cursor, Release, release_of, release}
use Rattle.model.specs.Sound.{Sound}
use Rattle.page_base.specs.Page.{words_at}
use Rattle.page_base.proofs.DecodeLaws.{header_at, page-at}
use Rattle.page_base.proofs.LiveLaws.{page-placed}
use Rattle.page_remove.specs.Promises.{Wrote, stretch}
use Rattle.page_remove.proofs.WroteLaws.{wrote_then, stretch-then, stretch-length}
use Rattle.block_marks.specs.Promises.{ChangesHeader}
use Rattle.block_marks.proofs.BlockLaws.{decode-header}
use Rattle.laws_soundness.specs.Change.{Limits, limits_of}
use Rattle.laws_soundness.proofs.LimitLaws.{drop-limits}
use Rattle.laws_soundness.proofs.ProperLaws.{proper-decode}
use Rattle.laws_soundness.proofs.VisitLaws.{proper-visit, next-is, next-none, none-next, units-zero, units-none, release-visits}
use Rattle.page_release.specs.declared.PageReleased.{PageReleased}
use Rattle.page_release.specs.Promises.{Within, Inside, ReleasesPage}
use Rattle.release_visit.specs.Promises.{next_cursor_of, WithinNamed, FindsRetired, VisitsPage, Releases}

-- ---- the lists

pub within_none : (size : ℕ) (pages blocks : List ℕ) → WithinNamed size pages blocks pages blocks
within_none size pages blocks = record { pages_long = refl; blocks_long = refl; pages_past = refl; blocks_past = refl }

-- and then a page more
pub within-then : (size g : ℕ) (pages blocks pages₁ blocks₁ pages₂ blocks₂ : List ℕ) → g < page_count_of size
    → WithinNamed size pages blocks pages₁ blocks₁ → Within pages₁ blocks₁ g pages₂ blocks₂ → WithinNamed size pages blocks pages₂ blocks₂
within-then size g pages blocks pages₁ blocks₁ pages₂ blocks₂ l a b = record {
  pages_long = b.pages_long ∙ a.pages_long;
  blocks_long = b.blocks_long ∙ a.blocks_long;
  pages_past = b.pages_past (page_count_of size) l ∙ a.pages_past;
  blocks_past = b.blocks_past (block_count_of size) (omega arith) ∙ a.blocks_past;
}

-- the lists are as long as a header of the same limits names them
pub long_kept : (h w : AdaptiveReceiverPacketWindow) (sequences values : ℕ) (pages blocks pages' blocks' : List ℕ) → limits_of w ≡ limits_of h
    → WithinNamed h.window_size pages blocks pages' blocks' → LongEnough h.window_size sequences values (length pages) (length blocks)
    → LongEnough w.window_size sequences values (length pages') (length blocks')
long_kept h w sequences values pages blocks pages' blocks' e t long =
    subst (λ (x : Limits). LongEnough x.size sequences values (length pages') (length blocks')) (sym e) (record {
      sequences_long = long.sequences_long;
      values_long = long.values_long;
      pages_long = omega (arith, t.pages_long, long.pages_long);
      blocks_long = omega (arith, t.blocks_long, long.blocks_long);
    })

-- a page of a sound window
pub inside : (h : AdaptiveReceiverPacketWindow) (ss vs pages blocks l : List ℕ) (g : ℕ) → g < page_count_of h.window_size → words_per_block * block_count_of h.window_size ≤ length blocks
    → Sound (decode h (memory ss vs pages blocks)) → Inside h h.n ss vs pages blocks l g
inside h ss vs pages blocks l g below long ok = record { below = below; blocks_long = long; placed = page-placed h (memory ss vs pages blocks) ok g below }

-- ---- a page inspected

cursor-is : (p : Page) (g end : ℕ) → cond (eqb p.occupied 0) ((g + 1) % end) g ≡ cond (holds_value p) g ((g + 1) % end)
cursor-is p g end = bool (eqb p.occupied 0) (λ e. rw e) (λ e. rw e)

-- the cursor written to the header is the model's
cursor-moved : (h : AdaptiveReceiverPacketWindow) (m : Memory) (g end : ℕ) → end ≡ page_count_of h.window_size → g < end
    → decode (set_cursor h (next_cursor_of (words_at m.pages g) g end)) m ≡ move_cursor (decode h m) g
unfolding next_cursor_of decode
cursor-moved h m g end e l =
    ap (λ (c : ℕ). with_header (decode h m) (set_cursor h c))
    (ap (λ (p : Page). cond (eqb p.occupied 0) ((g + 1) % end) g) (sym (page-at h m g (omega arith)))
    ∙ cursor-is ((decode h m).pages g) g end
    ∙ ap (λ (x : ℕ). cond (holds_value ((decode h m).pages g)) g ((g + 1) % x)) e)

pub visit-gives : (h : AdaptiveReceiverPacketWindow) (ss vs pages blocks l : List ℕ) (g at limit end : ℕ) (r : PageReleased) (pages' blocks' l' : List ℕ) (cursor : ℕ)
    → end ≡ page_count_of h.window_size → g < end → words_per_block * block_count_of h.window_size ≤ length blocks
    → ReleasesPage h h.n ss vs pages blocks l g at limit r pages' blocks' l' → cursor ≡ next_cursor_of (words_at pages' g) g end
    → VisitsPage h ss vs pages blocks l g at limit (record { window = set_cursor r.window cursor; count = r.count; sound = r.sound }) pages' blocks' l'
visit-gives h ss vs pages blocks l g at limit end r pages' blocks' l' cursor e below long t moved =
    let i = inside h ss vs pages blocks l g (omega arith) long in
    record {
      within = t.within;
      wrote = t.wrote;
      few = t.few;
      limits = t.limits;
      sound = λ ok. t.sound (i ok);
      gives = λ ok.
          ap (λ (c : ℕ). decode (set_cursor r.window c) (memory ss vs pages' blocks')) moved
          ∙ cursor-moved r.window (memory ss vs pages' blocks') g end (e ∙ ap (λ (x : Limits). page_count_of x.size) (sym t.limits)) below
          ∙ ap (λ (v : Window). move_cursor v g) (t.gives (i ok));
      out = λ ok. t.out (i ok);
    }

-- ---- a page, and then the rest

-- what was released so far, and then what the rest gives
abbrev pub joined : List ℕ → ℕ → Release → Release
joined out units r = release_of r.after (out ++ r.out) (units + r.units)

joined-twice : (a b : List ℕ) (m n : ℕ) (r : Release) → joined a m (joined b n r) ≡ joined (a ++ b) (m + n) r
joined-twice a b m n r =
    let e : m + (n + r.units) ≡ m + n + r.units = omega arith in
    λ i. release_of r.after (sym (append_assoc a b r.out) i) (e i)

joined-none : (out : List ℕ) (units : ℕ) (w : Window) → joined out units (release_of w [] 0) ≡ release_of w out units
joined-none out units w = let e : units + 0 ≡ units = omega arith in λ i. release_of w (append-nil out i) (e i)

visits-at : (b : ℕ) (w : Window) (g : ℕ) → g ≡ next_retired_of w → ltb (next_retired_of w) (pages_of w) ≡ true →
    let p = release_page_of w g b in
    release (suc b) w ≡ joined p.out (1 + length p.out) (release (b - length p.out) (move_cursor p.after g))
visits-at b w g e i =
    release-visits b w i
    ∙ (λ j.
    let p = release_page_of w (sym e j) b in
    joined p.out (1 + length p.out) (release (b - length p.out) (move_cursor p.after (sym e j))))

-- ---- the loop

module _ (h : AdaptiveReceiverPacketWindow) (ss vs pages₀ blocks₀ l₀ : List ℕ) (at budget : ℕ) where
  abbrev before : Window
  before = decode h (memory ss vs pages₀ blocks₀)

  -- what was done so far, and what is left to do
  pub record Visiting (pages blocks l : List ℕ) (w : AdaptiveReceiverPacketWindow) (count units : ℕ) : Type 0 where
    pub within : WithinNamed h.window_size pages₀ blocks₀ pages blocks
    pub wrote : Wrote at count l₀ l
    pub few : count ≤ units
    pub paid : units ≤ budget
    pub limits : limits_of w ≡ limits_of h
    pub sound : Sound before → Sound (decode w (memory ss vs pages blocks))
    pub gives : Sound before → release budget before ≡ joined (stretch at count l) units (release (budget - units) (decode w (memory ss vs pages blocks)))

  module _ (pages blocks l : List ℕ) (w : AdaptiveReceiverPacketWindow) (count units : ℕ) (t : Visiting pages blocks l w count units) where
    abbrev v : Window
    v = decode w (memory ss vs pages blocks)

    -- ---- one turn: a page is inspected

    module _ (more : units < budget) (held : w.retired_held ≡ 0 → ⊥) where
      module _ (ok : Sound (decode h (memory ss vs pages₀ blocks₀))) where
        there : Sound v
        there = t.sound ok

        some : ltb (next_retired_of v) (pages_of v) ≡ true
        unfolding decode
        some = bool (ltb (next_retired_of v) (pages_of v)) (λ e. e) (λ e. absurd (held (next-none v there e)))

      -- values are held, but no page is found
      pub none_found : FindsRetired w blocks None → Sound before → ⊥
      unfolding decode
      none_found found ok = omega (arith, found.gives ss vs pages (there ok), ltb-true (next_retired_of v) (pages_of v) (some ok))

      module _ (g : ℕ) (found : FindsRetired w blocks (Some g)) (r : PageReleased) (pages' blocks' l' : List ℕ)
          (visit : VisitsPage w ss vs pages blocks l g (at + count) (budget - (units + 1)) r pages' blocks' l') (room : at + budget ≤ length l₀) where
        next : Sound before → g ≡ next_retired_of v
        next ok = found.gives ss vs pages (there ok)

        page-inside : g < page_count_of w.window_size
        page-inside = found.bounded

        abbrev b : ℕ
        b = budget - (units + 1)

        abbrev v' : Window
        v' = decode r.window (memory ss vs pages' blocks')

        size-kept : w.window_size ≡ h.window_size
        size-kept = ap (λ (x : Limits). x.size) t.limits

        -- as many values as were counted
        counted : length (stretch (at + count) r.count l') ≡ r.count
        counted = stretch-length (at + count) r.count l' (omega (arith, visit.few, visit.wrote.long, t.wrote.long, t.few))

        rest-is : Sound before → release (budget - units) v ≡ joined (stretch (at + count) r.count l') (1 + r.count) (release (b - r.count) v')
        rest-is ok =
            let e : budget - units ≡ suc b = omega arith in
            let out = visit.out (there ok) in
            let n : r.count ≡ length (release_page_of v g b).out = sym counted ∙ ap (λ (x : List ℕ). length x) out in
            ap (λ (x : ℕ). release x v) e ∙ visits-at b v g (next ok) (some ok)
            ∙ (λ j. joined (sym out j) (1 + sym n j) (release (b - sym n j) (sym (visit.gives (there ok)) j)))

        turn-sound : Sound before → Sound v'
        unfolding decode
        turn-sound ok =
            let n = next-is v (there ok) (ltb-true (next_retired_of v) (pages_of v) (some ok)) in
            subst Sound (sym (visit.gives (there ok)))
            (proper-visit v g b (proper-decode w (memory ss vs pages blocks) (there ok)) page-inside (ap (is_retired v) (next ok) ∙ n.0)).sound

        pub visiting-turn : Visiting pages' blocks' l' r.window (count + r.count) (units + 1 + r.count)
        visiting-turn = record {
          within = within-then h.window_size g pages₀ blocks₀ pages blocks pages' blocks' (subst (λ (x : ℕ). g < page_count_of x) size-kept page-inside) t.within visit.within;
          wrote = wrote_then at count r.count l₀ l l' t.wrote visit.wrote;
          few = omega (arith, t.few);
          paid = omega (arith, visit.few);
          limits = visit.limits ∙ t.limits;
          sound = turn-sound;
          gives = λ ok.
              let s = stretch at count l in
              let o = stretch (at + count) r.count l' in
              let e : b - r.count ≡ budget - (units + 1 + r.count) = omega arith in
              let u : units + (1 + r.count) ≡ units + 1 + r.count = omega arith in
              t.gives ok ∙ ap (joined s units) (rest-is ok) ∙ joined-twice s o units (1 + r.count) (release (b - r.count) v')
              ∙ (λ j. joined (sym (stretch-then at count r.count l₀ l l' t.wrote visit.wrote) j) (u j) (release (e j) v'));
        }

        -- the page's words do not fit each other
        pub visit-unsound : r.sound ≡ false → Sound before → ⊥
        visit-unsound e ok = true≢false (sym (visit.sound (there ok)) ∙ e)

    -- ---- the ends

    -- the state is not sound
    pub visiting-unsound : (Sound before → ⊥) → Releases h ss vs pages₀ blocks₀ l₀ at budget (record { window = w; count = count; units = units; sound = false }) pages blocks l
    visiting-unsound never = record {
      within = t.within;
      wrote = t.wrote;
      few = t.few;
      paid = t.paid;
      limits = t.limits;
      sound = λ ok. absurd (never ok);
      gives = λ ok. absurd (never ok);
    }

    -- the budget is spent, or nothing is held
    module _ (s : AdaptiveReceiverPacketWindow) (settled : ChangesHeader drop_block_marks w s) (done : (budget ≤ units) ⊎ (w.retired_held ≡ 0)) where
      settled-limits : limits_of s ≡ limits_of w
      settled-limits =
          let any = window w (λ (g : ℕ). no_page) (λ (b : ℕ). no_block) in
          ap (λ (y : Window). limits_of y.header) (settled.gives any refl) ∙ drop-limits any

      settled_is : decode s (memory ss vs pages blocks) ≡ drop_block_marks v
      settled_is = decode-header w s (memory ss vs pages blocks) (ap (λ (x : Limits). x.size) settled-limits) ∙ settled.gives v (header_at w (memory ss vs pages blocks))

      nothing_left : Sound v → release (budget - units) v ≡ release_of (drop_block_marks v) [] 0
      unfolding decode
      nothing_left ok =
          ⊎_elim
          (λ z. let e : budget - units ≡ 0 = omega arith in ap (λ (x : ℕ). release x v) e ∙ units-zero v 0)
          (λ z. units-none v (budget - units) (budget - units) (none-next v ok z))
          done

      pub visiting-ends : Releases h ss vs pages₀ blocks₀ l₀ at budget (record { window = s; count = count; units = units; sound = true }) pages blocks l
      visiting-ends = record {
        within = t.within;
        wrote = t.wrote;
        few = t.few;
        paid = t.paid;
        limits = settled-limits ∙ t.limits;
        sound = λ ok. refl;
        gives = λ ok.
            sym (t.gives ok ∙ ap (joined (stretch at count l) units) (nothing_left (t.sound ok) ∙ ap (λ (x : Window). release_of x [] 0) (sym settled_is))
            ∙ joined-none (stretch at count l) units (decode s (memory ss vs pages blocks)));
      }
