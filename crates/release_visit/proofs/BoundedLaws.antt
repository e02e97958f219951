-- clear_bounded's release, over plain variables: one turn of the loop, and its ends. Assumes nothing.
use mathlib.Core.Path.{◌≡◌, refl, sym, ap, ◌∙◌, subst}
use mathlib.Core.Bool.{true, false, true≢false}
use mathlib.Core.List.{List, [], ◌++◌, append-nil, append_assoc}
use mathlib.Core.Logic.{◌⊎◌, ⊎_elim}
use Prim.Native.Nat.{ℕ, suc, ◌+◌, ◌-◌, ◌*◌, ◌≤◌, ◌<◌}
use native.Mathlib.Omega.{arith}
use native.Mathlib.Decide.{ℕ_discrete, dec_lt}
use lib.Dec.{ltb}
use lib.ListN.{length}
use borrow.Author.Tests.{ltb-true}
use Rattle.words.proofs.CaseLaws.{bool}
use Rattle.words.specs.First.{first_from_of}
use Rattle.words.proofs.FirstLaws.{IsFirst, first-is}
use Rattle.window.specs.declared.AdaptiveReceiverPacketWindow.{AdaptiveReceiverPacketWindow}
use Rattle.window.specs.Memory.{memory, page_count_of, block_count_of, words_per_block}
use Rattle.model.specs.Window.{Window, decode, pages_of, is_retired}
use Rattle.model.specs.Pages.{holds_value}
use Rattle.model.specs.Steps.{Returned, returned_by, release_page_of, next_retired_of, release_pages_of}
use Rattle.model.specs.Sound.{Sound}
use Rattle.page_base.proofs.DecodeLaws.{header_at}
use Rattle.page_remove.specs.Promises.{Wrote, stretch}
use Rattle.page_remove.proofs.WroteLaws.{wrote_then, stretch-then, stretch-length}
use Rattle.page_remove.proofs.DrainLoopLaws.{wrote_none}
use Rattle.block_search.specs.declared.Select.TheVariants.{Nonempty}
use Rattle.block_search.specs.Search.{is_selected}
use Rattle.block_search.proofs.SearchLaws.{selected-nonempty}
use Rattle.laws_soundness.specs.Change.{Proper, Limits, limits_of}
use Rattle.laws_soundness.proofs.ReleaseLaws.{proper-release-page}
use Rattle.laws_soundness.proofs.ProperLaws.{proper-decode}
use Rattle.laws_soundness.proofs.VisitLaws.{next-is, next-none, page-len, page-emptied, page-others, all-retired, none-held, pages-end, pages-spent, pages-next, pages-skip}
use Rattle.page_release.specs.declared.PageReleased.{PageReleased}
use Rattle.page_release.specs.Promises.{Inside, ReleasesPage}
use Rattle.release_visit.specs.Promises.{WithinNamed, ReleasesPages}
use Rattle.release_visit.proofs.VisitLaws.{within_none, within-then, inside}

-- what was released so far, and then what the rest gives
abbrev pub joined : List ℕ → Returned → Returned
joined out r = returned_by r.after (out ++ r.out)

joined-twice : (a b : List ℕ) (r : Returned) → joined a (joined b r) ≡ joined (a ++ b) r
joined-twice a b r = λ i. returned_by r.after (sym (append_assoc a b r.out) i)

joined-none : (out : List ℕ) (w : Window) → joined out (returned_by w []) ≡ returned_by w out
joined-none out w = λ i. returned_by w (append-nil out i)

-- a page that holds a value is the next of those from `from` up to `end`: it is released, and then the pages after it
pages-at : (end from g k : ℕ) (w : Window) → from ≤ g → g < end → 0 < k → ((x : ℕ) → from ≤ x → x < g → holds_value (w.pages x) ≡ false) → holds_value (w.pages g) ≡ true →
    let p = release_page_of w g k in
    release_pages_of (end - from) from k w ≡ joined p.out (release_pages_of (end - (g + 1)) (g + 1) (k - length p.out) p.after)
pages-at end from g k w low high some empty holds =
    let e : suc (end - (g + 1)) ≡ end - g = omega arith in
    let s : suc (k - 1) ≡ k = omega arith in
    let n : suc g ≡ g + 1 = omega arith in
    pages-skip (g - from) (end - g) from k w (λ x a b. empty x a (omega arith)) (end - from) g (omega arith) (omega arith)
    ∙ (λ i. release_pages_of (sym e i) g (sym s i) w)
    ∙ pages-next w g (end - (g + 1)) (k - 1) holds
    ∙ (λ i.
    let p = release_page_of w g (s i) in
    joined p.out (release_pages_of (end - (g + 1)) (n i) (s i - length p.out) p.after))

-- ---- the loop

module _ (h : AdaptiveReceiverPacketWindow) (ss vs pages₀ blocks₀ l₀ : List ℕ) (at limit : ℕ) where
  abbrev pub before : Window
  before = decode h (memory ss vs pages₀ blocks₀)

  abbrev pub end : ℕ
  end = page_count_of h.window_size

  -- what is left to do, on a sound window with no live value
  pub record Rest (v : Window) (count from : ℕ) (l : List ℕ) : Type 0 where
    pub sound : Sound v
    pub none-live : v.header.len ≡ 0
    pub passed : count < limit → (g : ℕ) → g < from → holds_value (v.pages g) ≡ false
    pub gives : release_pages_of end 0 limit before ≡ joined (stretch at count l) (release_pages_of (end - from) from (limit - count) v)

  -- and what was done so far
  pub record Passing (pages blocks l : List ℕ) (w : AdaptiveReceiverPacketWindow) (count from : ℕ) : Type 0 where
    pub within : WithinNamed h.window_size pages₀ blocks₀ pages blocks
    pub wrote : Wrote at count l₀ l
    pub few : count ≤ limit
    pub low : from ≤ end
    pub limits : limits_of w ≡ limits_of h
    pub rest : Sound before → h.len ≡ 0 → Rest (decode w (memory ss vs pages blocks)) count from l

  pub passing_begins : Passing pages₀ blocks₀ l₀ h 0 0
  unfolding decode
  passing_begins = record {
    within = within_none h.window_size pages₀ blocks₀;
    wrote = wrote_none at l₀;
    few = omega arith;
    low = omega arith;
    limits = refl;
    rest = λ ok none. record {
      sound = ok;
      none-live = none;
      passed = λ m g l. absurd (omega arith);
      gives =
          let e : end - 0 ≡ end = omega arith in
          let f : limit - 0 ≡ limit = omega arith in
          λ i. release_pages_of (sym e i) 0 (sym f i) before;
    };
  }

  module _ (pages blocks l : List ℕ) (w : AdaptiveReceiverPacketWindow) (count from : ℕ) (t : Passing pages blocks l w count from) where
    abbrev v : Window
    v = decode w (memory ss vs pages blocks)

    abbrev Ready : Type 0
    Ready = Sound before × (h.len ≡ 0)

    same-pages : pages_of v ≡ end
    unfolding decode
    same-pages = ap (λ (x : Limits). page_count_of x.size) t.limits

    rest_of : Ready → Rest v count from l
    rest_of q = t.rest q.0 q.1

    -- ---- one turn: the next page that holds a value

    module _ (more : count < limit) (some : w.len ≡ 0 → w.retired_held ≡ 0 → ⊥) (g : ℕ)
        (found : g ≡ first_from_of (is_selected blocks w.nonempty_summary w.retired_blocks Nonempty) (end - from) from) where
      selects : Ready → (x : ℕ) → x < end → is_selected blocks w.nonempty_summary w.retired_blocks Nonempty x ≡ holds_value (v.pages x)
      unfolding decode
      selects q x m = selected-nonempty w (memory ss vs pages blocks) (rest_of q).sound x (omega (arith, same-pages))

      first : IsFirst (is_selected blocks w.nonempty_summary w.retired_blocks Nonempty) from (end - from + from) g
      first = subst (IsFirst (is_selected blocks w.nonempty_summary w.retired_blocks Nonempty) from (end - from + from)) (sym found)
          (first-is (is_selected blocks w.nonempty_summary w.retired_blocks Nonempty) (end - from) from)

      pub next-ge : from ≤ g
      next-ge = first.from

      -- no page before it holds one
      none_before : Ready → (x : ℕ) → x < end → x < g → holds_value (v.pages x) ≡ false
      none_before q x m b = elim (dec_lt x from) [
        | yes a ↦ (rest_of q).passed more x a
        | no a ↦ sym (selects q x m) ∙ first.none x (omega arith) b
      ]

      -- values are held, but no page is found
      pub none_found : end ≤ g → Sound before → h.len ≡ 0 → ⊥
      unfolding decode
      none_found past ok none =
          let q : Ready = (ok, none) in
          let r = rest_of q in
          bool (ltb (next_retired_of v) (pages_of v))
          (λ e.
          let m = ltb-true (next_retired_of v) (pages_of v) e in
          true≢false (sym (next-is v r.sound m).1 ∙ none_before q (next_retired_of v) (omega (arith, same-pages)) (omega (arith, same-pages))))
          (λ e. some r.none-live (next-none v r.sound e))

      module _ (inside-end : g < end) (blocks_long : words_per_block * block_count_of w.window_size ≤ length blocks) (n : ℕ) (cells : w.n ≡ n) (r : PageReleased)
          (pages' blocks' l' : List ℕ) (page : ReleasesPage w n ss vs pages blocks l g (at + count) (limit - count) r pages' blocks' l') (room : at + limit ≤ length l₀) where
        abbrev k : ℕ
        k = limit - count

        abbrev v' : Window
        v' = decode r.window (memory ss vs pages' blocks')

        -- as many values as were counted
        counted : length (stretch (at + count) r.count l') ≡ r.count
        counted = stretch-length (at + count) r.count l' (omega (arith, page.few, page.wrote.long, t.wrote.long, t.few))

        module _ (q : Ready) where
          below : g < pages_of v
          below = omega (arith, same-pages)

          holds : holds_value (v.pages g) ≡ true
          holds = sym (selects q g inside-end) ∙ first.held (omega (arith, t.low))

          retired : is_retired v g ≡ true
          retired = all-retired v (rest_of q).sound (rest_of q).none-live g below holds

          proper : Proper v
          proper = proper-decode w (memory ss vs pages blocks) (rest_of q).sound

          within-window : g < page_count_of w.window_size
          within-window = subst (λ (x : AdaptiveReceiverPacketWindow). g < page_count_of x.window_size) (header_at w (memory ss vs pages blocks)) below

          in_place : Inside w n ss vs pages blocks l g
          in_place = subst (λ (x : ℕ). Inside w x ss vs pages blocks l g) cells (inside w ss vs pages blocks l g within-window blocks_long (rest_of q).sound)

          after : v' ≡ (release_page_of v g k).after
          after = page.gives in_place

          out : stretch (at + count) r.count l' ≡ (release_page_of v g k).out
          out = page.out in_place

          released : r.count ≡ length (release_page_of v g k).out
          released = sym counted ∙ ap (λ (x : List ℕ). length x) out

          passed_on : count + r.count < limit → (x : ℕ) → x < g + 1 → holds_value (v'.pages x) ≡ false
          passed_on m x b =
              ap (λ (u : Window). holds_value (u.pages x)) after
              ∙ elim (ℕ_discrete x g) [
                | yes e ↦ ap (λ (y : ℕ). holds_value ((release_page_of v g k).after.pages y)) e ∙ page-emptied v proper g k below retired (omega (arith, released))
                | no e ↦ ap holds_value (page-others v proper g k below retired x e) ∙ none_before q x (omega arith) (omega arith)
              ]

          rest-is : release_pages_of (end - from) from k v ≡ joined (stretch (at + count) r.count l') (release_pages_of (end - (g + 1)) (g + 1) (k - r.count) v')
          rest-is =
              pages-at end from g k v first.from inside-end (omega arith) (λ x a b. none_before q x (omega arith) b) holds
              ∙ (λ j. joined (sym out j) (release_pages_of (end - (g + 1)) (g + 1) (k - sym released j) (sym after j)))

          rest-after : Rest v' (count + r.count) (g + 1) l'
          rest-after = record {
            sound = subst Sound (sym after) (proper-release-page v g k proper below retired).sound;
            none-live = ap (λ (u : Window). u.header.len) after ∙ page-len v g k ∙ (rest_of q).none-live;
            passed = passed_on;
            gives =
                let s = stretch at count l in
                let o = stretch (at + count) r.count l' in
                let e : k - r.count ≡ limit - (count + r.count) = omega arith in
                let left = release_pages_of (end - (g + 1)) (g + 1) (k - r.count) v' in
                (rest_of q).gives ∙ ap (joined s) rest-is ∙ joined-twice s o left
                ∙ (λ j. joined (sym (stretch-then at count r.count l₀ l l' t.wrote page.wrote) j) (release_pages_of (end - (g + 1)) (g + 1) (e j) v'));
          }

        pub passing-turn : Passing pages' blocks' l' r.window (count + r.count) (g + 1)
        passing-turn = record {
          within = within-then h.window_size g pages₀ blocks₀ pages blocks pages' blocks' inside-end t.within page.within;
          wrote = wrote_then at count r.count l₀ l l' t.wrote page.wrote;
          few = omega (arith, page.few);
          low = omega arith;
          limits = page.limits ∙ t.limits;
          rest = λ ok none. rest-after (ok, none);
        }

        -- the page's words do not fit each other
        pub page-unsound : r.sound ≡ false → Sound before → h.len ≡ 0 → ⊥
        page-unsound e ok none = true≢false (sym (page.sound (in_place (ok, none))) ∙ e)

    -- ---- the ends

    -- the state is not sound
    pub passing-unsound : (Sound before → h.len ≡ 0 → ⊥) → ReleasesPages h ss vs pages₀ blocks₀ l₀ at limit (record { window = w; count = count; sound = false }) pages blocks l
    passing-unsound never = record {
      within = t.within;
      wrote = t.wrote;
      few = t.few;
      limits = t.limits;
      sound = λ ok none. absurd (never ok none);
      gives = λ ok none. absurd (never ok none);
    }

    -- as many values as asked for are released, or no value is held
    module _ (done : (limit ≤ count) ⊎ ((w.len ≡ 0) × (w.retired_held ≡ 0))) where
      nothing_left : Rest v count from l → release_pages_of (end - from) from (limit - count) v ≡ returned_by v []
      unfolding decode
      nothing_left r =
          ⊎_elim
          (λ z. let e : limit - count ≡ 0 = omega arith in ap (λ (x : ℕ). release_pages_of (end - from) from x v) e ∙ pages-spent v from (end - from))
          (λ z.
          pages-skip (end - from) 0 from (limit - count) v (λ x a b. none-held v r.sound z.0 z.1 x (omega (arith, same-pages, t.low))) (end - from) end (omega arith) (omega (arith, t.low))
          ∙ pages-end v end (limit - count))
          done

      pub passing-ends : ReleasesPages h ss vs pages₀ blocks₀ l₀ at limit (record { window = w; count = count; sound = true }) pages blocks l
      passing-ends = record {
        within = t.within;
        wrote = t.wrote;
        few = t.few;
        limits = t.limits;
        sound = λ ok none. refl;
        gives = λ ok none. sym ((t.rest ok none).gives ∙ ap (joined (stretch at count l)) (nothing_left (t.rest ok none)) ∙ joined-none (stretch at count l) v);
      }
