-- Revival keeps a window sound, and leaves the page live. Assumes nothing.
use mathlib.Core.Path.{◌≡◌, refl, sym, ap, ◌∙◌}
use mathlib.Core.Bool.{true, false, true≢false}
use mathlib.Core.Logic.{⊎_elim}
use Prim.Native.Nat.{ℕ, ◌/◌, ◌<◌}
use borrow.Author.Tests.{ne_eqb, eqb-false}
use Rattle.words.proofs.CaseLaws.{bool}
use Rattle.words.specs.Word.{bit_at, is_set}
use Rattle.words.proofs.CountLaws.{count-le}
use Rattle.window.specs.declared.AdaptiveReceiverPacketWindow.{AdaptiveReceiverPacketWindow}
use Rattle.model.specs.Window.{Page, Window, capacity_of, pages_of, is_retired}
use Rattle.model.specs.Pages.{unless_emptied_of, drain_page}
use Rattle.model.specs.Steps.{all_positions, split_block, release_page_of, revive}
use Rattle.page_base.proofs.PlaceLaws.{placed}
use Rattle.laws_soundness.specs.Change.{Proper, Changes}
use Rattle.laws_soundness.proofs.PageLaws.{holds_not, empty-live}
use Rattle.laws_soundness.proofs.ChangeLaws.{alter-proper}
use Rattle.laws_soundness.proofs.SplitLaws.{split-pages, split-unmarked, split-header, split-same, split-alters}
use Rattle.laws_soundness.proofs.ReleaseLaws.{drain-whole, release-changes, proper-release-page}

-- page g revived
pub record Revived (w v : Window) (g : ℕ) : Type 0 where
  pub proper : Proper v
  pub size : v.header.window_size ≡ w.header.window_size
  pub cells : v.header.n ≡ w.header.n
  pub live : is_retired v g ≡ false
  pub emptied : is_retired w g ≡ true → (v.pages g).occupied ≡ 0
  pub kept : is_retired w g ≡ false → v ≡ w

-- ---- a page released whole

module _ (w : Window) (g : ℕ) (ok : Proper w) (below : g < pages_of w) (retired : is_retired w g ≡ true) where
  abbrev v : Window
  v = (release_page_of w g 64).after

  c : Changes w v g (unless_emptied_of (drain_page 64 0 all_positions 64 (w.pages g)).page)
  c = release-changes w g 64 ok below retired

  same-header : (v.header.window_size ≡ w.header.window_size) × (v.header.n ≡ w.header.n)
  same-header = (ap (λ (h : AdaptiveReceiverPacketWindow). h.window_size) c.writes.header, ap (λ (h : AdaptiveReceiverPacketWindow). h.n) c.writes.header)

  released-empty : (v.pages g).occupied ≡ 0
  released-empty =
      let at = placed w.header.n (capacity_of w) g (w.pages g) (ok.sound.page g below) in
      let p = (drain_page 64 0 all_positions 64 (w.pages g)).page in
      let z = drain-whole w.header.n 64 (w.pages g) at (count-le 64 (w.pages g).occupied) in
      ap (λ (x : Page). x.occupied) c.writes.own_page ∙ rw (holds_not p z)

  released-live : is_set w.header.retired_blocks (g / 64) ≡ false → is_retired v g ≡ false
  released-live e =
      let l : g < pages_of v = rw same-header.0 below in
      empty-live v (proper-release-page w g 64 ok below retired).sound g l released-empty
      (ne_eqb (bit_at v.header.retired_blocks (g / 64)) 1 (λ b. eqb-false (bit_at w.header.retired_blocks (g / 64)) 1 e (c.marking.block_marks (g / 64) b)))

-- ---- revival

module _ (w : Window) (g : ℕ) (ok : Proper w) (below : g < pages_of w) where
  abbrev split : Window
  split = split_block w (g / 64)

  split-ok : Proper split
  split-ok = alter-proper w split (split-alters w g ok below) ok

  -- it was empty, and the block alone was marked
  was-empty : is_retired w g ≡ true → is_retired split g ≡ false → Revived w split g
  was-empty r t = record {
    proper = split-ok;
    size = (split-header w (g / 64)).0;
    cells = (split-header w (g / 64)).1;
    live = t;
    emptied = λ e. ap (λ (f : ℕ → Page). (f g).occupied) (split-pages w (g / 64))
        ∙ ⊎_elim (λ z. z) (λ s. absurd (true≢false (sym r ∙ sym s ∙ t))) (split-same w g ok below g);
    kept = λ e. absurd (true≢false (sym r ∙ e));
  }

  was-held : is_retired w g ≡ true → is_retired split g ≡ true → Revived w (release_page_of split g 64).after g
  was-held r t =
      let l : g < pages_of split = rw (split-header w (g / 64)).0 below in
      let h = same-header split g split-ok l t in
      record {
        proper = proper-release-page split g 64 split-ok l t;
        size = h.0 ∙ (split-header w (g / 64)).0;
        cells = h.1 ∙ (split-header w (g / 64)).1;
        live = released-live split g split-ok l t (split-unmarked w (g / 64));
        emptied = λ e. released-empty split g split-ok l t;
        kept = λ e. absurd (true≢false (sym r ∙ e));
      }

  was-live : is_retired w g ≡ false → Revived w w g
  was-live r = record { proper = ok; size = refl; cells = refl; live = r; emptied = λ e. absurd (true≢false (sym e ∙ r)); kept = λ e. refl }

  pub revive-revives : Revived w (revive w g).after g
  unfolding revive
  revive-revives =
      bool (is_retired w g)
      (λ r. bool (is_retired split g) (λ t. rw (r, t) (was-held r t)) (λ t. rw (r, t) (was-empty r t)))
      (λ r. rw r (was-live r))

  pub proper-revive : Proper (revive w g).after
  proper-revive = revive-revives.proper
