-- Exchange and remove keep a window sound. Assumes nothing.
use mathlib.Core.Path.{◌≡◌, refl, sym}
use mathlib.Core.Bool.{true, false, true≢false}
use mathlib.Core.Logic.{inl, inr}
use Prim.Native.Nat.{ℕ, ◌%◌, ◌<◌}
use native.Mathlib.Omega.{arith}
use Rattle.words.proofs.CaseLaws.{bool}
use Rattle.window.proofs.MemoryLaws.{capacity-pages, position-lt, position-slot}
use Rattle.window.specs.declared.Cause.TheVariants.{Single}
use Rattle.model.specs.Table.{finds}
use Rattle.model.specs.Window.{Page, Window, capacity_of, pages_of, cell_of, is_retired}
use Rattle.model.specs.Pages.{set_value, take_cell_of, demotes, after_removal}
use Rattle.model.specs.Steps.{page_of, live_here, exchange_step, remove_step}
use Rattle.model.specs.Sound.{SoundPage, Sound}
use Rattle.page_base.proofs.PlaceLaws.{placed, sound-of, take-placed, all_here}
use Rattle.page_base.proofs.ReadLaws.{Found, found-cell}
use Rattle.page_base.proofs.ExchangeLaws.{value-placed}
use Rattle.page_remove.proofs.StandLaws.{take_count, after-count, after-dense}
use Rattle.page_remove.proofs.RemoveLaws.{take-here, after-sound}
use Rattle.laws_soundness.specs.Change.{Proper, Alters}
use Rattle.laws_soundness.proofs.ChangeLaws.{alter-sound, alter-proper}
use Rattle.laws_soundness.proofs.PutLaws.{put_same, put-fewer}

-- ---- the page of a sequence

module _ (w : Window) (s : ℕ) where
  pub page-lt : page_of w s < pages_of w
  page-lt = omega (arith, position-lt w.header.window_size s, capacity-pages w.header.window_size)

  -- a sequence that is found is in a live page
  pub found-live : finds s (live_here w s) ≡ true → (is_retired w (page_of w s) ≡ false) × Found (w.pages (page_of w s)) s (cell_of (w.pages (page_of w s)) (s % 64))
  found-live t = bool (is_retired w (page_of w s))
      (λ r. absurd (true≢false (sym (rw r at t))))
      (λ r. (r, found-cell (w.pages (page_of w s)) s (rw (r, position-slot w.header.window_size s) at t)))

-- ---- exchange

pub value-sound : (n cap g : ℕ) (p : Page) (c v : ℕ) → SoundPage n cap g p → SoundPage n cap g (set_value p c v)
value-sound n cap g p c v ok = sound-of n cap g (set_value p c v) (value-placed n p c v (placed n cap g p ok)) ok.some_occupied (all_here n cap g p ok)

exchange-alters : (w : Window) (s v : ℕ) → Sound w → Alters w (exchange_step w s v).after
unfolding exchange_step
exchange-alters w s v ok =
    let g = page_of w s in
    let q = set_value (w.pages g) (cell_of (w.pages g) (s % 64)) v in
    let l = page-lt w s in
    bool (finds s (live_here w s))
    (λ t. rw t (inr (g, q, l, put_same w g q ok l (value-sound _ _ g (w.pages g) _ v (ok.page g l)) refl refl (found-live w s t).0)))
    (λ t. rw t (inl refl))

pub sound-exchange : (w : Window) (s v : ℕ) → Sound w → Sound (exchange_step w s v).after
sound-exchange w s v ok = alter-sound w (exchange_step w s v).after (exchange-alters w s v ok) ok

pub proper-exchange : (w : Window) (s v : ℕ) → Proper w → Proper (exchange_step w s v).after
proper-exchange w s v ok = alter-proper w (exchange_step w s v).after (exchange-alters w s v ok.sound) ok

-- ---- remove

remove-alters : (w : Window) (s : ℕ) → Sound w → Alters w (remove_step w s).after
unfolding remove_step
remove-alters w s ok =
    let g = page_of w s in
    let p = w.pages g in
    let c = cell_of p (s % 64) in
    let d = w.header.demote_at in
    let q = after_removal d (take_cell_of p c) in
    let l = page-lt w s in
    let sound = ok.page g l in
    bool (finds s (live_here w s))
    (λ t.
    let f = found-live w s t in
    let at = placed w.header.n (capacity_of w) g p sound in
    let taken = take-placed w.header.n p at c f.1.inside f.1.used in
    rw t (inr (
      g,
      q,
      l,
      put-fewer w Single g 1 q (demotes d (take_cell_of p c)) ok l f.0
          (after-sound w.header.n (capacity_of w) g (take_cell_of p c) d ok.within.demote taken (take-here (capacity_of w) g p c (all_here w.header.n (capacity_of w) g p sound)))
          (λ k n. after-dense (take_cell_of p c) d k)
          (omega (arith, after-count (take_cell_of p c) d, take_count w.header.n p at c f.1.inside f.1.used)),
    )))
    (λ t. rw t (inl refl))

pub sound-remove : (w : Window) (s : ℕ) → Sound w → Sound (remove_step w s).after
sound-remove w s ok = alter-sound w (remove_step w s).after (remove-alters w s ok) ok

pub proper-remove : (w : Window) (s : ℕ) → Proper w → Proper (remove_step w s).after
proper-remove w s ok = alter-proper w (remove_step w s).after (remove-alters w s ok.sound) ok
