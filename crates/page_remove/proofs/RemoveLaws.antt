-- A removal by sequence: what stands afterwards, the answer, soundness, the number of values, and what it says that it left. Assumes nothing.
use mathlib.Core.Path.{◌≡◌, refl, sym, ap, ◌∙◌}
use mathlib.Core.Bool.{true, false, cond, not}
use mathlib.Core.Option.{Option, none, some}
use Prim.Native.Nat.{ℕ, ◌+◌, ◌%◌, ◌≤◌, ◌<◌}
use native.Mathlib.Omega.{arith}
use lib.Dec.{eqb}
use Rattle.words.proofs.CaseLaws.{bool}
use Rattle.words.specs.Word.{count}
use Rattle.words.proofs.BitLaws.{bit-none}
use Rattle.model.specs.Table.{Pair, value_if, remove_at, finds}
use Rattle.model.specs.Window.{Page, cell_of, stands_at}
use Rattle.model.specs.Pages.{words, values_in_of, holds_value, take_cell_of, packed, unless_emptied_of, after_removal}
use Rattle.model.specs.Sound.{SoundPage}
use Rattle.page_base.specs.Page.{Placed, Here}
use Rattle.page_base.specs.Promises.{read_of}
use Rattle.page_base.proofs.PlaceLaws.{placed, take-placed, all_here, sound-of, placed-holds}
use Rattle.page_base.proofs.ReadLaws.{Found, found-cell, finds-at}
use Rattle.page_base.proofs.ExchangeLaws.{at-found, at-absent}
use Rattle.page_remove.specs.Remove.{settled_page, settle_page_of, RemovedPage, removed_page, remove_page}
use Rattle.page_remove.proofs.StandLaws.{clear-fewer, take-stands, take_count, packed-occupied, packed-used, packed-sequence, packed-from, packed-placed, emptied-placed, unless-cases, after-cases, after-stands, after-placed, after-count, after-dense}
use Rattle.page_remove.proofs.NthLaws.{nth-is}

-- ---- one position, by whether the sequence is found there

remove-at : (s : ℕ) (o : Option Pair) → remove_at s o ≡ cond (finds s o) none o
remove-at s none = refl
remove-at s (some e) = refl

module _ (p : Page) (s : ℕ) where
  -- ---- a removal

  pub remove-when-found : (d : ℕ) → finds s (stands_at p (s % 64)) ≡ true
      → remove_page d p s ≡ removed_page (settle_page_of d (take_cell_of p (cell_of p (s % 64)))) (read_of p s)
  unfolding remove_page
  remove-when-found d t = rw t

  pub remove-when-absent : (d : ℕ) → finds s (stands_at p (s % 64)) ≡ false → remove_page d p s ≡ removed_page (settled_page p false) (read_of p s)
  unfolding remove_page
  remove-when-absent d t = rw t

  pub remove-cases : (B : Page → Type 0) (d : ℕ)
      → (finds s (stands_at p (s % 64)) ≡ true → (c : ℕ) → Found p s c → B (after_removal d (take_cell_of p c)))
      → (finds s (stands_at p (s % 64)) ≡ false → B p) → B (remove_page d p s).page
  remove-cases B d f g =
      bool (finds s (stands_at p (s % 64)))
      (λ t. rw (remove-when-found d t) (f t (cell_of p (s % 64)) (found-cell p s t)))
      (λ t. rw (remove-when-absent d t) (g t))

  pub remove-answer : (d : ℕ) → (remove_page d p s).answer ≡ value_if s (stands_at p (s % 64))
  remove-answer d =
      bool (finds s (stands_at p (s % 64))) (λ t. ap (λ (r : RemovedPage). r.answer) (remove-when-found d t)) (λ t. ap (λ (r : RemovedPage). r.answer) (remove-when-absent d t))

  -- "a live dense page has more than demote_at values"
  pub remove-dense : (d : ℕ) → (p.kind ≡ 2 → d < count p.occupied) → (remove_page d p s).page.kind ≡ 2 → d < count (remove_page d p s).page.occupied
  remove-dense d h =
      remove-cases (λ (q : Page). q.kind ≡ 2 → d < count q.occupied) d (λ t c f. after-dense (take_cell_of p c) d) (λ t. h)

module _ (n : ℕ) (p : Page) (ok : Placed n p) (s d : ℕ) where
  pub remove-stands : (j : ℕ) → j < 64
      → stands_at (remove_page d p s).page j ≡ cond (eqb j (s % 64)) (remove_at s (stands_at p j)) (stands_at p j)
  remove-stands j l =
      remove-cases p s (λ (q : Page). stands_at q j ≡ cond (eqb j (s % 64)) (remove_at s (stands_at p j)) (stands_at p j)) d
      (λ t c f.
      after-stands n (take_cell_of p c) (take-placed n p ok c f.inside f.used) d j l
      ∙ take-stands n p ok c f.inside f.used j l
      ∙ ap (λ (x : ℕ). cond (eqb j (x % 64)) none (stands_at p j)) f.sequence
      ∙ at-found j (s % 64) none (remove_at s (stands_at p j)) (stands_at p j) (finds s (stands_at p j)) (remove-at s (stands_at p j)) (finds-at p s true t j))
      (λ t. at-absent j (s % 64) none (remove_at s (stands_at p j)) (stands_at p j) (finds s (stands_at p j)) (remove-at s (stands_at p j)) (finds-at p s false t j))

  pub remove-placed : d ≤ n → Placed n (remove_page d p s).page
  remove-placed m =
      remove-cases p s (Placed n) d (λ t c f. after-placed n (take_cell_of p c) (take-placed n p ok c f.inside f.used) d m) (λ t. ok)

  pub remove-count : finds s (stands_at p (s % 64)) ≡ true → count (remove_page d p s).page.occupied + 1 ≡ count p.occupied
  remove-count t =
      let c = cell_of p (s % 64) in
      let f = found-cell p s t in
      omega (arith, ap (λ (r : RemovedPage). count r.page.occupied) (remove-when-found p s d t), after-count (take_cell_of p c) d, take_count n p ok c f.inside f.used)

-- ---- whether it left a value, by the number that it left

-- a page holds a value just if the number of its values is not 0
abbrev Told : Page → Type 0
Told p = holds_value p ≡ not (eqb (values_in_of p) 0)

module _ (n : ℕ) (p : Page) (ok : Placed n p) (d : ℕ) where
  pub settled-told : Told (after_removal d p)
  settled-told =
      let told = placed-holds n p ok in
      after-cases Told p d (λ k o few. rw (packed-occupied p) told) (λ e. placed-holds n (words 0 0 0 p) (emptied-placed n p)) (λ o more. told)

remove-left : (p : Page) (s d : ℕ) → (remove_page d p s).left.values ≡ values_in_of (remove_page d p s).page
remove-left p s d =
    bool (finds s (stands_at p (s % 64))) (λ t. rw (remove-when-found p s d t)) (λ t. rw (remove-when-absent p s d t))

pub removed-told : (n : ℕ) (p : Page) → Placed n p → (s d : ℕ) → holds_value (remove_page d p s).page ≡ not (eqb (remove_page d p s).left.values 0)
removed-told n p ok s d =
    remove-cases p s Told d (λ t c f. settled-told n (take_cell_of p c) (take-placed n p ok c f.inside f.used) d) (λ t. placed-holds n p ok)
    ∙ ap (λ (x : ℕ). not (eqb x 0)) (sym (remove-left p s d))

-- ---- soundness

pub take-here : (cap g : ℕ) (p : Page) (c : ℕ) → Here cap g p → Here cap g (take_cell_of p c)
take-here cap g p c h d l u = h d l (clear-fewer p.filled c d u)

module _ (n cap g : ℕ) where
  emptied-sound : (p : Page) → SoundPage n cap g (words 0 0 0 p)
  emptied-sound p = sound-of n cap g (words 0 0 0 p) (emptied-placed n p) (λ k e. k refl) (λ c l u. absurd (omega (arith, bit-none c)))

  packed-sound : (p : Page) → Placed n p → Here cap g p → p.kind ≡ 2 → (p.occupied ≡ 0 → ⊥) → count p.occupied ≤ n → SoundPage n cap g (packed p)
  packed-sound p ok h k o few =
      sound-of n cap g (packed p) (packed-placed n p ok k n few) (λ z e. o (sym (packed-occupied p) ∙ e))
      (λ c l u.
      let m = packed-used p c u in
      rw (packed-sequence p c m) (h _ (nth-is p.occupied c m).inside (packed-from n p ok k c m)))

  pub unless-sound : (p : Page) → Placed n p → Here cap g p → SoundPage n cap g (unless_emptied_of p)
  unless-sound p ok h = unless-cases (SoundPage n cap g) p (λ e. emptied-sound p) (λ o. sound-of n cap g p ok (λ k. o) h)

  pub after-sound : (p : Page) (d : ℕ) → d ≤ n → Placed n p → Here cap g p → SoundPage n cap g (after_removal d p)
  after-sound p d m ok h =
      after-cases (SoundPage n cap g) p d
      (λ k o few. packed-sound p ok h k o (omega arith)) (λ e. emptied-sound p) (λ o more. sound-of n cap g p ok (λ k. o) h)

  pub remove-sound : (p : Page) (s d : ℕ) → d ≤ n → SoundPage n cap g p → SoundPage n cap g (remove_page d p s).page
  remove-sound p s d m sound =
      remove-cases p s (SoundPage n cap g) d
      (λ t c f. after-sound (take_cell_of p c) d m (take-placed n p (placed n cap g p sound) c f.inside f.used) (take-here cap g p c (all_here n cap g p sound)))
      (λ t. sound)
