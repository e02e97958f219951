-- What is kept between lines: the window in it, what a call and what n leave of it. Assumes nothing.
use Rattle.std.proofs.Common.{◌≡◌, ℕ, zero, suc, ◌+◌, ◌-◌, ◌*◌, ◌≤◌, true, cond, ltb, List, get_or, drop, replicate, sym, refl, ap, ◌∙◌, subst, arith, get_or-drop, ltb-false}
use lib.ListN.{length-replicate}
use lib.Seq.{drop-append_seam}
use Rattle.words.proofs.CaseLaws.{bool}
use Rattle.window.specs.declared.AdaptiveReceiverPacketWindow.{AdaptiveReceiverPacketWindow}
use Rattle.window.specs.Memory.{Memory, memory, capacity, page_count_of, block_count_of, words_per_page, words_per_block, zeroed}
use Rattle.window.proofs.MemoryLaws.{capacity-pages}
use Rattle.window.specs.New.{fresh, cleared}
use Rattle.model.specs.Calls.{Call}
use Rattle.model.specs.Window.{Window, page_at, block_at, decode, cells_at, fresh_window}
use Rattle.model.specs.Steps.{window_step}
use Rattle.model.specs.Sound.{SoundWithPoint}
use Rattle.model.specs.Contract.{State, window_of, Left, lengths_fit, SamePast, Does, Meets}
use Rattle.model.specs.Heads.{Began}
use Rattle.model.proofs.NewLaws.{new-window, began-sound, began-fits}
use Rattle.page_base.proofs.DecodeLaws.{header_at}
use Rattle.laws_soundness.specs.Change.{Sizes, sizes_of}
use Rattle.laws_soundness.proofs.ProperLaws.{proper-decode}
use Rattle.laws_soundness.proofs.CallLaws.{call-sizes, sound-call}
use Rattle.laws_refinement.proofs.StateLaws.{meets-does, fits-same}
use Rattle.call_base.specs.Answers.{state_of}
use Rattle.line_program.specs.Program.{kept_of, at_start, window_in, with_window, with_new}
use Rattle.line_program.specs.Promises.{Kept}

-- the window in what is kept is the one of the state
pub window-in : (u : State) → window_in (kept_of u) ≡ window_of u
unfolding window_in decode
window-in u = refl

-- before an accepted n
pub start-kept : (h : AdaptiveReceiverPacketWindow) (m : Memory) → h ≡ fresh 0 0 0 → Kept (state_of h m)
unfolding fresh
start-kept h m e =
    let z : h.window_size ≡ 0 = ap (λ (x : AdaptiveReceiverPacketWindow). x.window_size) e in
    record { fit = λ l. absurd (omega (arith, z)); sound = λ l. absurd (omega (arith, z)) }

none-there : (n i : ℕ) → get_or (replicate {A = ℕ} n 0) i 0 ≡ 0
none-there zero i = refl
none-there (suc n) zero = refl
none-there (suc n) (suc i) = none-there n i

-- lists of zeros
pub at-start : (a b c d : ℕ) → kept_of (state_of (fresh 0 0 0) (memory (replicate a 0) (replicate b 0) (replicate c 0) (replicate d 0))) ≡ at_start
at-start a b c d = λ i. record {
  header = fresh 0 0 0;
  pages = λ (g : ℕ). record {
    kind = none-there c (words_per_page * g + 0) i;
    occupied = none-there c (words_per_page * g + 1) i;
    filled = none-there c (words_per_page * g + 2) i;
    sequences = λ (j : ℕ). no_cell a g j i;
    values = λ (j : ℕ). no_cell b g j i;
  };
  blocks = λ (h : ℕ). record { nonempty = none-there d (words_per_block * h + 0) i; retired = none-there d (words_per_block * h + 1) i; live = none-there d (words_per_block * h + 2) i };
}
  where
    no_cell : (n g j : ℕ) → cells_at (replicate n 0) g j ≡ 0
    no_cell n g j = bool (ltb j 64) (λ t. rw t (none-there n (64 * g + j))) (λ t. rw t)

-- ---- what lies past the named lengths

past : (n : ℕ) (xs ys : List ℕ) → drop n ys ≡ drop n xs → (i : ℕ) → n ≤ i → get_or ys i 0 ≡ get_or xs i 0
past n xs ys e i l =
    let k : n + (i - n) ≡ i = omega arith in
    ap (λ (j : ℕ). get_or ys j 0) (sym k) ∙ sym (get_or-drop n ys (i - n) 0) ∙ ap (λ (zs : List ℕ). get_or zs (i - n) 0) e
    ∙ get_or-drop n xs (i - n) 0 ∙ ap (λ (j : ℕ). get_or xs j 0) k

module _ (size : ℕ) (m m' : Memory) (s : SamePast size m m') where
  page-past : (g : ℕ) → page_count_of size ≤ g → page_at m g ≡ page_at m' g
  page-past g l = λ i. record {
    kind = sym (word 0) i;
    occupied = sym (word 1) i;
    filled = sym (word 2) i;
    sequences = λ (c : ℕ). cond (ltb c 64) (past (capacity size) m'.sequences m.sequences (sym s.sequences) (64 * g + c) (cells c) i) 0;
    values = λ (c : ℕ). cond (ltb c 64) (past (capacity size) m'.values m.values (sym s.values) (64 * g + c) (cells c) i) 0;
  }
    where
      word : (k : ℕ) → get_or m'.pages (words_per_page * g + k) 0 ≡ get_or m.pages (words_per_page * g + k) 0
      word k = past (words_per_page * page_count_of size) m.pages m'.pages s.pages (words_per_page * g + k) (omega arith)

      cells : (c : ℕ) → capacity size ≤ 64 * g + c
      cells c = omega (arith, capacity-pages size)

  block-past : (b : ℕ) → block_count_of size ≤ b → block_at m b ≡ block_at m' b
  block-past b l = λ i. record { nonempty = sym (word 0) i; retired = sym (word 1) i; live = sym (word 2) i }
    where
      word : (k : ℕ) → get_or m'.blocks (words_per_block * b + k) 0 ≡ get_or m.blocks (words_per_block * b + k) 0
      word k = past (words_per_block * block_count_of size) m.blocks m'.blocks s.blocks (words_per_block * b + k) (omega arith)

-- a state that differs from another in its window alone
module _ (u v : State) (s : SamePast v.header.window_size u.memory v.memory) where
  page-kept : (g : ℕ) → (with_window (kept_of u) (window_of v)).pages g ≡ (kept_of v).pages g
  unfolding with_window decode
  page-kept g =
      bool (ltb g (page_count_of v.header.window_size)) (λ t. rw t)
      (λ t. rw t (page-past v.header.window_size u.memory v.memory s g (ltb-false g (page_count_of v.header.window_size) t)))

  block-kept : (b : ℕ) → (with_window (kept_of u) (window_of v)).blocks b ≡ (kept_of v).blocks b
  unfolding with_window decode
  block-kept b =
      bool (ltb b (block_count_of v.header.window_size)) (λ t. rw t)
      (λ t. rw t (block-past v.header.window_size u.memory v.memory s b (ltb-false b (block_count_of v.header.window_size) t)))

  pub kept-with : kept_of v ≡ with_window (kept_of u) (window_of v)
  unfolding with_window decode
  kept-with = λ i. record { header = v.header; pages = λ (g : ℕ). sym (page-kept g) i; blocks = λ (b : ℕ). sym (block-kept b) i }

-- ---- a call

module _ (c : Call) (u : State) (l : List ℕ) (r : Left) (t : Meets c u l r) (fit : lengths_fit u ≡ true) (ok : SoundWithPoint (window_of u)) where
  pub does : Does c (window_of u) r
  does = meets-does c u l r t fit ok

  same-sizes : sizes_of r.state.header ≡ sizes_of u.header
  same-sizes =
      ap sizes_of (sym (header_at r.state.header r.state.memory)) ∙ ap (λ (w : Window). sizes_of w.header) does.window
      ∙ call-sizes (window_of u) (proper-decode u.header u.memory ok.sound) c ∙ ap sizes_of (header_at u.header u.memory)

  pub call_kept : Kept r.state
  call_kept = record {
    fit = λ h. fits-same u.header r.state.header u.memory r.state.memory same-sizes t.lengths ∙ fit;
    sound = λ h. subst SoundWithPoint (sym does.window) (sound-call u.header u.memory c ok);
  }

  pub call-after : kept_of r.state ≡ with_window (kept_of u) (window_step (window_in (kept_of u)) c).after
  call-after =
      let past = subst (λ (size : ℕ). SamePast size u.memory r.state.memory) (ap (λ (x : Sizes). x.size) (sym same-sizes)) t.past_memory in
      kept-with u r.state past ∙ ap (with_window (kept_of u)) (does.window ∙ ap (λ (w : Window). (window_step w c).after) (sym (window-in u)))

-- ---- n

zeroed-past : (n : ℕ) (xs : List ℕ) → drop n (zeroed n xs) ≡ drop n xs
zeroed-past n xs =
    ap (λ (k : ℕ). drop k (zeroed n xs)) (sym (length-replicate {A = ℕ} n 0)) ∙ drop-append_seam (replicate n 0) (drop n xs)

cleared-past : (size : ℕ) (m : Memory) → SamePast size m (cleared size m)
unfolding cleared
cleared-past size m = record {
  sequences = refl;
  values = refl;
  pages = zeroed-past (words_per_page * page_count_of size) m.pages;
  blocks = zeroed-past (words_per_block * block_count_of size) m.blocks;
}

module _ (size n d : ℕ) (u : State) where
  fresh-page : (g : ℕ) → (with_window (kept_of u) (fresh_window size n d u.memory)).pages g ≡ (with_new (kept_of u) size n d).pages g
  unfolding with_window fresh_window fresh
  fresh-page g = bool (ltb g (page_count_of size)) (λ t. rw t) (λ t. rw t)

  with-fresh : with_window (kept_of u) (fresh_window size n d u.memory) ≡ with_new (kept_of u) size n d
  unfolding with_window fresh_window fresh
  with-fresh = λ i. record { header = fresh size n d; pages = λ (g : ℕ). fresh-page g i; blocks = (with_new (kept_of u) size n d).blocks }

  new-past : SamePast (fresh size n d).window_size u.memory (cleared size u.memory)
  unfolding fresh
  new-past = cleared-past size u.memory

  pub new-after : kept_of (state_of (fresh size n d) (cleared size u.memory)) ≡ with_new (kept_of u) size n d
  new-after =
      kept-with u (state_of (fresh size n d) (cleared size u.memory)) new-past
      ∙ ap (with_window (kept_of u)) (new-window size n d u.memory) ∙ with-fresh

pub began-kept : (size : ℕ) (v : State) → Began size v → Kept v
began-kept size v b = record { fit = λ h. began-fits size v b; sound = λ h. began-sound size v b }
