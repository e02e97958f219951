-- remove_range, over plain variables: a range retired, the window made ready, and a release visit. Assumes nothing.
use Rattle.std.proofs.Common.{◌≡◌, ℕ, ◌+◌, ◌/◌, ◌%◌, ◌^◌, ◌<◌, ◌≤◌, ◌&&◌, eqb, List, Ok, ◌++◌, sym, refl, ap, ◌∙◌, subst, arith}
use Rattle.words.proofs.CaseLaws.{bool}
use Rattle.window.specs.declared.AdaptiveReceiverPacketWindow.{AdaptiveReceiverPacketWindow}
use Rattle.window.specs.declared.answers.Answer.TheVariants.{Found}
use Rattle.window.specs.Memory.{Memory, memory, capacity}
use Rattle.window.proofs.MemoryLaws.{capacity-pages, capacity-le}
use Rattle.model.specs.Calls.{found}
use Rattle.model.specs.Table.{held_in_range}
use Rattle.model.specs.Window.{Window, window, no_page, no_block, decode, capacity_of, pages_of, live_at}
use Rattle.model.specs.Steps.{with_header, set_cursor, Release, release_of, release, retire_range_of, effect, range_step}
use Rattle.model.specs.Sound.{Sound}
use Rattle.page_base.proofs.DecodeLaws.{header_at}
use Rattle.page_remove.specs.Promises.{Wrote, stretch}
use Rattle.page_remove.proofs.WroteLaws.{wrote_then, stretch-then}
use Rattle.block_marks.specs.Promises.{ChangesHeader}
use Rattle.block_marks.proofs.BlockLaws.{decode-header}
use Rattle.laws_soundness.specs.Change.{Limits, limits_of, SameLimits}
use Rattle.laws_soundness.proofs.BoundLaws.{len-le}
use Rattle.laws_soundness.proofs.PageLaws.{cond-holds}
use Rattle.laws_soundness.proofs.ProperLaws.{proper-decode}
use Rattle.laws_soundness.proofs.LimitLaws.{limits-either, drop-limits, range-limits}
use Rattle.laws_soundness.specs.Retire.{Retiring}
use Rattle.laws_soundness.proofs.RetireLaws.{proper-retiring, retiring-drop}
use Rattle.laws_soundness.proofs.RetireRangeLaws.{retiring-range}
use Rattle.laws_soundness.proofs.RetireReleaseLaws.{retiring-cursor, release-drop}
use Rattle.range_retire.specs.declared.Retired.{Retired}
use Rattle.range_retire.specs.Promises.{Performs}
use Rattle.range_retire.proofs.PerformLaws.{lengths-then, past-then}
use Rattle.range_retire.proofs.HeldLaws.{range-held}
use Rattle.release_visit.specs.declared.Visited.{Visited}
use Rattle.release_visit.specs.Promises.{WithinNamed, Releases}
use Rattle.call_base.specs.Answers.{state_of, left_of}
use Rattle.call_base.specs.Promises.{Fills}
use Rattle.call_retire.specs.Finish.{finished}
use Rattle.call_retire.specs.Range.{aimed, readied, retire_ready}
use Rattle.call_retire.proofs.FinishLaws.{words-past, words-lengths, finished-fills}

-- ---- the window made ready

module _ (held start : ℕ) where
  ready-limits : (w : Window) → SameLimits w (readied held start w)
  unfolding readied
  ready-limits w = drop-limits (aimed held start w) ∙ limits-either w (with_header w (set_cursor w.header (start / 64))) w (eqb held 0) refl refl

  same_len : (w : Window) → (readied held start w).header.len ≡ w.header.len
  unfolding readied
  same_len w =
      bool (eqb held 0)
      (λ e. rw e (bool (eqb w.header.retired_held 0) (λ f. rw f refl) (λ f. rw f refl)))
      (λ e. rw e (bool (eqb w.header.retired_held 0) (λ f. rw f refl) (λ f. rw f refl)))

  module _ (w : Window) (ok : Retiring w) (below : start / 64 < pages_of w) where
    retiring-aimed : Retiring (aimed held start w)
    retiring-aimed = cond-holds Retiring (with_header w (set_cursor w.header (start / 64))) w (eqb held 0) (λ e. retiring-cursor w (start / 64) ok below) (λ e. ok)

    ready-sound : Sound (readied held start w)
    unfolding readied
    ready-sound = (retiring-drop (aimed held start w) retiring-aimed).sound

    -- a release finds the same
    ready-release : (b : ℕ) → release b (readied held start w) ≡ release b (aimed held start w)
    unfolding readied
    ready-release b = sym (release-drop (aimed held start w) retiring-aimed b b)

  -- as the code leaves it
  module _ (h r : AdaptiveReceiverPacketWindow) where
    changed-limits : ChangesHeader (readied held start) h r → limits_of r ≡ limits_of h
    changed-limits t =
        let any = window h (λ g. no_page) (λ b. no_block) in
        ap (λ (y : Window). limits_of y.header) (t.gives any refl) ∙ ready-limits any

    changed-is : (m : Memory) → ChangesHeader (readied held start) h r → decode r m ≡ readied held start (decode h m)
    changed-is m t = decode-header h r m (ap (λ (x : Limits). x.size) (changed-limits t)) ∙ t.gives (decode h m) (header_at h m)

-- ---- the range retired, then the window made ready

module _ (h : AdaptiveReceiverPacketWindow) (m : Memory) (l : List ℕ) (start count : ℕ) (r : Retired) (m' : Memory) (l' : List ℕ) where
  pub ready-performs : (k : AdaptiveReceiverPacketWindow) → Performs (λ (v : Window). retire_range_of v start count) 128 h m 0 l r m' l'
      → ChangesHeader (readied h.retired_held start) r.window k
      → Performs (λ (v : Window). retire_ready v start count) 128 h m 0 l (record { window = k; count = r.count; sound = r.sound }) m' l'
  unfolding retire_ready decode
  ready-performs k t c = record {
    limits = changed-limits h.retired_held start r.window k c ∙ t.limits;
    past = t.past;
    lengths = t.lengths;
    wrote = t.wrote;
    few = t.few;
    sound = t.sound;
    gives = λ ok. changed-is h.retired_held start r.window k m' c ∙ ap (readied h.retired_held start) (t.gives ok);
    out = t.out;
  }

-- ---- and then released

module _ (h : AdaptiveReceiverPacketWindow) (ss vs pages blocks l : List ℕ) (start count : ℕ)
    (low : start < capacity h.window_size) (some : 0 < count) (few : count ≤ capacity h.window_size)
    (r₁ : Retired) (ss₁ vs₁ pages₁ blocks₁ l₁ : List ℕ)
    (t : Performs (λ (v : Window). retire_ready v start count) 128 h (memory ss vs pages blocks) 0 l r₁ (memory ss₁ vs₁ pages₁ blocks₁) l₁)
    (r₂ : Visited) (pages₂ blocks₂ l₂ : List ℕ) (u : Releases r₁.window ss₁ vs₁ pages₁ blocks₁ l₁ r₁.count 256 r₂ pages₂ blocks₂ l₂)
    (removed : ℕ) (fits : removed < 2 ^ 32) (difference : (removed + r₁.window.len) % 2 ^ 32 ≡ h.len) where
  same_size : r₁.window.window_size ≡ h.window_size
  same_size = ap (λ (x : Limits). x.size) t.limits

  -- the words that the release wrote
  within : WithinNamed h.window_size pages₁ blocks₁ pages₂ blocks₂
  within = subst (λ (n : ℕ). WithinNamed n pages₁ blocks₁ pages₂ blocks₂) same_size u.within

  begins : Wrote (0 + r₁.count) r₂.count l₁ l₂
  begins = let z : r₁.count ≡ 0 + r₁.count = omega arith in subst (λ (n : ℕ). Wrote n r₂.count l₁ l₂) z u.wrote

  module _ (ok : Sound (decode h (memory ss vs pages blocks))) where
    retiring : Retiring (decode h (memory ss vs pages blocks))
    retiring = proper-retiring (decode h (memory ss vs pages blocks)) (proper-decode h (memory ss vs pages blocks) ok)

    -- the window with its range retired
    retired : Window
    retired = (retire_range_of (decode h (memory ss vs pages blocks)) start count).after

    retired-retiring : Retiring retired
    unfolding decode retired
    retired-retiring = retiring-range (decode h (memory ss vs pages blocks)) start count retiring low some few

    below : start / 64 < pages_of retired
    unfolding decode retired
    below =
        let e : retired.header.window_size ≡ h.window_size = ap (λ (x : Limits). x.size) (range-limits (decode h (memory ss vs pages blocks)) start count) in
        rw e (omega (arith, capacity-pages h.window_size))

    readied-is : decode r₁.window (memory ss₁ vs₁ pages₁ blocks₁) ≡ readied h.retired_held start retired
    unfolding decode retired retire_ready
    readied-is = t.gives retiring

    sound-ready : Sound (decode r₁.window (memory ss₁ vs₁ pages₁ blocks₁))
    sound-ready = subst Sound (sym readied-is) (ready-sound h.retired_held start retired retired-retiring below)

    visit : release_of (decode r₂.window (memory ss₁ vs₁ pages₂ blocks₂)) (stretch r₁.count r₂.count l₂) r₂.units
        ≡ release 256 (aimed h.retired_held start retired)
    visit = u.gives sound-ready ∙ ap (release 256) readied-is ∙ ready-release h.retired_held start retired retired-retiring below 256

    -- the live values removed
    removed-is : removed ≡ held_in_range (capacity_of (decode h (memory ss vs pages blocks))) start count (live_at (decode h (memory ss vs pages blocks)))
    unfolding decode retired
    removed-is =
        let w = decode h (memory ss vs pages blocks) in
        let e : r₁.window.len ≡ retired.header.len = ap (λ (x : Window). x.header.len) readied-is ∙ same_len h.retired_held start retired in
        omega (arith, fits, difference, e, range-held w start count retiring low some few, len-le w ok, capacity-le h.window_size)

    out-is : stretch 0 (r₁.count + r₂.count) l₂ ≡ (retire_range_of (decode h (memory ss vs pages blocks)) start count).out ++ (release 256 (aimed h.retired_held start retired)).out
    unfolding retire_ready
    out-is =
        let z : 0 + r₁.count ≡ r₁.count = omega arith in
        stretch-then 0 r₁.count r₂.count l l₁ l₂ t.wrote begins
        ∙ (λ i. t.out retiring i ++ (ap (λ (n : ℕ). stretch n r₂.count l₂) z ∙ ap (λ (x : Release). x.out) visit) i)

    gives : effect (decode r₂.window (memory ss₁ vs₁ pages₂ blocks₂)) (found removed) (stretch 0 (r₁.count + r₂.count) l₂) ≡ range_step (decode h (memory ss vs pages blocks)) start count
    unfolding decode retired range_step
    gives = λ i. effect (visit i).after (found (removed-is i)) (out-is i)

  pub range-fills : Fills (λ (v : Window). range_step v start count) (state_of h (memory ss vs pages blocks)) l
      (left_of (finished r₂.window (Ok (Found removed)) (r₁.count + r₂.count) (r₁.sound && r₂.sound)) (memory ss₁ vs₁ pages₂ blocks₂) l₂)
  range-fills =
      let m = memory ss vs pages blocks in
      let m₁ = memory ss₁ vs₁ pages₁ blocks₁ in
      let m₂ = memory ss₁ vs₁ pages₂ blocks₂ in
      finished-fills (λ (v : Window). range_step v start count) (state_of h (memory ss vs pages blocks)) l r₂.window (Ok (Found removed)) (r₁.count + r₂.count) (r₁.sound && r₂.sound) ss₁ vs₁ pages₂ blocks₂ l₂
      refl (wrote_then 0 r₁.count r₂.count l l₁ l₂ t.wrote begins) (omega (arith, t.few, u.few, u.paid))
      (past-then h.window_size m m₁ m₂ t.past (words-past h.window_size ss₁ vs₁ pages₁ blocks₁ pages₂ blocks₂ within))
      (lengths-then m m₁ m₂ t.lengths (words-lengths h.window_size ss₁ vs₁ pages₁ blocks₁ pages₂ blocks₂ within))
      (λ ok. rw (t.sound (retiring ok), u.sound (sound-ready ok))) (λ ok. gives ok)
