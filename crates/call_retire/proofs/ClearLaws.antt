-- clear and clear_bounded, over plain variables: every value retired, and then a release. Assumes nothing.
use Rattle.std.proofs.Common.{◌≡◌, ℕ, ◌+◌, ◌*◌, ◌≤◌, eqb, List, Ok, length, drop, sym, refl, ap, ◌∙◌, subst, arith}
use Rattle.words.proofs.CaseLaws.{bool}
use Rattle.window.specs.declared.AdaptiveReceiverPacketWindow.{AdaptiveReceiverPacketWindow}
use Rattle.window.specs.declared.answers.Answer.TheVariants.{Done, Found}
use Rattle.window.specs.Memory.{memory, page_count_of, block_count_of, words_per_page, words_per_block}
use Rattle.window.proofs.MemoryLaws.{capacity-le}
use Rattle.window.specs.Refusals.{Fits}
use Rattle.model.specs.Calls.{done, found}
use Rattle.model.specs.Window.{Window, decode, pages_of}
use Rattle.model.specs.Steps.{Release, release, Returned, release_pages_of, retire_all_of, effect, clear_step, clear_bounded_step}
use Rattle.model.specs.Sound.{Sound}
use Rattle.page_remove.specs.Promises.{stretch}
use Rattle.page_remove.proofs.WroteLaws.{stretch-length}
use Rattle.laws_soundness.specs.Change.{Limits}
use Rattle.laws_soundness.proofs.BoundLaws.{total-le}
use Rattle.laws_soundness.proofs.ProperLaws.{proper-decode}
use Rattle.laws_soundness.proofs.RetireRangeLaws.{proper-all}
use Rattle.page_release.specs.declared.PageReleased.{PageReleased}
use Rattle.block_retire.specs.Promises.{RetiresAll}
use Rattle.range_retire.proofs.PerformLaws.{fits_kept}
use Rattle.call_base.specs.Answers.{state_of, left_of}
use Rattle.call_base.specs.Promises.{Fills}
use Rattle.release_visit.specs.declared.Visited.{Visited}
use Rattle.release_visit.specs.Promises.{WithinNamed, Releases, ReleasesPages}
use Rattle.call_retire.specs.Finish.{finished}
use Rattle.call_retire.proofs.FinishLaws.{words-past, words-lengths, finished-fills}

-- no value is live once every value is retired
all-len : (w : Window) → (retire_all_of w).header.len ≡ 0
unfolding retire_all_of
all-len w = bool (eqb (w.header.retired_held + w.header.len) 0) (λ e. rw e refl) (λ e. rw e refl)

-- ---- every value retired: header h₁, blocks₁

module _ (h : AdaptiveReceiverPacketWindow) (ss vs pages blocks : List ℕ) (h₁ : AdaptiveReceiverPacketWindow) (blocks₁ : List ℕ) (all : RetiresAll h blocks h₁ blocks₁) where
  same_size : h₁.window_size ≡ h.window_size
  same_size = ap (λ (x : Limits). x.size) all.touches.limits

  -- the lists are still long enough
  pub fits_after : Fits h (length ss) (length vs) (length pages) (length blocks) → Fits h₁ (length ss) (length vs) (length pages) (length blocks₁)
  fits_after f =
      fits_kept h h₁ (memory ss vs pages blocks) (memory ss vs pages blocks₁) all.touches.limits
      (record { sequences = refl; values = refl; pages = refl; blocks = all.touches.long }) f

  retired : Sound (decode h (memory ss vs pages blocks)) → decode h₁ (memory ss vs pages blocks₁) ≡ retire_all_of (decode h (memory ss vs pages blocks))
  unfolding decode
  retired ok = all.gives (omega (arith, total-le (decode h (memory ss vs pages blocks)) ok, capacity-le h.window_size)) ss vs pages

  sound-all : Sound (decode h (memory ss vs pages blocks)) → Sound (decode h₁ (memory ss vs pages blocks₁))
  sound-all ok = subst Sound (sym (retired ok)) (proper-all (decode h (memory ss vs pages blocks)) (proper-decode h (memory ss vs pages blocks) ok)).sound

  none-live : Sound (decode h (memory ss vs pages blocks)) → h₁.len ≡ 0
  unfolding decode
  none-live ok = ap (λ (w : Window). w.header.len) (retired ok) ∙ all-len (decode h (memory ss vs pages blocks))

  -- the words that both wrote
  both-within : (pages' blocks' : List ℕ) → WithinNamed h₁.window_size pages blocks₁ pages' blocks' → WithinNamed h.window_size pages blocks pages' blocks'
  both-within pages' blocks' t = record {
    pages_long = t.pages_long;
    blocks_long = t.blocks_long ∙ all.touches.long;
    pages_past = subst (λ (n : ℕ). drop (words_per_page * page_count_of n) pages' ≡ drop (words_per_page * page_count_of n) pages) same_size t.pages_past;
    blocks_past =
        subst (λ (n : ℕ). drop (words_per_block * block_count_of n) blocks' ≡ drop (words_per_block * block_count_of n) blocks₁) same_size t.blocks_past
        ∙ all.touches.past (block_count_of h.window_size) (omega arith);
  }

  -- ---- clear

  module _ (l : List ℕ) (r : Visited) (pages' blocks' l' : List ℕ) (t : Releases h₁ ss vs pages blocks₁ l 0 256 r pages' blocks' l') where
    gives : Sound (decode h (memory ss vs pages blocks)) → effect (decode r.window (memory ss vs pages' blocks')) done (stretch 0 r.count l') ≡ clear_step (decode h (memory ss vs pages blocks))
    unfolding clear_step
    gives ok = ap (λ (x : Release). effect x.after done x.out) (t.gives (sound-all ok) ∙ ap (release 256) (retired ok))

    pub clear-fills : Fills clear_step (state_of h (memory ss vs pages blocks)) l (left_of (finished r.window (Ok Done) r.count r.sound) (memory ss vs pages' blocks') l')
    clear-fills =
        finished-fills clear_step (state_of h (memory ss vs pages blocks)) l r.window (Ok Done) r.count r.sound ss vs pages' blocks' l'
        refl t.wrote (omega (arith, t.few, t.paid))
        (words-past h.window_size ss vs pages blocks pages' blocks' (both-within pages' blocks' t.within))
        (words-lengths h.window_size ss vs pages blocks pages' blocks' (both-within pages' blocks' t.within))
        (λ ok. t.sound (sound-all ok)) gives

  -- ---- clear_bounded

  module _ (l : List ℕ) (number : ℕ) (r : PageReleased) (pages' blocks' l' : List ℕ) (long : 384 ≤ length l) (taken : number ≤ 256)
      (t : ReleasesPages h₁ ss vs pages blocks₁ l 0 number r pages' blocks' l') where
    few : r.count ≤ 384
    few = omega (arith, t.few)

    pages-released : Sound (decode h (memory ss vs pages blocks)) → release_pages_of (page_count_of h₁.window_size) 0 number (decode h₁ (memory ss vs pages blocks₁))
        ≡ release_pages_of (pages_of (decode h (memory ss vs pages blocks))) 0 number (retire_all_of (decode h (memory ss vs pages blocks)))
    unfolding decode
    pages-released ok = λ i. release_pages_of (page_count_of (same_size i)) 0 number (retired ok i)

    gives-bounded : Sound (decode h (memory ss vs pages blocks))
        → effect (decode r.window (memory ss vs pages' blocks')) (found r.count) (stretch 0 r.count l') ≡ clear_bounded_step (decode h (memory ss vs pages blocks)) number
    unfolding clear_bounded_step
    gives-bounded ok =
        ap (λ (n : ℕ). effect (decode r.window (memory ss vs pages' blocks')) (found n) (stretch 0 r.count l')) (sym (stretch-length 0 r.count l' (omega (arith, few, long, t.wrote.long))))
        ∙ ap (λ (x : Returned). effect x.after (found (length x.out)) x.out) (t.gives (sound-all ok) (none-live ok) ∙ pages-released ok)

    pub clear-bounded-fills : Fills (λ (w : Window). clear_bounded_step w number) (state_of h (memory ss vs pages blocks)) l (left_of (finished r.window (Ok (Found r.count)) r.count r.sound) (memory ss vs pages' blocks') l')
    clear-bounded-fills =
        finished-fills (λ (w : Window). clear_bounded_step w number) (state_of h (memory ss vs pages blocks)) l r.window (Ok (Found r.count)) r.count r.sound ss vs pages' blocks' l'
        refl t.wrote few
        (words-past h.window_size ss vs pages blocks pages' blocks' (both-within pages' blocks' t.within))
        (words-lengths h.window_size ss vs pages blocks pages' blocks' (both-within pages' blocks' t.within))
        (λ ok. t.sound (sound-all ok) (none-live ok)) gives-bounded
