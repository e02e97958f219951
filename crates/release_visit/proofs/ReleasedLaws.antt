-- What callers read of a release over several pages on a sound window: how many values, and that the window stays sound. Assumes nothing.
use mathlib.Core.Path.{◌≡◌, sym, ap, ◌∙◌, subst}
use mathlib.Core.List.{List}
use Prim.Native.Nat.{ℕ, ◌+◌, ◌≤◌}
use native.Mathlib.Omega.{arith}
use lib.ListN.{length}
use Rattle.window.specs.declared.AdaptiveReceiverPacketWindow.{AdaptiveReceiverPacketWindow}
use Rattle.window.specs.Memory.{memory, page_count_of}
use Rattle.model.specs.Window.{decode}
use Rattle.model.specs.Steps.{Release, Returned, release, release_pages_of}
use Rattle.model.specs.Sound.{Sound}
use Rattle.page_remove.proofs.WroteLaws.{stretch-length}
use Rattle.laws_soundness.proofs.ProperLaws.{proper-decode}
use Rattle.laws_soundness.proofs.VisitLaws.{proper-release, proper-release-pages}
use Rattle.page_release.specs.declared.PageReleased.{PageReleased}
use Rattle.release_visit.specs.declared.Visited.{Visited}
use Rattle.release_visit.specs.Promises.{Releases, ReleasesPages}

module _ (h : AdaptiveReceiverPacketWindow) (ss vs pages blocks l : List ℕ) (at most : ℕ) (room : at + most ≤ length l)
    (ok : Sound (decode h (memory ss vs pages blocks))) (pages' blocks' l' : List ℕ) where
  module _ (r : Visited) (t : Releases h ss vs pages blocks l at most r pages' blocks' l') where
    pub released-count : r.count ≡ length (release most (decode h (memory ss vs pages blocks))).out
    released-count =
        sym (stretch-length at r.count l' (omega (arith, t.few, t.paid, t.wrote.long))) ∙ ap (λ (x : Release). length x.out) (t.gives ok)

    pub released-sound : Sound (decode r.window (memory ss vs pages' blocks'))
    released-sound =
        subst Sound (sym (ap (λ (x : Release). x.after) (t.gives ok)))
        (proper-release most (decode h (memory ss vs pages blocks)) (proper-decode h (memory ss vs pages blocks) ok)).sound

  module _ (none : h.len ≡ 0) (r : PageReleased) (t : ReleasesPages h ss vs pages blocks l at most r pages' blocks' l') where
    pub pages-count : r.count ≡ length (release_pages_of (page_count_of h.window_size) 0 most (decode h (memory ss vs pages blocks))).out
    pages-count =
        sym (stretch-length at r.count l' (omega (arith, t.few, t.wrote.long))) ∙ ap (λ (x : Returned). length x.out) (t.gives ok none)

    pub pages-sound : Sound (decode r.window (memory ss vs pages' blocks'))
    unfolding decode
    pages-sound =
        subst Sound (sym (ap (λ (x : Returned). x.after) (t.gives ok none)))
        (proper-release-pages most (decode h (memory ss vs pages blocks)) (proper-decode h (memory ss vs pages blocks) ok) none).sound
