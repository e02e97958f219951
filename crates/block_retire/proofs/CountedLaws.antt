-- While values are retired a window's counts are in the bounds that retiring by marks asks for. Assumes nothing.
use Rattle.std.proofs.Common.{◌≡◌, ℕ, ◌+◌, ◌*◌, ◌/◌, ◌<◌, ◌≤◌, true, sym, ◌∙◌, ⊎_elim, arith, le-ltb}
use native.Mathlib.Decide.{dec_lt}
use Rattle.words.specs.Word.{is_set}
use Rattle.window.specs.declared.AdaptiveReceiverPacketWindow.{AdaptiveReceiverPacketWindow}
use Rattle.window.specs.Memory.{Memory, block_count_of}
use Rattle.window.proofs.MemoryLaws.{capacity-le}
use Rattle.model.specs.Window.{Window, decode, blocks_of}
use Rattle.model.specs.Sound.{live_in}
use Rattle.laws_soundness.proofs.SumLaws.{sum-none}
use Rattle.laws_soundness.proofs.PageLaws.{retired-counts, empty-counts}
use Rattle.laws_soundness.specs.Retire.{Retiring, with_block_marks}
use Rattle.laws_soundness.proofs.BoundLaws.{total-le, live-le}
use Rattle.block_retire.specs.Promises.{Counted}

-- a block that has its mark has no live value
pub idle-block : (w : Window) → Retiring w → (b : ℕ) → b < blocks_of w → is_set w.header.retired_blocks b ≡ true → (w.blocks b).live ≡ 0
idle-block w ok b l e = ok.proper.sound.live b l ∙ sum-none 64 (λ (i : ℕ). live_in v (64 * b + i)) none
  where
    v : Window
    v = with_block_marks w ok.marks

    none : (i : ℕ) → i < 64 → live_in v (64 * b + i) ≡ 0
    none i k =
        let q : (64 * b + i) / 64 ≡ b = omega arith in
        ⊎_elim
        (λ z. (empty-counts v (64 * b + i) z).0)
        (λ r. (retired-counts v (64 * b + i) (sym r ∙ rw (q, e))).0)
        (ok.status (64 * b + i))

-- no block past the last
block-past : (h : AdaptiveReceiverPacketWindow) (m : Memory) (b : ℕ) → block_count_of h.window_size ≤ b → ((decode h m).blocks b).live ≡ 0
unfolding decode
block-past h m b l = rw (le-ltb b (block_count_of h.window_size) l)

pub retiring-counted : (h : AdaptiveReceiverPacketWindow) (m : Memory) → Retiring (decode h m) → Counted 66 (decode h m)
unfolding decode
retiring-counted h m ok =
    let sound = ok.proper.sound in
    let v = with_block_marks (decode h m) ok.marks in
    record {
      held = omega (arith, total-le v sound, capacity-le h.window_size);
      live = λ b. elim (dec_lt b (block_count_of h.window_size)) [ yes l ↦ live-le v sound b l | no l ↦ omega (arith, block-past h m b (omega arith)) ];
      idle = λ b e. elim (dec_lt b (block_count_of h.window_size)) [ yes l ↦ idle-block (decode h m) ok b l e | no l ↦ block-past h m b (omega arith) ];
    }
