-- A state is sound just where every page, every block and the header are. Assumes nothing.
use mathlib.Core.Path.{◌≡◌, refl, sym, ap, ◌∙◌}
use Prim.Native.Nat.{ℕ, ◌+◌, ◌*◌, ◌/◌, ◌%◌, ◌^◌, ◌≤◌, ◌<◌}
use native.Mathlib.Omega.{arith}
use native.Mathlib.Decide.{dec_lt}
use native.Mathlib.Nat.{mod-lt}
use lib.Pow.{pow_pos, pow_mono}
use borrow.Author.Tests.{le-ltb}
use Rattle.words.specs.Word.{bit_at}
use Rattle.words.proofs.BitLaws.{bit-none, bit_past, bit-mod, ext-bits}
use Rattle.window.specs.declared.AdaptiveReceiverPacketWindow.{AdaptiveReceiverPacketWindow}
use Rattle.window.specs.Memory.{Memory, page_count_of, block_count_of}
use Rattle.window.proofs.MemoryLaws.{block-count-le}
use Rattle.window.specs.Refusals.{Within}
use Rattle.model.specs.Window.{Window, Block, decode, no_block, pages_of, blocks_of}
use Rattle.model.specs.Sound.{Sound}
use Rattle.laws_soundness.proofs.PageLaws.{no-marks}
use Rattle.call_check.specs.Clauses.{SoundAt, SoundBlock, SoundHeader, pages_in_block_of}

-- a word of 64 bits without any from n on is below 2 ^ n
pub below-bits : (n w : ℕ) → n ≤ 64 → w < 2 ^ 64 → ((i : ℕ) → n ≤ i → i < 64 → bit_at w i ≡ 0) → w < 2 ^ n
below-bits n w l f none =
    let k : w % 2 ^ n < 2 ^ n = mod-lt w (pow_pos n) in
    let m : 2 ^ n ≤ 2 ^ 64 = pow_mono {i = n} {j = 64} l in
    let e : w ≡ w % 2 ^ n = ext-bits 64 w (w % 2 ^ n) f (omega (arith, k, m)) (λ i a. same i a k) in
    omega (arith, e, k)
  where
    same : (i : ℕ) → i < 64 → w % 2 ^ n < 2 ^ n → bit_at w i ≡ bit_at (w % 2 ^ n) i
    same i a k = elim (dec_lt i n) [
      | yes b ↦ sym (bit-mod n w i b)
      | no b ↦ none i (omega arith) a ∙ sym (bit_past n (w % 2 ^ n) i k (omega arith))
    ]

-- ---- the clauses of a sound window

module _ (w : Window) (ok : Sound w) where
  pub sound-at : (g : ℕ) → g < pages_of w → SoundAt w g
  sound-at g l = record { page = ok.page g l; dense = ok.dense g l; nonempty = ok.nonempty g l; marks = ok.marks g l }

  -- a word of a block without bits past the last page
  few_bits : (f : Block → ℕ) → ((b : ℕ) → f (w.blocks b) < 2 ^ 64)
      → ((g : ℕ) → pages_of w ≤ g → bit_at (f (w.blocks (g / 64))) (g % 64) ≡ 0) → (b : ℕ) → f (w.blocks b) < 2 ^ pages_in_block_of (pages_of w) b
  few_bits f fits none b = below-bits (pages_in_block_of (pages_of w) b) (f (w.blocks b)) (omega arith) (fits b) (λ i a c.
      let y : (64 * b + i) / 64 ≡ b = omega arith in
      let r : (64 * b + i) % 64 ≡ i = omega arith in
      rw (y, r) at (none (64 * b + i) (omega arith)))

  pub sound-block : (b : ℕ) → b < blocks_of w → SoundBlock w b
  sound-block b l = record {
    summary = ok.summary b l;
    live = ok.live b l;
    nonempty_bits = few_bits (λ (x : Block). x.nonempty) ok.nonempty_fits ok.nonempty_bits b;
    retired_bits = few_bits (λ (x : Block). x.retired) ok.retired_fits ok.retired_bits b;
  }

  pub sound-header : w.header.nonempty_summary < 2 ^ 64 → w.header.retired_blocks < 2 ^ 64 → SoundHeader w
  sound-header s r =
      let few : blocks_of w ≤ 64 = omega (arith, block-count-le w.header.window_size) in
      record {
        len = ok.len;
        held = ok.held;
        cursor = ok.cursor;
        summary_bits = below-bits (blocks_of w) w.header.nonempty_summary few s (λ i a c. ok.summary_bits i a);
        retired_block_bits = below-bits (blocks_of w) w.header.retired_blocks few r (λ i a c. ok.retired_block_bits i a);
        no_block_mark = ok.no_block_mark;
      }

-- ---- and back, of a window read from the lent lists

module _ (h : AdaptiveReceiverPacketWindow) (m : Memory) where
  -- no block past the last
  block-past : (b : ℕ) → block_count_of h.window_size ≤ b → (decode h m).blocks b ≡ no_block
  unfolding decode
  block-past b l = rw (le-ltb b (block_count_of h.window_size) l)

  module _ (within : Within h.window_size h.n h.demote_at) (at : (g : ℕ) → g < page_count_of h.window_size → SoundAt (decode h m) g)
      (blocks : (b : ℕ) → b < block_count_of h.window_size → SoundBlock (decode h m) b) (header : SoundHeader (decode h m)) where
    -- a word of each block has no bits but of the block's pages
    abbrev Few : (Block → ℕ) → Type 0
    Few f = (b : ℕ) → b < block_count_of h.window_size → f ((decode h m).blocks b) < 2 ^ pages_in_block_of (page_count_of h.window_size) b

    nothing-past : (f : Block → ℕ) → f no_block ≡ 0 → Few f
        → (g : ℕ) → page_count_of h.window_size ≤ g → bit_at (f ((decode h m).blocks (g / 64))) (g % 64) ≡ 0
    nothing-past f z below g l = elim (dec_lt (g / 64) (block_count_of h.window_size)) [
      | yes k ↦
          let n = pages_in_block_of (page_count_of h.window_size) (g / 64) in
          bit_past n (f ((decode h m).blocks (g / 64))) (g % 64) (below (g / 64) k) (omega arith)
      | no k ↦ ap (λ (x : Block). bit_at (f x) (g % 64)) (block-past (g / 64) (omega arith)) ∙ ap (λ (x : ℕ). bit_at x (g % 64)) z ∙ bit-none (g % 64)
    ]

    fits : (f : Block → ℕ) → f no_block ≡ 0 → Few f → (b : ℕ) → f ((decode h m).blocks b) < 2 ^ 64
    fits f z below b = elim (dec_lt b (block_count_of h.window_size)) [
      | yes k ↦ omega (arith, below b k, pow_mono {i = pages_in_block_of (page_count_of h.window_size) b} {j = 64} (omega arith))
      | no k ↦ omega (arith, ap f (block-past b (omega arith)), z)
    ]

    retired_past : (g : ℕ) → page_count_of h.window_size ≤ g → bit_at ((decode h m).blocks (g / 64)).retired (g % 64) ≡ 0
    unfolding decode
    retired_past = nothing-past (λ (x : Block). x.retired) refl (λ b l. (blocks b l).retired_bits)

    retired_fits : (b : ℕ) → ((decode h m).blocks b).retired < 2 ^ 64
    unfolding decode
    retired_fits = fits (λ (x : Block). x.retired) refl (λ b l. (blocks b l).retired_bits)

    pub clauses-sound : Sound (decode h m)
    unfolding decode
    clauses-sound = record {
      within = within;
      page = λ g l. (at g l).page;
      dense = λ g l. (at g l).dense;
      nonempty = λ g l. (at g l).nonempty;
      summary = λ b l. (blocks b l).summary;
      marks = λ g l. (at g l).marks;
      live = λ b l. (blocks b l).live;
      len = header.len;
      held = header.held;
      cursor = header.cursor;
      nonempty_bits = nothing-past (λ (x : Block). x.nonempty) refl (λ b l. (blocks b l).nonempty_bits);
      retired_bits = retired_past;
      summary_bits = λ b l. bit_past (block_count_of h.window_size) h.nonempty_summary b header.summary_bits l;
      retired_block_bits = λ b l. bit_past (block_count_of h.window_size) h.retired_blocks b header.retired_block_bits l;
      no_block_mark = header.no_block_mark;
      -- this one follows from the others
      no_page_mark = λ z b l.
          no-marks (decode h m) (page_count_of h.window_size) (λ g k. (at g k).page.occupied_fits) (λ g k. (at g k).marks)
          retired_past header.held retired_fits z b;
      nonempty_fits = fits (λ (x : Block). x.nonempty) refl (λ b l. (blocks b l).nonempty_bits);
      retired_fits = retired_fits;
    }
