-- Whole blocks retired, over plain variables: one block, and the loop over a mask of blocks. Assumes nothing.
use Rattle.std.proofs.Common.{◌≡◌, ℕ, suc, ◌+◌, ◌-◌, ◌*◌, ◌%◌, ◌^◌, ◌<◌, ◌≤◌, Bool, true, not, ◌&&◌, List, length, drop, sym, refl, ap, ◌∙◌, mod-eq_of_lt, arith}
use lib.Bits.{bit_and, and_le_l}
use Rattle.words.proofs.CaseLaws.{both}
use Rattle.words.specs.Word.{is_set, set_bit, clear_bit, count, lowest}
use Rattle.words.proofs.BitLaws.{bit-none}
use Rattle.words.proofs.CountLaws.{count-le}
use Rattle.words.proofs.TestLaws.{and_set, not_set}
use Rattle.window.specs.declared.AdaptiveReceiverPacketWindow.{AdaptiveReceiverPacketWindow}
use Rattle.window.specs.Memory.{memory, block_count_of, words_per_block, RowIn}
use Rattle.window.proofs.WordListLaws.{words-length, words-past}
use Rattle.model.specs.Window.{Block, Window, decode}
use Rattle.model.specs.Steps.{with_header, set_held, set_retired_blocks, retire_live, retire_block_of}
use Rattle.page_base.proofs.DecodeLaws.{header_at}
use Rattle.block_marks.specs.declared.BlockWords.{BlockWords}
use Rattle.block_marks.specs.declared.Change.{Change}
use Rattle.block_marks.specs.Blocks.{block_words_at, block_row, with_block_words, block_of, changed}
use Rattle.block_marks.specs.Promises.{TakesLive}
use Rattle.block_marks.proofs.BlockLaws.{block_at, decode-changed}
use Rattle.laws_soundness.specs.Change.{Limits, limits_of}
use Rattle.block_retire.specs.Retire.{retire_each}
use Rattle.block_retire.specs.Promises.{Touches, RetiresBlock, BlocksNamed, Counted, RetiresBlocks}
use Rattle.block_retire.proofs.EachLaws.{counted-fewer, counted-block, each_none, each_same, each_first, each-unmarked}
use Rattle.block_retire.proofs.CountLaws.{low-lt, low-set, low-none, low-cleared, low-other, low-less, low_fits, low-sub}
use Rattle.block_retire.proofs.MarkLaws.{retires-live, live-limits}

-- ---- one block

module _ (h : AdaptiveReceiverPacketWindow) (x : BlockWords) (b k marks : ℕ) (fewer : Change) (r : AdaptiveReceiverPacketWindow) (ek : k ≡ x.live % 2 ^ 32)
    (em : marks ≡ set_bit h.retired_blocks b) (t : TakesLive (set_retired_blocks h marks) x k fewer)
    (er : r ≡ set_held fewer.window ((fewer.window.retired_held + k) % 2 ^ 32)) where
  moved : x.live ≤ 4096 → h.retired_held + 4096 < 2 ^ 32 → (v : Window) → v.header ≡ h → v.blocks b ≡ block_of x
      → changed v b (record { window = r; block = fewer.block }) ≡ retire_block_of v b
  unfolding retire_block_of
  moved few room v eh eb =
      let k-is : k ≡ x.live = ek ∙ mod-eq_of_lt (omega arith) in
      let live : k ≡ (v.blocks b).live = k-is ∙ ap (λ (y : Block). y.live) (sym eb) in
      let marked : set_retired_blocks h marks ≡ set_retired_blocks v.header (set_bit v.header.retired_blocks b) = λ i. set_retired_blocks (sym eh i) ((em ∙ ap (λ (y : AdaptiveReceiverPacketWindow). set_bit y.retired_blocks b) (sym eh)) i) in
      retires-live (set_retired_blocks h marks) x b k fewer r t er (omega (arith, k-is)) (with_header v (set_retired_blocks h marks)) refl eb
      ∙ (λ i. retire_live (with_header v (marked i)) b (live i))

  pub retires-block : RetiresBlock h x b (record { window = r; block = fewer.block })
  retires-block = record {
    limits = live-limits (set_retired_blocks h marks) x k fewer r ((fewer.window.retired_held + k) % 2 ^ 32) t er;
    gives = λ few room. record { gives = moved few room };
  }

-- ---- the loop

-- those of a mask that have no mark yet
pub unmarked-set : (mask marks i : ℕ) → marks < 2 ^ 64 → i < 64 → is_set (bit_and mask ((2 ^ 64 - 1) - marks)) i ≡ (is_set mask i && not (is_set marks i))
unmarked-set mask marks i l m = and_set mask ((2 ^ 64 - 1) - marks) i ∙ ap (λ (t : Bool). is_set mask i && t) (not_set marks i l m)

module _ (h : AdaptiveReceiverPacketWindow) (blocks₀ : List ℕ) (mask : ℕ) where
  -- the mask names blocks of the window
  pub record Inside : Type 0 where
    pub below : (i : ℕ) → i < 64 → is_set mask i ≡ true → i < block_count_of h.window_size
    pub long : words_per_block * block_count_of h.window_size ≤ length blocks₀

  -- what the loop's locals are: `left` of the mask's blocks are still to be retired
  pub record Marking (start left : ℕ) (window : AdaptiveReceiverPacketWindow) (blocks : List ℕ) : Type 0 where
    pub fits : left < 2 ^ 64
    pub sub : (i : ℕ) → i < 64 → is_set left i ≡ true → is_set mask i ≡ true
    pub long : length blocks ≡ length blocks₀
    pub touches : (to : ℕ) → ((i : ℕ) → i < 64 → is_set mask i ≡ true → i < to) → Touches h blocks₀ to window blocks
    pub counted : Inside → (ss vs pages : List ℕ) → Counted 64 (decode h (memory ss vs pages blocks₀)) → Counted (count left) (decode window (memory ss vs pages blocks))
    pub gives : Inside → (ss vs pages : List ℕ) → Counted 64 (decode h (memory ss vs pages blocks₀))
        → retire_each 64 0 (is_set left) (decode window (memory ss vs pages blocks)) ≡ retire_each 64 0 (is_set start) (decode h (memory ss vs pages blocks₀))

  pub marking_begins : mask < 2 ^ 64 → h.retired_blocks < 2 ^ 64
      → Marking (bit_and mask ((2 ^ 64 - 1) - h.retired_blocks)) (bit_and mask ((2 ^ 64 - 1) - h.retired_blocks)) h blocks₀
  marking_begins l m = record {
    fits = omega (arith, and_le_l mask ((2 ^ 64 - 1) - h.retired_blocks));
    sub = λ i k e. (both (is_set mask i) (not (is_set h.retired_blocks i)) (sym (unmarked-set mask h.retired_blocks i m k) ∙ e)).0;
    long = refl;
    touches = λ to b. record { limits = refl; long = refl; past = λ n k. refl };
    counted = λ i ss vs pages t. counted-fewer _ _ 64 (count-le 64 (bit_and mask ((2 ^ 64 - 1) - h.retired_blocks))) t;
    gives = λ i ss vs pages t. refl;
  }

  module _ (start left : ℕ) (window : AdaptiveReceiverPacketWindow) (blocks : List ℕ) (t : Marking start left window blocks) where
    module _ (more : left ≡ 0 → ⊥) (q : ℕ) (low : q ≡ lowest left 0) where
      pub block-lt : q < 64
      block-lt = omega (arith, low, low-lt left t.fits more)

      is-left : is_set left q ≡ true
      is-left = rw low (low-set left t.fits more)

      pub block-named : BlocksNamed blocks₀ mask → (q < 16) × RowIn words_per_block q blocks
      block-named n = let k = n q block-lt (t.sub q block-lt is-left) in (k.0, omega (arith, k.1, t.long))

      pub marking-less : (left' : ℕ) → left' ≡ clear_bit left q → count left' < count left
      marking-less left' e = rw (e, low) (omega (arith, low-less left t.fits more))

      module _ (x : BlockWords) (r : Change) (blocks' : List ℕ) (left' : ℕ) (found : x ≡ block_words_at blocks q) (made : RetiresBlock window x q r)
          (put : blocks' ≡ with_block_words blocks q r.block) (cleared : left' ≡ clear_bit left q) where
        cleared-is : left' ≡ clear_bit left (lowest left 0)
        cleared-is = cleared ∙ ap (clear_bit left) low

        size_is : limits_of window ≡ limits_of h
        size_is = (t.touches 64 (λ i l e. l)).limits

        long-is : length blocks' ≡ length blocks
        long-is = ap length put ∙ words-length words_per_block blocks q (block_row r.block)

        module _ (inside : Inside) (ss vs pages : List ℕ) (c : Counted 64 (decode h (memory ss vs pages blocks₀))) where
          abbrev v : Window
          v = decode window (memory ss vs pages blocks)

          -- room for the blocks that are left, of which there is one more
          room : Counted (suc (count left')) v
          room = counted-fewer v (suc (count left')) (count left) (omega (arith, low-less left t.fits more, ap count cleared-is)) (t.counted inside ss vs pages c)

          size_same : block_count_of window.window_size ≡ block_count_of h.window_size
          size_same = ap (λ (y : Limits). block_count_of y.size) size_is

          block-below : q < block_count_of window.window_size
          block-below = omega (arith, size_same, inside.below q block-lt (t.sub q block-lt is-left))

          block-is : v.blocks q ≡ block_of x
          block-is = block_at window (memory ss vs pages blocks) q block-below ∙ ap block_of (sym found)

          live-few : x.live ≤ 4096
          live-few = omega (arith, room.live q, ap (λ (y : Block). y.live) block-is)

          held-few : window.retired_held + 4096 < 2 ^ 32
          held-few = omega (arith, room.held, ap (λ (y : AdaptiveReceiverPacketWindow). y.retired_held) (header_at window (memory ss vs pages blocks)))

          next-is : decode r.window (memory ss vs pages blocks') ≡ retire_block_of v q
          next-is =
              ap (λ (y : List ℕ). decode r.window (memory ss vs pages y)) put
              ∙ decode-changed window (memory ss vs pages blocks) q r (ap (λ (y : Limits). y.size) made.limits) block-below (omega (arith, size_same, inside.long, t.long))
              ∙ (made.gives live-few held-few).gives v (header_at window (memory ss vs pages blocks)) block-is

          next-counted : Counted (count left') (decode r.window (memory ss vs pages blocks'))
          next-counted = rw next-is (counted-block v q (count left') room)

          next-gives : retire_each 64 0 (is_set left') (decode r.window (memory ss vs pages blocks')) ≡ retire_each 64 0 (is_set start) (decode h (memory ss vs pages blocks₀))
          next-gives =
              (λ i. retire_each 64 0 (is_set (cleared-is i)) (next-is i))
              ∙ ap (λ (y : ℕ). retire_each 64 0 (is_set (clear_bit left (lowest left 0))) (retire_block_of v y)) low
              ∙ sym (each_first (is_set left) (is_set (clear_bit left (lowest left 0))) (lowest left 0) v (low-lt left t.fits more) (low-set left t.fits more)
              (low-cleared left t.fits more) (low-none left t.fits more) (low-other left t.fits more))
              ∙ t.gives inside ss vs pages c

        pub marking-turn : Marking start left' r.window blocks'
        marking-turn = record {
          fits = rw cleared-is (low_fits left t.fits more);
          sub = λ i l e. t.sub i l (low-sub left t.fits more i (ap (λ (y : ℕ). is_set y i) (sym cleared-is) ∙ e));
          long = long-is ∙ t.long;
          touches = λ to b. let w = t.touches to b in record {
            limits = made.limits ∙ w.limits;
            long = long-is ∙ w.long;
            past = λ n l.
                ap (drop (words_per_block * n)) put
                ∙ words-past words_per_block blocks q (block_row r.block) refl n (omega (arith, b q block-lt (t.sub q block-lt is-left)))
                ∙ w.past n l;
          };
          counted = next-counted;
          gives = next-gives;
        }

  pub marking-ends : (left : ℕ) (window : AdaptiveReceiverPacketWindow) (blocks : List ℕ) → h.retired_blocks < 2 ^ 64
      → Marking (bit_and mask ((2 ^ 64 - 1) - h.retired_blocks)) left window blocks → left ≡ 0 → RetiresBlocks h blocks₀ mask window blocks
  marking-ends left window blocks fits t e = record { touches = t.touches; gives = λ below long. ended (record { below = below; long = long }) }
    where
      ended : Inside → (ss vs pages : List ℕ) → Counted 64 (decode h (memory ss vs pages blocks₀))
          → decode window (memory ss vs pages blocks) ≡ retire_each 64 0 (is_set mask) (decode h (memory ss vs pages blocks₀))
      ended inside ss vs pages c =
          let w = decode h (memory ss vs pages blocks₀) in
          let marks = h.retired_blocks in
          sym (each_none 64 0 (is_set left) (decode window (memory ss vs pages blocks)) (λ i x y. rw (e, bit-none i)))
          ∙ t.gives inside ss vs pages c
          ∙ each_same 64 0 (is_set (bit_and mask ((2 ^ 64 - 1) - marks))) (λ (i : ℕ). is_set mask i && not (is_set marks i)) w (λ i x y. unmarked-set mask marks i fits (omega arith))
          ∙ each-unmarked 64 0 marks 0 (is_set mask) w c (λ i l. ap (λ (y : AdaptiveReceiverPacketWindow). is_set y.retired_blocks i) (header_at h (memory ss vs pages blocks₀)))
