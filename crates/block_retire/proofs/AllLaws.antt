-- Every value retired, over plain variables: the live words cleared, every block marked. Assumes nothing.
use Rattle.std.proofs.Common.{◌≡◌, ℕ, zero, suc, ◌+◌, ◌*◌, ◌%◌, ◌^◌, ◌<◌, ◌≤◌, cond, ltb, List, length, get_or, drop, set, refl, ap, ◌∙◌, mod-eq_of_lt, arith, length-set, get_or-set_other, get_or-set_same, drop-set-lt, ltb-true}
use native.Mathlib.Decide.{ℕ_discrete}
use Rattle.words.proofs.CaseLaws.{bool}
use Rattle.words.specs.Word.{span}
use Rattle.window.specs.declared.AdaptiveReceiverPacketWindow.{AdaptiveReceiverPacketWindow}
use Rattle.window.specs.Memory.{memory, block_count_of, words_per_block}
use Rattle.model.specs.Window.{Block, Window, window, decode, no_block, no_page}
use Rattle.model.specs.Steps.{block, set_live, with_header, set_held, set_len, set_retired_blocks, drop_block_marks, retire_all_of}
use Rattle.block_marks.specs.Blocks.{block_words_at, block_of}
use Rattle.block_marks.specs.Promises.{ChangesHeader}
use Rattle.block_marks.proofs.BlockLaws.{decode-header}
use Rattle.laws_soundness.specs.Change.{Limits, limits_of}
use Rattle.laws_soundness.proofs.LimitLaws.{drop-limits}
use Rattle.block_retire.specs.Retire.{without_live}
use Rattle.block_retire.specs.Promises.{RetiresAll}

-- ---- the live words

pub without-none : (blocks : List ℕ) → blocks ≡ without_live 0 blocks
unfolding without_live
without-none blocks = refl

without-suc : (n : ℕ) (blocks : List ℕ) → set (without_live n blocks) (words_per_block * n + 2) 0 ≡ without_live (suc n) blocks
unfolding without_live
without-suc n blocks = refl

pub without_more : (n : ℕ) (blocks l : List ℕ) → l ≡ without_live n blocks → set l (words_per_block * n + 2) 0 ≡ without_live (n + 1) blocks
without_more n blocks l e =
    let one : suc n ≡ n + 1 = omega arith in
    ap (λ (x : List ℕ). set x (words_per_block * n + 2) 0) e ∙ without-suc n blocks ∙ ap (λ (x : ℕ). without_live x blocks) one

module _ (blocks : List ℕ) where
  pub without-length : (n : ℕ) → length (without_live n blocks) ≡ length blocks
  unfolding without_live
  without-length zero = refl
  without-length (suc n) = length-set (without_live n blocks) (words_per_block * n + 2) 0 ∙ without-length n

  without-past : (n m : ℕ) → n ≤ m → drop (words_per_block * m) (without_live n blocks) ≡ drop (words_per_block * m) blocks
  unfolding without_live
  without-past zero m l = refl
  without-past (suc n) m l = drop-set-lt (words_per_block * m) (without_live n blocks) (words_per_block * n + 2) 0 (omega arith) ∙ without-past n m (omega arith)

  -- a word that is no live word of the first n blocks
  without_other : (n j : ℕ) → ((i : ℕ) → i < n → j ≡ words_per_block * i + 2 → ⊥) → get_or (without_live n blocks) j 0 ≡ get_or blocks j 0
  unfolding without_live
  without_other zero j h = refl
  without_other (suc n) j h = get_or-set_other (without_live n blocks) (words_per_block * n + 2) j 0 0 (h n (omega arith)) ∙ without_other n j (λ i l. h i (omega arith))

  without-live : (n b : ℕ) → b < n → words_per_block * n ≤ length blocks → get_or (without_live n blocks) (words_per_block * b + 2) 0 ≡ 0
  unfolding without_live
  without-live zero b l long = absurd (omega arith)
  without-live (suc n) b l long =
      elim (ℕ_discrete b n) [
        | yes e ↦ rw e (get_or-set_same (without_live n blocks) (words_per_block * n + 2) 0 0 (omega (arith, without-length n)))
        | no e ↦ get_or-set_other (without_live n blocks) (words_per_block * n + 2) (words_per_block * b + 2) 0 0 (λ z. e (omega arith)) ∙ without-live n b (omega arith) (omega arith)
      ]

  -- the words of a block
  without-block : (n b : ℕ) → b < n → words_per_block * n ≤ length blocks → block_of (block_words_at (without_live n blocks) b) ≡ set_live (block_of (block_words_at blocks b)) 0
  unfolding block_words_at
  without-block n b l long = λ i. block
      (without_other n (words_per_block * b + 0) (λ j k e. omega arith) i)
      (without_other n (words_per_block * b + 1) (λ j k e. omega arith) i)
      (without-live n b l long i)

-- ---- the code's steps

module _ (h : AdaptiveReceiverPacketWindow) (blocks blocks' : List ℕ) (n marks : ℕ) (more r : AdaptiveReceiverPacketWindow)
    (count : n ≡ block_count_of h.window_size) (cleared : blocks' ≡ without_live n blocks)
    (held : more ≡ set_held h ((h.retired_held + h.len) % 2 ^ 32)) (all : marks ≡ span 0 n) (long : words_per_block * block_count_of h.window_size ≤ length blocks)
    (settled : ChangesHeader drop_block_marks (set_retired_blocks (set_len more 0) marks) r) where
  abbrev marked : AdaptiveReceiverPacketWindow
  marked = set_retired_blocks (set_len more 0) marks

  stays : limits_of r ≡ limits_of h
  stays =
      ap (λ (y : Window). limits_of y.header) (settled.gives (window marked (λ g. no_page) (λ d. no_block)) refl)
      ∙ drop-limits (window marked (λ g. no_page) (λ d. no_block)) ∙ ap limits_of held

  cleared-is : blocks' ≡ without_live (block_count_of h.window_size) blocks
  cleared-is = cleared ∙ ap (λ (x : ℕ). without_live x blocks) count

  module _ (room : h.retired_held + h.len < 2 ^ 32) (ss vs pages : List ℕ) where
    abbrev v : Window
    v = decode h (memory ss vs pages blocks)

    abbrev no_live : ℕ → Block
    no_live b = cond (ltb b (block_count_of v.header.window_size)) (set_live (v.blocks b) 0) (v.blocks b)

    each : (b : ℕ) → (decode h (memory ss vs pages blocks')).blocks b ≡ no_live b
    unfolding decode block_words_at
    each b = bool (ltb b (block_count_of h.window_size))
        (λ e. rw e (ap (λ (l : List ℕ). block_of (block_words_at l b)) cleared-is ∙ without-block blocks (block_count_of h.window_size) b (ltb-true b (block_count_of h.window_size) e) long))
        (λ e. rw e)

    header_is : marked ≡ set_retired_blocks (set_held (set_len v.header 0) (v.header.retired_held + v.header.len)) (span 0 (block_count_of v.header.window_size))
    unfolding decode
    header_is = λ i. set_retired_blocks (set_len ((held ∙ ap (set_held h) (mod-eq_of_lt room)) i) 0) ((all ∙ ap (span 0) count) i)

    lists-are : with_header (decode h (memory ss vs pages blocks')) marked ≡ window marked v.pages no_live
    unfolding decode
    lists-are = λ i. record { header = marked; pages = v.pages; blocks = λ b. each b i }

    retired : decode r (memory ss vs pages blocks') ≡ retire_all_of v
    unfolding retire_all_of
    retired =
        decode-header h r (memory ss vs pages blocks') (ap (λ (y : Limits). y.size) stays)
        ∙ settled.gives (with_header (decode h (memory ss vs pages blocks')) marked) refl
        ∙ ap drop_block_marks (lists-are ∙ ap (λ (y : AdaptiveReceiverPacketWindow). window y v.pages no_live) header_is)

  pub retires-all : RetiresAll h blocks r blocks'
  retires-all = record {
    touches = record {
      limits = stays;
      long = ap length cleared-is ∙ without-length blocks (block_count_of h.window_size);
      past = λ m l. ap (drop (words_per_block * m)) cleared-is ∙ without-past blocks (block_count_of h.window_size) m l;
    };
    gives = retired;
  }
