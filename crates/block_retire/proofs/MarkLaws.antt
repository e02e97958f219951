-- Pages of one block marked, over plain variables: the block's mark split, its pages marked, their values counted. Assumes nothing.
use Rattle.std.proofs.Common.{◌≡◌, ℕ, ◌+◌, ◌-◌, ◌*◌, ◌%◌, ◌^◌, ◌<◌, ◌≤◌, cond, not, ◌&&◌, ◌||◌, ltb, leb, List, length, drop, sym, refl, ap, ◌∙◌, mod-eq_of_lt, arith, ltb-true}
use Rattle.words.proofs.CaseLaws.{bool, both}
use Rattle.words.specs.Word.{is_set, count, word_of}
use Rattle.words.proofs.TestLaws.{word-eq}
use Rattle.words.proofs.WordLaws.{word_lt}
use Rattle.window.specs.declared.AdaptiveReceiverPacketWindow.{AdaptiveReceiverPacketWindow}
use Rattle.window.specs.Memory.{memory, page_count_of, words_per_block}
use Rattle.window.proofs.WordListLaws.{words-length, words-past}
use Rattle.model.specs.Table.{sum}
use Rattle.model.specs.Window.{Page, Block, Window, window, decode, no_page}
use Rattle.model.specs.Pages.{values_in_of}
use Rattle.model.specs.Steps.{set_retired, with_header, with_block, set_held, set_len, set_marks, split_block, sub_live_of, pages_in, new_marks, retire_live, retire_in_block}
use Rattle.page_base.specs.Page.{words_at}
use Rattle.page_base.proofs.DecodeLaws.{header_at, page-at}
use Rattle.block_marks.specs.declared.BlockWords.{BlockWords}
use Rattle.block_marks.specs.declared.Change.{Change}
use Rattle.block_marks.specs.Blocks.{block_words_at, block_row, with_block_words, block_of, changed}
use Rattle.block_marks.specs.Marks.{newly_marked, with_marks}
use Rattle.block_marks.proofs.MarkLaws.{newly-marked-set, with-marks-set}
use Rattle.block_marks.specs.Promises.{Changes, TakesLive}
use Rattle.block_marks.proofs.BlockLaws.{block_at, decode-changed}
use Rattle.laws_soundness.specs.Change.{Limits, limits_of}
use Rattle.laws_soundness.proofs.SumLaws.{sum_same}
use Rattle.laws_soundness.proofs.LimitLaws.{split-limits}
use Rattle.laws_soundness.proofs.SplitLaws.{split-pages}
use Rattle.block_retire.specs.Retire.{values_at_of, values_of}
use Rattle.block_retire.specs.Promises.{Room, Touches, RetiresInBlock, PagesNamed}
use Rattle.block_retire.proofs.InBlockLaws.{upd_same, upd-again}
use Rattle.block_retire.proofs.CountLaws.{values-le}

-- ---- a block's words written, and written again

pub again : (v : Window) (b : ℕ) (x y : Block) (h k : AdaptiveReceiverPacketWindow)
    → with_block (with_header (with_block (with_header v h) b x) k) b y ≡ with_block (with_header v k) b y
again v b x y h k = λ i. record { header = k; pages = v.pages; blocks = λ d. upd-again v.blocks b x y d i }

-- ---- live values that become retired

-- k values fewer are live in a block, and k more are held: r is the header, x the block's words
pub retires-live : (h : AdaptiveReceiverPacketWindow) (x : BlockWords) (b k : ℕ) (fewer : Change) (r : AdaptiveReceiverPacketWindow)
    → TakesLive h x k fewer → r ≡ set_held fewer.window ((fewer.window.retired_held + k) % 2 ^ 32) → h.retired_held + k < 2 ^ 32
    → (v : Window) → v.header ≡ h → v.blocks b ≡ block_of x → changed v b (record { window = r; block = fewer.block }) ≡ retire_live v b k
retires-live h x b k fewer r t e room v eh eb =
    let gave = (t.gives b).gives v eh eb in
    let win : fewer.window ≡ set_len v.header (v.header.len - k) = ap (λ (y : Window). y.header) gave in
    let held : fewer.window.retired_held ≡ v.header.retired_held = ap (λ (y : AdaptiveReceiverPacketWindow). y.retired_held) win in
    let was : v.header.retired_held ≡ h.retired_held = ap (λ (y : AdaptiveReceiverPacketWindow). y.retired_held) eh in
    let more : (fewer.window.retired_held + k) % 2 ^ 32 ≡ v.header.retired_held + k =
    ap (λ (y : ℕ). (y + k) % 2 ^ 32) held ∙ mod-eq_of_lt (omega (arith, was)) in
    let is : r ≡ set_held (set_len v.header (v.header.len - k)) (v.header.retired_held + k) = e ∙ (λ i. set_held (win i) (more i)) in
    ap (λ (y : Window). with_header y r) gave ∙ ap (with_header (sub_live_of v b k)) is

-- the limits stay, whatever the counts
pub live-limits : (h : AdaptiveReceiverPacketWindow) (x : BlockWords) (k : ℕ) (fewer : Change) (r : AdaptiveReceiverPacketWindow) (m : ℕ)
    → TakesLive h x k fewer → r ≡ set_held fewer.window m → limits_of r ≡ limits_of h
live-limits h x k fewer r m t e =
    let v = window h (λ g. record { kind = 0; occupied = 0; filled = 0; sequences = λ c. 0; values = λ c. 0 }) (λ d. block_of x) in
    ap limits_of e ∙ ap (λ (y : Window). limits_of y.header) ((t.gives 0).gives v refl refl)

-- ---- the code's steps

module _ (h : AdaptiveReceiverPacketWindow) (pages blocks : List ℕ) (b mask : ℕ) (x : BlockWords) (c : Change) (newly k : ℕ) (marked : BlockWords) (fewer : Change)
    (r : AdaptiveReceiverPacketWindow) (blocks' : List ℕ)
    (found : x ≡ block_words_at blocks b) (split : Changes (λ (v : Window). split_block v b) h x b c) (new : newly ≡ newly_marked c.block mask)
    (marks : marked ≡ with_marks c.block newly) (counted : k ≡ values_of pages b newly) (taken : TakesLive c.window marked k fewer)
    (more : r ≡ set_held fewer.window ((fewer.window.retired_held + k) % 2 ^ 32)) (put : blocks' ≡ with_block_words blocks b fewer.block) where
  abbrev any : Window
  any = window h (λ g. no_page) (λ d. block_of x)

  split_stays : limits_of c.window ≡ limits_of h
  split_stays = ap (λ (y : Window). limits_of y.header) (split.gives any refl refl) ∙ split-limits any b

  stays : limits_of r ≡ limits_of h
  stays = live-limits c.window marked k fewer r ((fewer.window.retired_held + k) % 2 ^ 32) taken more ∙ split_stays

  touched : Touches h blocks (b + 1) r blocks'
  touched = record {
    limits = stays;
    long = ap length put ∙ words-length words_per_block blocks b (block_row fewer.block);
    past = λ n l. ap (drop (words_per_block * n)) put ∙ words-past words_per_block blocks b (block_row fewer.block) refl n (omega arith);
  }

  module _ (room : Room h blocks b) (from to : ℕ) (inside : to ≤ page_count_of h.window_size) (named : (i : ℕ) → i < 64 → is_set mask i ≡ pages_in from to b i)
      (ss vs : List ℕ) where
    abbrev v : Window
    v = decode h (memory ss vs pages blocks)

    abbrev u : Window
    u = split_block v b

    split-is : changed v b c ≡ u
    split-is = split.gives v (header_at h (memory ss vs pages blocks)) (block_at h (memory ss vs pages blocks) b room.below ∙ ap block_of (sym found))

    -- the block's words in the split window
    block-is : u.blocks b ≡ block_of c.block
    block-is = ap (λ (y : Window). y.blocks b) (sym split-is) ∙ upd_same v.blocks b (block_of c.block)

    header_is : u.header ≡ c.window
    header_is = ap (λ (y : Window). y.header) (sym split-is)

    -- the new marks are those of the definition
    new_is : (i : ℕ) → i < 64 → is_set newly i ≡ new_marks u from to b i
    new_is i l =
        ap (λ (y : ℕ). is_set y i) new ∙ newly-marked-set c.block mask i l
        ∙ (λ j. named i l j && (is_set (sym block-is j).nonempty i && not (is_set (sym block-is j).retired i)))

    abbrev word : ℕ
    word = word_of (λ (i : ℕ). is_set (u.blocks b).retired i || new_marks u from to b i)

    marks-word : marked.retired ≡ word
    unfolding with_marks
    marks-word =
        ap (λ (y : BlockWords). y.retired) marks
        ∙ word-eq (with_marks c.block newly).retired (λ (i : ℕ). is_set (u.blocks b).retired i || new_marks u from to b i)
        (word_lt (λ (j : ℕ). is_set c.block.retired j || is_set newly j) 64)
        (λ i l. with-marks-set c.block newly i l ∙ (λ j. is_set (sym block-is j).retired i || new_is i l j))

    marked-is : block_of marked ≡ set_retired (u.blocks b) word
    unfolding with_marks
    marked-is =
        (λ j. set_retired (block_of (marks j)) (marks-word j))
        ∙ (λ j. set_retired (sym block-is j) word)

    -- the values counted are those of the definition
    page-values : (i : ℕ) → i < 64 → values_at_of pages b newly i ≡ cond (new_marks u from to b i) (values_in_of (u.pages (64 * b + i))) 0
    page-values i l =
        bool (new_marks u from to b i)
        (λ e.
        let t = both (pages_in from to b i) (is_set (u.blocks b).nonempty i && not (is_set (u.blocks b).retired i)) e in
        let low = both (leb from (64 * b + i)) (ltb (64 * b + i) to) t.0 in
        let below : 64 * b + i < page_count_of h.window_size = omega (arith, ltb-true (64 * b + i) to low.1) in
        let is : (u.pages (64 * b + i)).occupied ≡ (words_at pages (64 * b + i)).occupied = ap (λ (f : ℕ → Page). (f (64 * b + i)).occupied) (split-pages v b) ∙ ap (λ (p : Page). p.occupied) (page-at h (memory ss vs pages blocks) (64 * b + i) below) in
        rw (new_is i l ∙ e, e) (ap count (sym is)))
        (λ e. rw (new_is i l ∙ e, e))

    count-is : k ≡ sum 64 (λ (i : ℕ). cond (new_marks u from to b i) (values_in_of (u.pages (64 * b + i))) 0)
    unfolding values_of
    count-is = counted ∙ sum_same 64 (values_at_of pages b newly) (λ (i : ℕ). cond (new_marks u from to b i) (values_in_of (u.pages (64 * b + i))) 0) page-values

    held_same : c.window.retired_held ≡ h.retired_held
    unfolding split_block
    held_same =
        ap (λ (y : Window). y.header.retired_held) split-is
        ∙ bool (is_set v.header.retired_blocks b) (λ e. rw e) (λ e. rw e)
        ∙ ap (λ (y : AdaptiveReceiverPacketWindow). y.retired_held) (header_at h (memory ss vs pages blocks))

    abbrev w : Window
    w = set_marks u b word

    w-block : w.blocks b ≡ block_of marked
    w-block = upd_same u.blocks b (set_retired (u.blocks b) word) ∙ sym marked-is

    retired-is : changed w b (record { window = r; block = fewer.block }) ≡ retire_live w b k
    retired-is =
        retires-live c.window marked b k fewer r taken more (omega (arith, counted, values-le pages b newly, held_same, room.held)) w header_is w-block

    same-window : changed v b (record { window = r; block = fewer.block }) ≡ changed w b (record { window = r; block = fewer.block })
    same-window =
        sym (again v b (block_of c.block) (block_of fewer.block) c.window r)
        ∙ ap (λ (y : Window). with_block (with_header y r) b (block_of fewer.block)) split-is
        ∙ sym (again u b (set_retired (u.blocks b) word) (block_of fewer.block) u.header r)

    pub pages-retired : decode r (memory ss vs pages blocks') ≡ retire_in_block v from to b
    unfolding retire_in_block
    pages-retired =
        ap (λ (y : List ℕ). decode r (memory ss vs pages y)) put
        ∙ decode-changed h (memory ss vs pages blocks) b (record { window = r; block = fewer.block }) (ap (λ (y : Limits). y.size) stays) room.below room.blocks_long
        ∙ same-window ∙ retired-is ∙ ap (retire_live w b) count-is

  pub retires-in-block : RetiresInBlock h pages blocks b mask r blocks'
  retires-in-block = record { touches = touched; gives = pages-retired }

-- the pages newly marked are named by the mask
pub newly-named : (pages : List ℕ) (b mask newly : ℕ) (x : BlockWords) → newly ≡ newly_marked x mask → PagesNamed pages b mask → PagesNamed pages b newly
newly-named pages b mask newly x e named i l m =
    named i l (both (is_set mask i) (is_set x.nonempty i && not (is_set x.retired i)) (sym (newly-marked-set x mask i l) ∙ ap (λ (y : ℕ). is_set y i) (sym e) ∙ m)).0
