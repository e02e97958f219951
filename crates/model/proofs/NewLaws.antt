-- What `new` leaves: it reads as the fresh window, whatever the cells held; a fresh window is sound and holds nothing. Assumes nothing.
use mathlib.Core.Path.{◌≡◌, refl, sym, ap, ◌∙◌, subst}
use mathlib.Core.Bool.{true, false, not, ◌&&◌, true≢false}
use mathlib.Core.Option.{none}
use mathlib.Core.List.{List, []}
use Prim.Native.Nat.{ℕ, zero, suc, ◌+◌, ◌-◌, ◌*◌, ◌/◌, ◌%◌, ◌≤◌, ◌<◌}
use native.Mathlib.Omega.{arith}
use lib.Dec.{ltb, eqb}
use lib.ListN.{length, get_or, drop, replicate, length-append, length-drop, length-replicate, get_or-replicate, get_or-append}
use borrow.Author.Tests.{ltb-true, le-ltb}
use Rattle.words.proofs.CaseLaws.{bool}
use Rattle.words.specs.First.{first_from_of}
use Rattle.words.proofs.FirstLaws.{first-is, first-eq}
use Rattle.words.specs.Word.{bit_at, is_set, count_below}
use Rattle.words.proofs.BitLaws.{bit-none}
use Rattle.words.proofs.CountLaws.{count_none}
use Rattle.window.specs.declared.AdaptiveReceiverPacketWindow.{AdaptiveReceiverPacketWindow}
use Rattle.window.specs.Memory.{Memory, capacity, position, page_count_of, block_count_of, words_per_page, words_per_block, zeroed}
use Rattle.window.proofs.MemoryLaws.{page-count-ge}
use Rattle.window.specs.Refusals.{limits, long_enough_of, Within, LongEnough}
use Rattle.window.proofs.RefusalLaws.{limits-within, long-enough-is, is-fit}
use Rattle.window.specs.New.{fresh, cleared, made, refused, new_result, NewResult, unless_refused, short_memory, new_of}
use Rattle.model.specs.Calls.{ended}
use Rattle.model.specs.Table.{Table, finds, sequence_at_of}
use Rattle.model.specs.Point.{is_live, reach, point_of}
use Rattle.model.specs.Window.{Window, no_block, cells_at, decode, fresh_window, stands_at, cell_of, is_retired, live_at, retired_at, in_use, is_reached, reads_of, iter_step, pairs_from, live_pairs_of, unreached, retired_values, capacity_of}
use Rattle.model.specs.Pages.{values_in_of}
use Rattle.model.specs.Sound.{Used, SoundPage, live_in, retired_in, SoundWithPoint, Sound}
use Rattle.model.specs.Contract.{State, window_of, lengths_fit}
use Rattle.model.specs.Heads.{Began}
use Rattle.model.proofs.SumLaws.{sum-zero}

-- ---- words set to 0 read as 0

pub zeroed-at : (n : ℕ) (xs : List ℕ) (i : ℕ) → i < n → get_or (zeroed n xs) i 0 ≡ 0
zeroed-at n xs i h =
    get_or-append (replicate n 0) (drop n xs) 0 i (rw (length-replicate {A = ℕ} n 0) h) ∙ get_or-replicate {A = ℕ} n i 0 0 h

zeroed-length : (n : ℕ) (xs : List ℕ) → n ≤ length xs → length (zeroed n xs) ≡ length xs
zeroed-length n xs l = omega (arith, length-append (replicate n 0) (drop n xs), length-replicate {A = ℕ} n 0, length-drop n xs)

-- ---- where nothing is live, the point from base 0 is 0

none-point : (size : ℕ) (t : Table) → ((q : ℕ) → t q ≡ none) → point_of size t 0 ≡ 0
unfolding reach
none-point size t h = ap (sequence_at_of 0) (sym (first-eq (λ (d : ℕ). not (is_live size t (sequence_at_of 0 d))) size 0 0 (record {
  from = omega arith;
  top = omega arith;
  held = λ l. ap (λ (o : _). not (finds 0 o)) (h (position size 0));
  none = λ j a b. absurd (omega arith);
})))

-- ---- what new leaves reads as the fresh window
module _ (size n d : ℕ) (m : Memory) where
  new-page : (g : ℕ) → (decode (fresh size n d) (cleared size m)).pages g ≡ (fresh_window size n d m).pages g
  unfolding decode fresh_window fresh cleared
  new-page g = bool (ltb g (page_count_of size))
      (λ i.
      let l = ltb-true g (page_count_of size) i in
      rw i (λ j. record {
        kind = zeroed-at (words_per_page * page_count_of size) m.pages (words_per_page * g + 0) (omega arith) j;
        occupied = zeroed-at (words_per_page * page_count_of size) m.pages (words_per_page * g + 1) (omega arith) j;
        filled = zeroed-at (words_per_page * page_count_of size) m.pages (words_per_page * g + 2) (omega arith) j;
        sequences = cells_at m.sequences g;
        values = cells_at m.values g;
      }))
      (λ i. rw i)

  new-block : (b : ℕ) → (decode (fresh size n d) (cleared size m)).blocks b ≡ no_block
  unfolding decode fresh cleared
  new-block b = bool (ltb b (block_count_of size))
      (λ i.
      let l = ltb-true b (block_count_of size) i in
      rw i (λ j. record {
        nonempty = zeroed-at (words_per_block * block_count_of size) m.blocks (words_per_block * b + 0) (omega arith) j;
        retired = zeroed-at (words_per_block * block_count_of size) m.blocks (words_per_block * b + 1) (omega arith) j;
        live = zeroed-at (words_per_block * block_count_of size) m.blocks (words_per_block * b + 2) (omega arith) j;
      }))
      (λ i. rw i)

  pub new-window : decode (fresh size n d) (cleared size m) ≡ fresh_window size n d m
  unfolding decode fresh_window
  new-window = λ i. record { header = fresh size n d; pages = λ (g : ℕ). new-page g i; blocks = λ (b : ℕ). new-block b i }

-- ---- the fresh window
not_set : (k : ℕ) → is_set 0 k ≡ false
not_set k = rw (bit-none k)

module _ (size n d : ℕ) (m : Memory) where
  abbrev w : Window
  w = fresh_window size n d m

  no_kind : (g : ℕ) → (w.pages g).kind ≡ 0
  unfolding fresh_window
  no_kind g = bool (ltb g (page_count_of size)) (λ i. rw i) (λ i. rw i)

  no-occupied : (g : ℕ) → (w.pages g).occupied ≡ 0
  unfolding fresh_window
  no-occupied g = bool (ltb g (page_count_of size)) (λ i. rw i) (λ i. rw i)

  no-filled : (g : ℕ) → (w.pages g).filled ≡ 0
  unfolding fresh_window
  no-filled g = bool (ltb g (page_count_of size)) (λ i. rw i) (λ i. rw i)

  not-retired : (g : ℕ) → is_retired w g ≡ false
  unfolding fresh_window fresh
  not-retired g = rw (not_set (g / 64), not_set (g % 64))

  not-used : (g c : ℕ) → Used (w.pages g) c → ⊥
  not-used g c u = let z : bit_at 0 c ≡ 1 = ap (λ (x : ℕ). bit_at x c) (sym (no-filled g)) ∙ u in omega (arith, bit-none c)

  no-values : (g : ℕ) → values_in_of (w.pages g) ≡ 0
  no-values g = ap (count_below 64) (no-occupied g) ∙ count_none 64

  fresh-page : (g : ℕ) → SoundPage n (capacity size) g (w.pages g)
  fresh-page g = record {
    kinds = omega (arith, no_kind g);
    none_occupied = λ e. no-occupied g;
    none_filled = λ e. no-filled g;
    some_occupied = λ e. absurd (e (no_kind g));
    named = λ c l u. absurd (not-used g c u);
    filled_by = λ j l u. absurd (let z : bit_at 0 j ≡ 1 = ap (λ (x : ℕ). bit_at x j) (sym (no-occupied g)) ∙ u in omega (arith, bit-none j));
    once = λ c e l k u. absurd (not-used g c u);
    here = λ c l u. absurd (not-used g c u);
    wire = λ c l u. absurd (not-used g c u);
    sparse = λ e c l u. absurd (not-used g c u);
    dense_filled = λ e. no-filled g ∙ sym (no-occupied g);
    dense_cells = λ e c l u. absurd (not-used g c u);
    occupied_fits = omega (arith, no-occupied g);
    filled_fits = omega (arith, no-filled g);
  }

  -- what new leaves is sound, whatever the cells held
  pub fresh-sound : Within size n d → Sound w
  unfolding fresh_window fresh
  fresh-sound within = record {
    within = within;
    page = λ g l. fresh-page g;
    dense = λ g l r k. absurd (let z : ◌≡◌ {A = ℕ} 0 2 = sym (no_kind g) ∙ k in omega arith);
    nonempty = λ g l. bit-none (g % 64) ∙ rw (no-occupied g);
    summary = λ b l. bit-none b;
    marks = λ g l u. absurd (omega (arith, bit-none (g % 64)));
    live = λ b l. sym (sum-zero 64 (λ (i : ℕ). live_in w (64 * b + i)) (λ i k. rw (not-retired (64 * b + i)) (no-values (64 * b + i))));
    len = sym (sum-zero (page_count_of size) (live_in w) (λ g l. rw (not-retired g) (no-values g)));
    held = sym (sum-zero (page_count_of size) (retired_in w) (λ g l. rw (not-retired g)));
    cursor = page-count-ge size;
    nonempty_bits = λ g l. bit-none (g % 64);
    retired_bits = λ g l. bit-none (g % 64);
    summary_bits = λ b l. bit-none b;
    retired_block_bits = λ b l. bit-none b;
    no_block_mark = λ e. refl;
    no_page_mark = λ e b l. refl;
    nonempty_fits = λ b. omega arith;
    retired_fits = λ b. omega arith;
  }

  -- ---- it holds nothing
  no_cell : (g j : ℕ) → cell_of (w.pages g) j ≡ 64
  unfolding cell_of
  no_cell g j =
      sym (first-eq (λ (c : ℕ). is_set (w.pages g).filled c && eqb ((w.pages g).sequences c % 64) j) 64 0 64 (record {
        from = omega arith;
        top = omega arith;
        held = λ l. absurd (omega arith);
        none = λ c a b. rw (no-filled g, not_set c);
      }))

  stands-nowhere : (g j : ℕ) → stands_at (w.pages g) j ≡ none
  stands-nowhere g j = rw (no_cell g j)

  pub fresh-live : (q : ℕ) → live_at w q ≡ none
  fresh-live q = rw (not-retired (q / 64)) (stands-nowhere (q / 64) (q % 64))

  pub fresh-retired : (q : ℕ) → retired_at w q ≡ none
  fresh-retired q = rw (not-retired (q / 64))

  unused : (c : ℕ) → in_use w c ≡ false
  unused c = rw (no-filled (c / 64), not_set (c % 64))

  -- document 02, S-2: a step reads the word of every block from the given cell's on
  pub fresh_step : (c : ℕ) → iter_step w c ≡ ended (reads_of (capacity_of w) c (capacity_of w))
  unfolding iter_step
  fresh_step c =
      let i = first-is (is_reached w) (capacity_of w - c) c in
      let r = first_from_of (is_reached w) (capacity_of w - c) c in
      bool (ltb r (capacity_of w))
      (λ t. absurd (true≢false (sym (i.held (omega (arith, ltb-true r (capacity_of w) t))) ∙ rw (unused r))))
      (λ t. rw (t, le-ltb (capacity_of w) (capacity_of w) (omega arith)))

  no_pairs : (k c : ℕ) → pairs_from k w c ≡ []
  unfolding pairs_from
  no_pairs zero c = refl
  no_pairs (suc k) c = rw (fresh_step c)

  pub fresh-pairs : live_pairs_of w ≡ []
  fresh-pairs = no_pairs (capacity_of w) 0

  none-unreached : (k : ℕ) → unreached k w ≡ []
  unfolding unreached
  none-unreached zero = refl
  none-unreached (suc k) = rw (unused k, unreached) (none-unreached k)

  pub fresh-values : retired_values w ≡ []
  fresh-values = none-unreached (capacity_of w)

-- ---- a head begins so

-- a new that made a header was not refused
not-refused : (k : ℕ) (m : Memory) (r : NewResult) (h : AdaptiveReceiverPacketWindow) (m' : Memory)
    → new_result (made h) m' ≡ unless_refused k m r → (k ≡ 0) × (new_result (made h) m' ≡ r)
not-refused zero m r h m' e = (refl, e)
not-refused (suc k) m r h m' e =
    let a : made h ≡ refused (suc k) = ap (λ (r : NewResult). r.answer) e in
    let z : ◌≡◌ {A = ℕ} 0 1 = cc in
    absurd (omega arith)

long-lent : (size : ℕ) (m : Memory) → short_memory size m ≡ 0
    → LongEnough size (length m.sequences) (length m.values) (length m.pages) (length m.blocks)
unfolding short_memory
long-lent size m e =
    bool (long_enough_of size (length m.sequences) (length m.values) (length m.pages) (length m.blocks))
    (λ t. long-enough-is size _ _ _ _ t)
    (λ t. absurd (let z : ◌≡◌ {A = ℕ} 6 0 = rw t at e in omega arith))

-- an accepted new was inside the limits and had long enough lists, and left what its definition says
pub record Accepted (size : ℕ) (u : State) (b : Began size u) : Type 0 where
  pub within : Within size b.n b.demote_at
  pub long : LongEnough size (length b.lent.sequences) (length b.lent.values) (length b.lent.pages) (length b.lent.blocks)
  pub header : u.header ≡ fresh size b.n b.demote_at
  pub memory : u.memory ≡ cleared size b.lent

pub began-accepted : (size : ℕ) (u : State) (b : Began size u) → Accepted size u b
unfolding new_of
began-accepted size u b =
    let first = not-refused (limits size b.n b.demote_at) b.lent _ u.header u.memory b.accepted in
    let second = not-refused (short_memory size b.lent) b.lent _ u.header u.memory first.1 in
    let same : new_result (made u.header) u.memory ≡ new_result (made (fresh size b.n b.demote_at)) (cleared size b.lent) = second.1 in
    let answer : made u.header ≡ made (fresh size b.n b.demote_at) = ap (λ (r : NewResult). r.answer) same in
    record {
      within = limits-within size b.n b.demote_at first.0;
      long = long-lent size b.lent second.0;
      header = cc answer;
      memory = ap (λ (r : NewResult). r.after) same;
    }

module _ (size : ℕ) (u : State) (b : Began size u) where
  accepted : Accepted size u b
  accepted = began-accepted size u b

  pub began-fresh : window_of u ≡ fresh_window size b.n b.demote_at b.lent
  began-fresh = rw (accepted.header, accepted.memory) (new-window size b.n b.demote_at b.lent)

  pub began-sound : SoundWithPoint (window_of u)
  unfolding fresh_window fresh
  began-sound = subst SoundWithPoint (sym began-fresh) (record {
    sound = fresh-sound size b.n b.demote_at b.lent accepted.within;
    base = omega arith;
    point = sym (none-point size (live_at (fresh_window size b.n b.demote_at b.lent)) (fresh-live size b.n b.demote_at b.lent));
  })

  -- its header and lists fit
  pub began-fits : lengths_fit u ≡ true
  unfolding fresh cleared
  began-fits =
      let long = accepted.long in
      rw (accepted.header, accepted.memory) (is-fit (fresh size b.n b.demote_at) _ _ _ _ (record {
        within = accepted.within;
        long = record {
          sequences_long = long.sequences_long;
          values_long = long.values_long;
          pages_long = omega (arith, long.pages_long, zeroed-length (words_per_page * page_count_of size) b.lent.pages long.pages_long);
          blocks_long = omega (arith, long.blocks_long, zeroed-length (words_per_block * block_count_of size) b.lent.blocks long.blocks_long);
        };
      }))
