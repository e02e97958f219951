-- The turns of the loops: each keeps its record, and at the end the record says what the function must. Assumes nothing.
use mathlib.Core.Path.{◌≡◌, refl, sym, ap, ◌∙◌}
use mathlib.Core.Bool.{Bool, true, false, true≢false}
use mathlib.Core.Option.{Option, none, some}
use mathlib.Core.List.{List, [], ◌∷◌, ◌++◌, append_assoc, append-nil}
use Prim.Native.Nat.{ℕ, suc, ◌+◌, ◌-◌, ◌≤◌, ◌<◌}
use native.Mathlib.Omega.{arith}
use lib.ListN.{length, length-append, length-replicate, replicate, drop, get_or, set}
use lib.Seq.{sets, length-sets}
use Rattle.model.specs.Losses.{flags_from, run_words, loss_words, loss_bytes, lost_count, over}
use Rattle.laws_losses.specs.Marks.{mark_of, falses}
use Rattle.laws_losses.specs.Reading.{Place, place, clear, Turn, turn, is_opened_of, onto, said_by, read_list, is_taken}
use Rattle.laws_losses.specs.Loops.{run_count_of, words_left, rest_read, Filled, Wrote, Counted, Read, Told}
use Rattle.laws_losses.proofs.ReadLaws.{onto-none-before, onto-onto, turn-place}
use Rattle.laws_losses.proofs.LossLaws.{flags-length, list-most}
use Rattle.laws_losses.proofs.LoopLaws.{run-words-count, put_next, left_end, left-lost, left-kept, rest-taken, rest-refused, rest_end, rest-dangling, taken-onto, bytes-append, bytes-alike, said-bytes, count_none, count-append, count-falses, said-count}

-- ---- a lent list

pub filled_none : (before : List ℕ) → Filled before before 0 []
filled_none before = record { long = refl; list = refl }

-- one entry more
pub filled_next : (before now : List ℕ) (i : ℕ) (entries : List ℕ) (x : ℕ) → Filled before now i entries → i < length before
    → Filled before (set now i x) (i + 1) (entries ++ (x ∷ []))
filled_next before now i entries x f l =
    let j = length entries in
    let e = f.long in
    record {
      long = omega (arith, length-append entries (x ∷ []), e);
      list =
          ap (λ (r : List ℕ). set r i x) f.list ∙ (λ t. set (entries ++ drop (sym e t) before) (sym e t) x)
          ∙ put_next entries before x (omega (arith, e)) ∙ ap (λ (m : ℕ). (entries ++ (x ∷ [])) ++ drop (m + 1) before) e;
    }

-- some entries more, one after another
pub filled_more : (before now : List ℕ) (i : ℕ) (entries xs : List ℕ) → Filled before now i entries → i + length xs ≤ length before
    → Filled before (sets now i xs) (i + length xs) (entries ++ xs)
filled_more before now i entries [] f l =
    let e : i + 0 ≡ i = omega arith in
    rw (e, append-nil entries) f
filled_more before now i entries (x ∷ xs) f l =
    let one : i + 1 ≡ suc i = omega arith in
    let e : suc i + length xs ≡ i + suc (length xs) = omega arith in
    let g = rw one at (filled_next before now i entries x f (omega arith)) in
    rw (← e, ← append_assoc entries (x ∷ []) xs) (filled_more before (set now i x) (suc i) (entries ++ (x ∷ [])) xs g (omega arith))

-- so that the list is these entries over what was there
pub filled-over : (before now : List ℕ) (i : ℕ) (entries : List ℕ) → Filled before now i entries → (i ≡ length entries) × (now ≡ over entries before)
filled-over before now i entries f = (sym f.long, f.list ∙ ap (λ (j : ℕ). entries ++ drop j before) (sym f.long))

-- stores keep a list's length
pub stored-long : (out out2 : List ℕ) (i : ℕ) (xs : List ℕ) → out2 ≡ sets out i xs → length out2 ≡ length out
stored-long out out2 i xs e = ap length e ∙ length-sets out i xs

-- ---- the writer

module _ (lost : ℕ → Bool) (first n : ℕ) where
  abbrev total : List ℕ
  total = loss_words first (flags_from lost 0 n)

  -- all of it is left at first
  all_left : words_left lost first n 0 0 0 ≡ total
  all_left = let e : n - 0 ≡ n = omega arith in ap (λ (m : ℕ). loss_words first (flags_from lost 0 m)) e

  module _ (before : List ℕ) where
    pub wrote_none : Wrote lost first n before 0 0 0 0 before
    wrote_none = record { words = []; filled = filled_none before; run = refl; left = all_left }

    module _ (s k d i : ℕ) (now : List ℕ) (w : Wrote lost first n before s k d i now) (x : ℕ) (l : d + x ≤ n) where
      -- sequences that are lost lengthen the run
      pub wrote-lost : ((j : ℕ) → d ≤ j → j < d + x → lost j ≡ true) → Wrote lost first n before s (k + x) (d + x) i now
      wrote-lost h = record {
        words = w.words;
        filled = w.filled;
        run = omega (arith, w.run);
        left = ap (λ (r : List ℕ). w.words ++ r) (sym (left-lost lost first n s k d x l h)) ∙ w.left;
      }

      -- some that are not have the run written, for which there is room
      module _ (p : 0 < x) (h : (j : ℕ) → d ≤ j → j < d + x → lost j ≡ false) where
        kept-left : (w.words ++ run_words first s k) ++ words_left lost first n (d + x) 0 (d + x) ≡ total
        kept-left =
            append_assoc w.words (run_words first s k) (words_left lost first n (d + x) 0 (d + x))
            ∙ ap (λ (r : List ℕ). w.words ++ r) (sym (left-kept lost first n s k d x w.run p l h)) ∙ w.left

        pub kept-room : i + run_count_of k ≤ length total
        kept-room =
            let r = run_words first s k in
            let m = words_left lost first n (d + x) 0 (d + x) in
            omega (arith, ap length kept-left, length-append (w.words ++ r) m, length-append w.words r, w.filled.long, run-words-count first s k)

        pub wrote_kept : length total ≤ length before → Wrote lost first n before (d + x) 0 (d + x) (i + run_count_of k) (sets now i (run_words first s k))
        wrote_kept room =
            let c = run-words-count first s k in
            rw (← c) (record {
              words = w.words ++ run_words first s k;
              filled = filled_more before now i w.words (run_words first s k) w.filled (omega (arith, kept-room, c));
              run = omega arith;
              left = kept-left;
            })

    -- at the range's end the run that is on is written, and that is the list
    module _ (s k i : ℕ) (now : List ℕ) (w : Wrote lost first n before s k n i now) where
      end-left : w.words ++ run_words first s k ≡ total
      end-left = ap (λ (r : List ℕ). w.words ++ r) (sym (left_end lost first n s k)) ∙ w.left

      pub end-room : i + run_count_of k ≡ length total
      end-room = omega (arith, ap length end-left, length-append w.words (run_words first s k), w.filled.long, run-words-count first s k)

      pub wrote-end : length total ≤ length before → Filled before (sets now i (run_words first s k)) (i + run_count_of k) total
      wrote-end room =
          let c = run-words-count first s k in
          rw (← c, ← end-left) (filled_more before now i w.words (run_words first s k) w.filled (omega (arith, end-room, c)))

  -- ---- the words counted

  pub count-none-yet : Counted lost first n 0 0 0
  count-none-yet = record { run = omega arith; left = let z = ap length all_left in omega (arith, z) }

  module _ (k d c : ℕ) (t : Counted lost first n k d c) (x : ℕ) (l : d + x ≤ n) where
    pub count-lost : ((j : ℕ) → d ≤ j → j < d + x → lost j ≡ true) → Counted lost first n (k + x) (d + x) c
    count-lost h =
        let e : (d + x) - (k + x) ≡ d - k = omega arith in
        record {
          run = omega (arith, t.run);
          left = ap (λ (s : ℕ). c + length (words_left lost first n s (k + x) (d + x))) e
              ∙ ap (λ (r : List ℕ). c + length r) (sym (left-lost lost first n (d - k) k d x l h)) ∙ t.left;
        }

    pub count_kept : 0 < x → ((j : ℕ) → d ≤ j → j < d + x → lost j ≡ false) → Counted lost first n 0 (d + x) (c + run_count_of k)
    count_kept p h =
        let s = d - k in
        let own : s + k ≡ d = omega (arith, t.run) in
        let r = run_words first s k in
        let m = words_left lost first n (d + x) 0 (d + x) in
        let e : (d + x) - 0 ≡ d + x = omega arith in
        record {
          run = omega arith;
          left = ap (λ (y : ℕ). c + run_count_of k + length (words_left lost first n y 0 (d + x))) e
              ∙ omega (arith, t.left, ap length (left-kept lost first n s k d x own p l h), length-append r m, run-words-count first s k);
        }

  -- never more than sequences
  pub counted-few : (k d c : ℕ) → Counted lost first n k d c → c ≤ n
  counted-few k d c t = omega (arith, t.left, list-most first (flags_from lost 0 n), flags-length lost 0 n)

  pub count-end : (k c : ℕ) → Counted lost first n k n c → c + run_count_of k ≡ length total
  count-end k c t = omega (arith, t.left, ap length (left_end lost first n (n - k) k), run-words-count first (n - k) k)

-- ---- the reader

not_taken : (x : Option (List Bool)) → is_taken x ≡ false → x ≡ none
not_taken none e = refl
not_taken (some f) e = absurd (true≢false e)

is-taken : (x : Option (List Bool)) → is_taken x ≡ true → (f : List Bool) × (x ≡ some f)
is-taken none e = absurd (true≢false (sym e))
is-taken (some f) e = (f, refl)

module _ (first n : ℕ) (l : List ℕ) where
  pub read-start : Read first n l (place 0 clear) 0
  read-start = record { left = refl }

  module _ (p : Place) (i : ℕ) (r : Read first n l p i) where
    pub read_taken : (t : Turn) → i < length l → turn n p.at p.phase (mark_of first (get_or l i 0)) ≡ some t → Read first n l t.next (i + 1)
    read_taken t h e = record {
      left = r.left ∙ ap is_taken (rest-taken first n p i l t h e) ∙ taken-onto (said_by t) (rest_read first n t.next (i + 1) l);
    }

    pub read-refused : i < length l → turn n p.at p.phase (mark_of first (get_or l i 0)) ≡ none → read_list first n l ≡ none
    read-refused h e = not_taken (read_list first n l) (r.left ∙ ap is_taken (rest-refused first n p i l h e))

    pub read-last : length l ≤ i → is_opened_of p.phase ≡ false → (f : List Bool) × (read_list first n l ≡ some f)
    read-last h e = is-taken (read_list first n l) (r.left ∙ ap is_taken (rest_end first n p i l h e))

    pub read-dangling : length l ≤ i → is_opened_of p.phase ≡ true → read_list first n l ≡ none
    read-dangling h e = not_taken (read_list first n l) (r.left ∙ ap is_taken (rest-dangling first n p i l h e))

  -- ---- with the bytes

  module _ (before : List ℕ) where
    pub told-start : Told first n l before (place 0 clear) 0 0 before
    told-start = record { flags = []; filled = filled_none before; count = count_none; left = sym (onto-none-before (read_list first n l)) }

    module _ (p : Place) (i c : ℕ) (now : List ℕ) (r : Told first n l before p i c now) where
      -- a word's share of the bytes is put after those there are
      pub told-taken : (t : Turn) → i < length l → turn n p.at p.phase (mark_of first (get_or l i 0)) ≡ some t → n ≤ length before
          → Told first n l before t.next (i + 1) (c + t.lost) (sets now p.at (replicate t.gap 0 ++ replicate t.lost 1))
      told-taken t h e m =
          let xs : List ℕ = replicate t.gap 0 ++ replicate t.lost 1 in
          let said : loss_bytes r.flags ++ xs ≡ loss_bytes (r.flags ++ said_by t) =
          ap (λ (b : List ℕ). loss_bytes r.flags ++ b) (sym (said-bytes t)) ∙ sym (bytes-append r.flags (said_by t)) in
          let place_after = turn-place n p.at p.phase (mark_of first (get_or l i 0)) t e in
          let long : length xs ≡ t.gap + t.lost = omega (arith, length-append {A = ℕ} (replicate t.gap 0) (replicate t.lost 1), length-replicate {A = ℕ} t.gap 0, length-replicate {A = ℕ} t.lost 1) in
          let there : p.at + length xs ≡ t.next.at = omega (arith, long, place_after.0) in
          record {
            flags = r.flags ++ said_by t;
            filled = rw (← there, ← said) (filled_more before now p.at (loss_bytes r.flags) xs r.filled (omega (arith, there, place_after.1)));
            count = omega (arith, r.count, count-append r.flags (said_by t), said-count t);
            left =
                r.left ∙ ap (onto r.flags) (rest-taken first n p i l t h e)
                ∙ onto-onto r.flags (said_by t) (rest_read first n t.next (i + 1) l);
          }

      -- and at the end nothing more is lost
      pub told-end : length l ≤ i → is_opened_of p.phase ≡ false → p.at ≤ n → n ≤ length before
          → (f : List Bool) × (read_list first n l ≡ some f) × Filled before (sets now p.at (replicate (n - p.at) 0)) n (loss_bytes f) × (c ≡ lost_count f)
      told-end h e m b =
          let xs : List ℕ = replicate (n - p.at) 0 in
          let g = falses (n - p.at) in
          let said : loss_bytes r.flags ++ xs ≡ loss_bytes (r.flags ++ g) =
          ap (λ (y : List ℕ). loss_bytes r.flags ++ y) (sym (bytes-alike (n - p.at) false)) ∙ sym (bytes-append r.flags g) in
          let there : p.at + length xs ≡ n = omega (arith, length-replicate {A = ℕ} (n - p.at) 0) in (
            r.flags ++ g,
            r.left ∙ ap (onto r.flags) (rest_end first n p i l h e),
            rw there at (rw said at (filled_more before now p.at (loss_bytes r.flags) xs r.filled (omega (arith, there)))),
            omega (arith, r.count, count-append r.flags g, count-falses (n - p.at)),
          )
