-- The loops over a list's words and over its bytes, over plain variables: what a word that is taken leaves to read, what the list is at
-- the end, stores one after another. Assumes nothing.
use mathlib.Core.Path.{◌≡◌, refl, sym, ap, ◌∙◌}
use mathlib.Core.Bool.{Bool, true, false, not, true≢false}
use mathlib.Core.List.{List, [], ◌∷◌, ◌++◌, append_assoc}
use Prim.Native.Nat.{ℕ, suc, ◌+◌, ◌-◌, ◌^◌, ◌≤◌, ◌<◌}
use native.Mathlib.Omega.{arith}
use lib.ListN.{length, length-replicate, replicate, get_or, set, take, drop}
use lib.Seq.{sets, sets-eq, length-sets}
use borrow.Author.Tests.{not-true}
use borrow.Rule.Slice.PartMut.{put_mid, mid_of}
use Rattle.std.proofs.lemmas.List.{drop-drop, length-take, length-drop}
use Rattle.std.specs.Prelude.{Option, None, Some}
use Rattle.model.specs.Losses.{is_loss_list_of, loss_bytes, lost_count, over}
use Rattle.laws_losses.specs.Marks.{mark_of}
use Rattle.laws_losses.specs.Reading.{place, turn, is_opened_of, read_list, is_taken}
use Rattle.laws_losses.specs.Loops.{rest_read, Read, Told}
use Rattle.laws_losses.proofs.ReadLaws.{turn-place}
use Rattle.laws_losses.proofs.LoopLaws.{taken-onto}
use Rattle.laws_losses.proofs.TurnLaws.{filled-over, read_taken, read-refused, read-last, read-dangling, told-taken, told-end}
use Rattle.laws_losses.proofs.LossLaws as losses
use Rattle.loss_list.specs.declared.read.Phase.{Phase}
use Rattle.loss_list.specs.declared.read.Turn.{Turn}
use Rattle.loss_list.specs.Promises.{phase_of, turned_by, PutsFlags}

-- ---- stores one after another

sets-append : (xs ys l : List ℕ) (i j : ℕ) → i + length xs ≡ j → sets (sets l i xs) j ys ≡ sets l i (xs ++ ys)
sets-append [] ys l i j e = let s : j ≡ i = omega arith in ap (λ (k : ℕ). sets l k ys) s
sets-append (x ∷ xs) ys l i j e = sets-append xs ys (set l i x) (suc i) j (omega arith)

-- a part of a list filled with one number
pub part_filled : (l now : List ℕ) (a e k b : ℕ) → e ≡ a + k → e ≤ length l → now ≡ replicate (length (mid_of a (e - a) l)) b
    → put_mid a (e - a) l now ≡ sets l a (replicate k b)
part_filled l now a e k b q h f =
    let d : e - a ≡ k = omega arith in
    let long : length (mid_of a k l) ≡ k = omega (arith, length-take {A = ℕ}, length-drop {A = ℕ}) in
    let n : now ≡ replicate k b = rw (← long, ← d) f in
    let s : a + length (replicate k b) ≤ length l = omega (arith, length-replicate {A = ℕ} k b) in
    rw (d, n, sets-eq (replicate k b) l a s, length-replicate k b, ← drop-drop k a l) (sym (append_assoc (take a l) (replicate k b) (drop k (drop a l))))

-- two parts filled, one after the other
pub parts_filled : (l x y : List ℕ) (a g k : ℕ) → a + g + k ≤ length l → x ≡ replicate (length (mid_of a ((a + g) - a) l)) 0
    → y ≡ replicate (length (mid_of (a + g) ((a + g + k) - (a + g)) (put_mid a ((a + g) - a) l x))) 1
    → put_mid (a + g) ((a + g + k) - (a + g)) (put_mid a ((a + g) - a) l x) y ≡ sets (sets l a (replicate g 0)) (a + g) (replicate k 1)
parts_filled l x y a g k h ex ey =
    let gap : put_mid a ((a + g) - a) l x ≡ sets l a (replicate g 0) = part_filled l x a (a + g) g 0 refl (omega arith) ex in
    let room : a + g + k ≤ length (put_mid a ((a + g) - a) l x) = omega (arith, ap length gap, length-sets l a (replicate g 0)) in
    part_filled (put_mid a ((a + g) - a) l x) y (a + g) (a + g + k) k 1 refl room ey ∙ ap (λ (m : List ℕ). sets m (a + g) (replicate k 1)) gap

-- ---- a list read

module _ (first n : ℕ) (l : List ℕ) where
  module _ (a : ℕ) (p : Phase) (i : ℕ) where
    -- what the word at index i says at a place
    abbrev Says : Option Turn → Type 0
    Says r = turned_by a r ≡ turn n a (phase_of p) (mark_of first (get_or l i 0))

    -- a word that is taken
    module _ (t : Turn) (e : Says (Some t)) where
      pub turn-within : a + t.gap + t.lost ≤ n
      turn-within = (turn-place n a (phase_of p) (mark_of first (get_or l i 0)) _ (sym e)).1

      pub reads_on : Read first n l (place a (phase_of p)) i → i < length l → Read first n l (place (a + t.gap + t.lost) (phase_of t.phase)) (i + 1)
      reads_on s h = read_taken first n l _ i s _ h (sym e)

  module _ (low : first < 2 ^ 31) (few : n ≤ 65536) where
    right_is : is_taken (read_list first n l) ≡ is_loss_list_of first n l
    right_is = losses.taken_is first low n l (omega arith)

    module _ (a : ℕ) (p : Phase) (i : ℕ) (s : Read first n l (place a (phase_of p)) i) where
      -- a word that is not
      pub not-list : i < length l → Says a p i None → false ≡ is_loss_list_of first n l
      not-list h e = sym (ap is_taken (read-refused first n l _ i s h (sym e))) ∙ right_is

      -- past the last word a list is taken unless a run's second word has not come
      pub list-closed : length l ≤ i → (b : Bool) → b ≡ is_opened_of (phase_of p) → not b ≡ is_loss_list_of first n l
      list-closed end true o = sym (ap is_taken (read-dangling first n l _ i s end (sym o))) ∙ right_is
      list-closed end false o = sym (ap is_taken (read-last first n l _ i s end (sym o)).1) ∙ right_is

    -- ---- the bytes of a right list

    module _ (before : List ℕ) (room : n ≤ length before) (right : is_loss_list_of first n l ≡ true) where
      module _ (a : ℕ) (p : Phase) (i c : ℕ) (now : List ℕ) (t : Told first n l before (place a (phase_of p)) i c now) where
        told-read : Read first n l (place a (phase_of p)) i
        told-read = record { left = ap is_taken t.left ∙ taken-onto t.flags (rest_read first n (place a (phase_of p)) i l) }

        -- a word that is taken: the bytes of what it says are put
        pub tells-on : i < length l → (r : Turn) → Says a p i (Some r)
            → Told first n l before (place (a + r.gap + r.lost) (phase_of r.phase)) (i + 1) (c + r.lost)
            (sets (sets now a (replicate r.gap 0)) (a + r.gap) (replicate r.lost 1))
        tells-on h r e =
            let gap = replicate r.gap 0 in
            let lost = replicate r.lost 1 in
            let both : sets (sets now a gap) (a + r.gap) lost ≡ sets now a (gap ++ lost) =
            sets-append gap lost now a (a + r.gap) (omega (arith, length-replicate {A = ℕ} r.gap 0)) in
            rw both (told-taken first n l before _ i c now t _ h (sym e) room)

        -- none is refused
        pub never-refused : i < length l → Says a p i None → ⊥
        never-refused h e = true≢false (sym right ∙ sym (not-list a p i told-read h e))

        -- past the last word nothing more is lost
        pub puts-flags : length l ≤ i → a ≤ n → PutsFlags first n l before c (sets now a (replicate (n - a) 0))
        puts-flags end m =
            let closed = not-true (is_opened_of (phase_of p)) (list-closed a p i told-read end (is_opened_of (phase_of p)) refl ∙ right) in
            let x = told-end first n l before _ i c now t end closed m room in
            let named = sym (losses.read_taken first low n l x.0 (omega arith) x.1).1 in
            record {
              number = x.3 ∙ ap lost_count named;
              bytes = (filled-over before _ n (loss_bytes x.0) x.2).1 ∙ ap (λ (f : List Bool). over (loss_bytes f) before) named;
            }
