-- A line's answer, by what it asks for: what was done and put is what the definition says. Assumes nothing.
use Rattle.std.proofs.Common.{◌≡◌, ℕ, zero, suc, ◌+◌, ◌*◌, ◌<◌, ◌≤◌, Bool, true, false, leb, List, [], length, take, sym, refl, ap, ◌∙◌, subst, true≢false, arith, le-ltb, lt-ltb, le-leb}
use Rattle.std.specs.Prelude.{Option, None, Some}
use mathlib.Core.Option as maybe
use lib.Seq.{take-nil}
use Rattle.window.specs.declared.AdaptiveReceiverPacketWindow.{AdaptiveReceiverPacketWindow}
use Rattle.window.specs.declared.answers.Step.{Step}
use Rattle.window.specs.Memory.{Memory, capacity, page_count_of}
use Rattle.window.specs.Refusals.{limits, LongEnough}
use Rattle.window.specs.New as new
use Rattle.window.specs.New.{new_of, short_memory}
use Rattle.window.proofs.MemoryLaws.{capacity-least, capacity-pages}
use Rattle.window.proofs.RefusalLaws.{within-limits, is-long-enough, fits-is}
use Rattle.model.specs.Calls.{Call, done, refused}
use Rattle.model.specs.Roles.{role_of}
use Rattle.model.specs.Window.{Window, live_pairs_of}
use Rattle.model.specs.Steps.{Effect, window_step}
use Rattle.model.specs.Contract.{State, window_of}
use Rattle.model.specs.Heads.{Began}
use Rattle.model.proofs.NewLaws.{began-accepted}
use Rattle.page_base.proofs.DecodeLaws.{header_at}
use Rattle.call_base.specs.Answers.{answer_of, state_of, left_of}
use Rattle.line_text.specs.PrintContracts.{Puts}
use Rattle.line_output.specs.Output.{line_bytes, list_bytes, unknown_bytes}
use Rattle.line_output.specs.Promises.{room_for, pairs_room, PutsIf}
use Rattle.line_calls.specs.Calls.{called, seen_by, taken, Makes, Made}
use Rattle.line_calls.specs.List.{sequences_of, values_of, Lists}
use Rattle.line_program.specs.Program.{kept_of, window_in, with_new, Printed, printed, unknown_line, new_or, new_line, call_line, list_line, on_window, command_line}
use Rattle.line_program.specs.Promises.{Kept, Answers}
use Rattle.line_program.proofs.KeptLaws.{window-in, does, call_kept, call-after, new-after, began-kept}

-- ---- an n that is refused

abbrev is_made : new.NewAnswer → Bool
is_made (new.made w) = true
is_made (new.refused k) = false

abbrev refusal_in : new.NewAnswer → ℕ
refusal_in (new.made w) = 0
refusal_in (new.refused k) = k

refused_as : (k j : ℕ) (m m' : Memory) (x : new.NewResult) → (k ≡ 0 → ⊥) → new.new_result (new.refused j) m' ≡ new.unless_refused k m x → (j ≡ k) × (m' ≡ m)
refused_as zero j m m' x h e = absurd (h refl)
refused_as (suc k) j m m' x h e = (ap (λ (r : new.NewResult). refusal_in r.answer) e, ap (λ (r : new.NewResult). r.after) e)

-- the program's memory is long enough for a window_size up to 4096
module _ (size : ℕ) (m : Memory) (s : size ≤ 4096) (ss : length m.sequences ≡ 4096) (vs : length m.values ≡ 4096) (ps : length m.pages ≡ 192) (bs : length m.blocks ≡ 3) where
  long : LongEnough size (length m.sequences) (length m.values) (length m.pages) (length m.blocks)
  long =
      let c : capacity size ≤ 4096 = capacity-least size 12 (omega arith) s (omega arith) in
      let p : page_count_of size ≤ 64 = omega (arith, c, capacity-pages size) in
      record {
        sequences_long = omega (arith, c);
        values_long = omega (arith, c);
        pages_long = omega (arith, p);
        blocks_long = omega (arith, p);
      }

  not_short : short_memory size m ≡ 0
  unfolding short_memory
  not_short = rw (is-long-enough size _ _ _ _ long) refl

  some-limit : (n d j : ℕ) (m' : Memory) → new.new_result (new.refused j) m' ≡ new_of m size n d → limits size n d ≡ 0 → ⊥
  unfolding new_of
  some-limit n d j m' e z =
      let f : new.new_result (new.refused j) m' ≡ new.new_result (new.made (new.fresh size n d)) (new.cleared size m) = rw (z, not_short) at e in
      true≢false (ap (λ (r : new.NewResult). is_made r.answer) (sym f))

  pub refused-limit : (n d j : ℕ) (m' : Memory) → new.new_result (new.refused j) m' ≡ new_of m size n d → (j ≡ limits size n d) × (m' ≡ m)
  unfolding new_of
  refused-limit n d j m' e = refused_as (limits size n d) j m m' _ (some-limit n d j m' e) e

-- what is printed of a refused n
new-or : (k : ℕ) (w v : Window) → (k ≡ 0 → ⊥) → new_or k w v ≡ printed w (line_bytes 110 (refused k) w.header [])
new-or zero w v h = absurd (h refl)
new-or (suc k) w v h = refl

-- ---- the return list as a call sees it

taken-few : (o : maybe.Option Bool) (l : List ℕ) → length (taken o l) ≤ length l
taken-few maybe.none l = omega arith
taken-few (maybe.some b) l = omega arith

taken-first : (o : maybe.Option Bool) (n : ℕ) (l e : List ℕ) → take n (taken o l) ≡ e → n ≡ length e → take n l ≡ e
taken-first maybe.none n l e t h =
    let z : e ≡ [] = sym t ∙ take-nil n in
    let k : n ≡ 0 = h ∙ ap length z in
    ap (λ (j : ℕ). take j l) k ∙ sym z
taken-first (maybe.some b) n l e t h = t

-- an n with a larger window_size is no call
pub new-larger : (size n d : ℕ) (u v : State) (at : ℕ) (out : List ℕ) (r : ℕ) (out' : List ℕ) → 4096 < size → Answers (unknown_line (kept_of u)) v at out r out'
    → Answers (new_line (kept_of u) size n d) v at out r out'
unfolding new_line
new-larger size n d u v at out r out' l a = rw (lt-ltb 4096 size l) a

-- a letter that makes no call, of which it is told whether the return list has 384 places
listed : (g : Bool → Option Call) (l : List ℕ) → length l ≡ 384 → g (leb 384 (length l)) ≡ g true
listed g l e = ap g (le-leb 384 (length l) (omega arith))

module _ (g : Bool → Option Call) (u : State) (l : List ℕ) (m : Memory) (l' : List ℕ) (t : Made (g (leb 384 (length l))) u l None m l') where
  same_memory : (o : Option Call) → Made o u l None m l' → m ≡ u.memory
  same_memory None s = s.0
  same_memory (Some c) s = absurd s

  pub unmade-kept : Kept u → Kept (state_of u.header m)
  unmade-kept k = subst (λ (x : Memory). Kept (state_of u.header x)) (sym (same_memory (g (leb 384 (length l))) t)) k

  module _ (letter : ℕ) (v : State) (at : ℕ) (out : List ℕ) (r : ℕ) (out' : List ℕ) where
    no_line : (o : Option Call) → Made o u l None m l' → Answers (unknown_line (kept_of (state_of u.header m))) v at out r out'
        → Answers (command_line (kept_of u) letter (called o)) v at out r out'
    no_line None s a = subst (λ (x : Memory). Answers (unknown_line (kept_of (state_of u.header x))) v at out r out') s.0 a
    no_line (Some c) s a = absurd s

    pub unmade-answers : length l ≡ 384 → Answers (unknown_line (kept_of (state_of u.header m))) v at out r out'
        → Answers (command_line (kept_of u) letter (called (g true))) v at out r out'
    unmade-answers e a = no_line (g true) (subst (λ (o : Option Call). Made o u l None m l') (listed g l e) t) a

-- the same answer by another name
pub answers-as : (p q : Printed) (v : State) (at : ℕ) (out : List ℕ) (r : ℕ) (out' : List ℕ) → q ≡ p → Answers p v at out r out' → Answers q v at out r out'
answers-as p q v at out r out' e a = subst (λ (x : Printed). Answers x v at out r out') (sym e) a

-- a buffer with 262144 places, of which at most 65536 are filled, has a place for any line
module _ (at : ℕ) (out : List ℕ) (o : length out ≡ 262144) (few : at ≤ 65536) where
  pub room-line : (list count : ℕ) → list ≡ 384 → count ≤ 384 → room_for (length out) at list count 21 ≡ true
  unfolding room_for
  room-line list count e l = rw (le-leb count 4096 (omega arith), le-leb count list (omega arith), le-leb (at + (128 + 21 * count)) (length out) (omega arith)) refl

  room-pairs : (ss vs count : ℕ) → ss ≡ 4096 → vs ≡ 4096 → count ≤ 4096 → pairs_room (length out) at ss vs count ≡ true
  unfolding room_for
  room-pairs ss vs count e f l =
      rw (le-leb count 4096 (omega arith), le-leb count ss (omega arith), le-leb (at + (128 + 42 * count)) (length out) (omega arith), le-leb count vs (omega arith)) refl

  -- ---- no call
  pub unknown-answers : (u : State) (r : ℕ) (out' : List ℕ) → Kept u → PutsIf (leb (at + 2) (length out)) at unknown_bytes out r out'
      → Answers (unknown_line (kept_of u)) u at out r out'
  unknown-answers u r out' k p = record { kept = k; after = refl; puts = p.puts (le-leb (at + 2) (length out) (omega arith)) }

  -- ---- n
  module _ (size n d : ℕ) (u : State) (r : ℕ) (out' : List ℕ) (returned : List ℕ) (list : length returned ≡ 384) where
    pub new-made : size ≤ 4096 → (w : AdaptiveReceiverPacketWindow) (m : Memory) → new.new_result (new.made w) m ≡ new_of u.memory size n d
        → PutsIf (room_for (length out) at (length returned) 0 21) at (line_bytes 110 done w []) out r out'
        → Answers (new_line (kept_of u) size n d) (state_of w m) at out r out'
    unfolding new_line
    new-made s w m e p =
        let b : Began size (state_of w m) = record { n = n; demote_at = d; lent = u.memory; accepted = e } in
        let a = began-accepted size (state_of w m) b in
        let after : kept_of (state_of w m) ≡ with_new (kept_of u) size n d = (λ i. kept_of (state_of (a.header i) (a.memory i))) ∙ new-after size n d u in
        let bytes : line_bytes 110 done w [] ≡ line_bytes 110 done (with_new (kept_of u) size n d).header [] = ap (λ (k : Window). line_bytes 110 done k.header []) after in
        rw (le-ltb 4096 size s, within-limits size n d a.within) (record {
          kept = began-kept size (state_of w m) b;
          after = after;
          puts = subst (λ (x : List ℕ). Puts at x out r out') bytes (p.puts (room-line (length returned) 0 list (omega arith)));
        })

    pub new-refused : size ≤ 4096 → length u.memory.sequences ≡ 4096 → length u.memory.values ≡ 4096 → length u.memory.pages ≡ 192 → length u.memory.blocks ≡ 3
        → Kept u → (k : ℕ) (m : Memory) → new.new_result (new.refused k) m ≡ new_of u.memory size n d
        → PutsIf (room_for (length out) at (length returned) 0 21) at (line_bytes 110 (refused k) u.header []) out r out'
        → Answers (new_line (kept_of u) size n d) (state_of u.header m) at out r out'
    unfolding new_line
    new-refused s ss vs ps bs kept k m e p =
        let f = refused-limit size u.memory s ss vs ps bs n d k m e in
        let same : state_of u.header m ≡ u = ap (state_of u.header) f.1 in
        let puts = p.puts (room-line (length returned) 0 list (omega arith)) in
        rw (le-ltb 4096 size s, new-or (limits size n d) (kept_of u) (with_new (kept_of u) size n d) (some-limit size u.memory s ss vs ps bs n d k m e)) (record {
          kept = subst Kept (sym same) kept;
          after = ap kept_of same;
          puts = subst (λ (j : ℕ). Puts at (line_bytes 110 (refused j) u.header []) out r out') f.0 puts;
        })

  -- ---- l
  pub list-answers : (u : State) (ss vs ss' vs' : List ℕ) (n r : ℕ) (out' : List ℕ) → Kept u → 0 < u.header.window_size → length u.memory.sequences ≡ 4096
      → length ss ≡ 4096 → length vs ≡ 4096 → Lists u ss vs n ss' vs'
      → PutsIf (pairs_room (length out) at (length ss') (length vs') n) at (list_bytes u.header (take n ss') (take n vs')) out r out'
      → Answers (list_line (kept_of u)) u at out r out'
  unfolding list_line
  list-answers u ss vs ss' vs' n r out' k has lent e f t p =
      let fits = fits-is u.header _ _ _ _ (k.fit has) in
      let l = t.sound (k.fit has) (k.sound has) (omega (arith, fits.long.sequences_long)) (omega (arith, fits.long.sequences_long)) in
      let pairs : live_pairs_of (window_of u) ≡ live_pairs_of (window_in (kept_of u)) = ap live_pairs_of (sym (window-in u)) in
      let first : take n ss' ≡ sequences_of (live_pairs_of (window_in (kept_of u))) = l.sequences ∙ ap sequences_of pairs in
      let second : take n vs' ≡ values_of (live_pairs_of (window_in (kept_of u))) = l.values ∙ ap values_of pairs in
      let bytes : list_bytes u.header (take n ss') (take n vs') ≡ list_bytes u.header (sequences_of (live_pairs_of (window_in (kept_of u)))) (values_of (live_pairs_of (window_in (kept_of u)))) =
      λ i. list_bytes u.header (first i) (second i) in
      record {
        kept = k;
        after = refl;
        puts = subst (λ (x : List ℕ). Puts at x out r out') bytes
            (p.puts (room-pairs (length ss') (length vs') n (t.sequences_long ∙ e) (t.values_long ∙ f) (omega (arith, t.sequences_fit))));
      }

  -- ---- a call
  module _ (c : Call) (letter : ℕ) (u : State) (l : List ℕ) (s : Step) (m : Memory) (l' : List ℕ) (t : Makes c u l s m l')
      (k : Kept u) (has : 0 < u.header.window_size) (r : ℕ) (out' : List ℕ) (before : length l ≡ 384) (after : length l' ≡ 384) where
    abbrev left : Effect
    left = window_step (window_of u) c

    abbrev made : Effect
    made = window_step (window_in (kept_of u)) c

    same : left ≡ made
    same = ap (λ (w : Window). window_step w c) (sym (window-in u))

    few-returned : s.answer.count ≤ 384
    few-returned = omega (arith, t.meets.count_fits, taken-few (role_of c).listed l)

    pub call-answers : PutsIf (room_for (length out) at (length l') s.answer.count 21) at
        (line_bytes letter (answer_of s.answer.answer) s.window (take s.answer.count l')) out r out'
        → Answers (on_window (kept_of u) (call_line (kept_of u) letter c)) (state_of s.window m) at out r out'
    unfolding call_line
    call-answers p =
        let v = left_of s m (seen_by c l') in
        let d = does c u (seen_by c l) v t.meets (k.fit has) (k.sound has) in
        let answer : answer_of s.answer.answer ≡ made.answer = d.answer ∙ ap (λ (e : Effect). e.answer) same in
        let header : s.window ≡ made.after.header =
        sym (header_at s.window m) ∙ ap (λ (w : Window). w.header) d.window ∙ ap (λ (e : Effect). e.after.header) same in
        let returned : take s.answer.count l' ≡ made.returned =
        taken-first (role_of c).listed s.answer.count l' left.returned d.returned d.count ∙ ap (λ (e : Effect). e.returned) same in
        let bytes : line_bytes letter (answer_of s.answer.answer) s.window (take s.answer.count l')
        ≡ line_bytes letter made.answer made.after.header made.returned = λ i. line_bytes letter (answer i) (header i) (returned i) in
        rw (lt-ltb 0 u.header.window_size has) (record {
          kept = call_kept c u (seen_by c l) v t.meets (k.fit has) (k.sound has);
          after = call-after c u (seen_by c l) v t.meets (k.fit has) (k.sound has);
          puts = subst (λ (x : List ℕ). Puts at x out r out') bytes (p.puts (room-line (length l') s.answer.count after few-returned));
        })

  -- what a letter other than n and l did, of which the call is told whether the return list has 384 places
  module _ (g : Bool → Option Call) (letter : ℕ) (u : State) (l : List ℕ) (m : Memory) (l' : List ℕ) (before : length l ≡ 384) (r : ℕ) (out' : List ℕ) where
    one_line : (o : Option Call) (s : Step) → Made o u l (Some s) m l' → Kept u → 0 < u.header.window_size → length l' ≡ 384
        → PutsIf (room_for (length out) at (length l') s.answer.count 21) at
        (line_bytes letter (answer_of s.answer.answer) s.window (take s.answer.count l')) out r out'
        → Answers (command_line (kept_of u) letter (called o)) (state_of s.window m) at out r out'
    one_line None s t k has after p = absurd t
    one_line (Some c) s t k has after p = call-answers c letter u l s m l' t k has r out' before after p

    pub made-answers : (s : Step) → Made (g (leb 384 (length l))) u l (Some s) m l' → Kept u → 0 < u.header.window_size → length l' ≡ 384
        → PutsIf (room_for (length out) at (length l') s.answer.count 21) at
        (line_bytes letter (answer_of s.answer.answer) s.window (take s.answer.count l')) out r out'
        → Answers (command_line (kept_of u) letter (called (g true))) (state_of s.window m) at out r out'
    made-answers s t = one_line (g true) s (subst (λ (o : Option Call). Made o u l (Some s) m l') (listed g l before) t)
