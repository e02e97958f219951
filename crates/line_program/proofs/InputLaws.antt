-- The input in parts: the bytes of a line that have come, the line that they make, and the lines that end in a part. Assumes nothing.
use Rattle.std.proofs.Common.{◌≡◌, ℕ, suc, ◌+◌, ◌-◌, ◌<◌, ◌≤◌, ltb, List, [], ◌∷◌, ◌++◌, length, get_or, take, drop, sym, refl, ap, ◌∙◌, subst, append_assoc, append-nil, arith, length-append, length-drop, get_or-drop, take-suc, drop-drop, take-add, ltb-false, ltb-true, le-ltb, lt-ltb}
use Rattle.words.proofs.CaseLaws.{bool}
use Rattle.line_text.specs.Lines.{line_of, parts, ended, waiting}
use Rattle.line_text.specs.Promises.{NextByte, Appends}
use Rattle.line_text.proofs.PartLaws.{no_bytes, sliced, goes_on, ends-part, parts-ended, parts-waiting}
use Rattle.line_text.proofs.LongLaws.{long-line}
use Rattle.line_text.proofs.PrintLaws.{put-none, put_then}
use Rattle.model.specs.Window.{Window}
use Rattle.model.specs.Contract.{State}
use Rattle.line_program.specs.declared.Program.{Program}
use Rattle.line_program.specs.Program.{kept_of, Printed, printed, line_does, lines_do, unless_empty, lines_of, said_line}
use Rattle.line_faults.specs.Faults.{fault_of_text, fault_of_line}
use Rattle.line_program.specs.declared.notes.Notes.{Notes}
use Rattle.line_program.specs.Notes.{noted, fault_in, noted_line, noted_lines}
use Rattle.line_program.proofs.PrintedLaws.{first-put, prints-some}
use Rattle.line_program.proofs.NoteLaws.{noted_one, noted-on}
use Rattle.line_program.specs.Promises.{Kept, Answers, gathered, Holds, LineEnds, Takes, between, Stops, Ends}

-- ---- the bytes of a line that have come

pub holds-none : (line : List ℕ) → Holds line 0 []
holds-none line = record { whole = no_bytes 10; short = λ l. (refl, refl); long = λ l. absurd (omega arith) }

pub holds_more : (line : List ℕ) (n : ℕ) (b part : List ℕ) (r : ℕ) (line' : List ℕ) → Holds line n b → Appends line n part r line' → parts 10 part ≡ part ∷ []
    → length line' ≡ length line → Holds line' r (b ++ part)
holds_more line n b part r line' h a w e =
    let both = length-append b part in
    record {
      whole = goes_on 10 b part h.whole w;
      short = λ l.
          let s = h.short (omega (arith, both)) in
          let p = a.kept (omega (arith, both, s.0)) in
          (omega (arith, both, s.0, p.end), p.filled ∙ ap (λ (x : List ℕ). x ++ part) s.1);
      long = λ l.
          bool (ltb (length line) (length b))
          (λ t. a.long (omega (arith, h.long (ltb-true (length line) (length b) t))) ∙ ap (λ (k : ℕ). k + 1) (sym e))
          (λ t. a.long (omega (arith, both, (h.short (ltb-false (length line) (length b) t)).0)) ∙ ap (λ (k : ℕ). k + 1) (sym e));
    }

-- they say what the line of them says
pub holds-says : (line : List ℕ) (n : ℕ) (b : List ℕ) → length line ≡ 64 → Holds line n b → gathered line n ≡ line_of b
unfolding gathered
holds-says line n b e h =
    bool (ltb (length line) (length b))
    (λ t.
    let l = ltb-true (length line) (length b) t in
    rw (lt-ltb (length line) n (omega (arith, h.long l))) (sym (long-line b (omega arith))))
    (λ t.
    let s = h.short (ltb-false (length line) (length b) t) in
    rw (le-ltb (length line) n (omega (arith, s.0, ltb-false (length line) (length b) t))) (ap line_of s.1))

pub line-said : (k : Window) (line : List ℕ) (n : ℕ) (b : List ℕ) → length line ≡ 64 → Holds line n b → said_line k (gathered line n) ≡ line_does k b
unfolding line_does
line-said k line n b e h = ap (said_line k) (holds-says line n b e h)

-- and have the fault of that line
pub holds-fault : (line : List ℕ) (n : ℕ) (b : List ℕ) → length line ≡ 64 → Holds line n b → fault_of_line line n ≡ fault_in b
unfolding fault_of_line fault_in
holds-fault line n b e h =
    bool (ltb (length line) (length b))
    (λ t.
    let l = ltb-true (length line) (length b) t in
    rw (lt-ltb (length line) n (omega (arith, h.long l)), lt-ltb 64 (length b) (omega arith)) refl)
    (λ t.
    let l = ltb-false (length line) (length b) t in
    let s = h.short l in
    rw (le-ltb (length line) n (omega (arith, s.0, l)), le-ltb 64 (length b) (omega arith)) (ap fault_of_text s.1))

-- ---- line after line

pub lines-one : (k : Window) (l : List ℕ) → lines_do k (l ∷ []) ≡ line_does k l
unfolding lines_do
lines-one k l = ap (printed (line_does k l).after) (append-nil (line_does k l).bytes)

pub lines-on : (k : Window) (xs ys : List (List ℕ)) → let p = lines_do k xs in let q = lines_do p.after ys in lines_do k (xs ++ ys) ≡ printed q.after (p.bytes ++ q.bytes)
unfolding lines_do
lines-on k [] ys = refl
lines-on k (x ∷ xs) ys =
    let a = line_does k x in
    let p = lines_do a.after xs in
    let q = lines_do p.after ys in
    ap (λ (r : Printed). printed r.after (a.bytes ++ r.bytes)) (lines-on a.after xs ys)
    ∙ ap (printed q.after) (sym (append_assoc a.bytes p.bytes q.bytes))

-- one line answered, then others
pub answers-on : (k : Window) (xs ys : List (List ℕ)) (u v : State) (at m r : ℕ) (out₀ out₁ out : List ℕ) → Answers (lines_do k xs) u at out₀ m out₁
    → Answers (lines_do (kept_of u) ys) v m out₁ r out → Answers (lines_do k (xs ++ ys)) v at out₀ r out
answers-on k xs ys u v at m r out₀ out₁ out a b =
    let same : lines_do (kept_of u) ys ≡ lines_do (lines_do k xs).after ys = ap (λ (w : Window). lines_do w ys) a.after in
    let c = subst (λ (p : Printed). Answers p v m out₁ r out) same b in
    subst (λ (p : Printed). Answers p v at out₀ r out) (sym (lines-on k xs ys)) (record {
      kept = c.kept;
      after = c.after;
      puts = put_then at m r (lines_do k xs).bytes (lines_do (lines_do k xs).after ys).bytes out₀ out₁ out a.puts c.puts;
    })

no_lines : (u : State) (at : ℕ) (out : List ℕ) → Kept u → Answers (lines_do (kept_of u) []) u at out at out
unfolding lines_do
no_lines u at out k = record { kept = k; after = refl; puts = put-none at out }

no-notes : (k : Window) (n : Notes) → n ≡ noted_lines k n []
unfolding noted_lines
no-notes k n = refl

-- ---- a part of the input

-- no line feed came
ended-one : (b : List ℕ) → ended (b ∷ []) ≡ []
unfolding ended
ended-one b = refl

waiting-one : (b : List ℕ) → waiting (b ∷ []) ≡ b
unfolding waiting
waiting-one b = refl

ended-two : (b : List ℕ) → ended (b ∷ [] ∷ []) ≡ b ∷ []
unfolding ended
ended-two b = refl

waiting-two : (b : List ℕ) → waiting (b ∷ [] ∷ []) ≡ []
unfolding waiting
waiting-two b = refl

module _ (u : State) (n : Notes) (b taken : List ℕ) (at : ℕ) (out : List ℕ) (r : Program) (line' : List ℕ) where
  pub takes-rest : parts 10 (b ++ taken) ≡ (b ++ taken) ∷ [] → Kept u → r.at ≡ at → Holds line' r.length (b ++ taken) → r.notes ≡ n
      → Takes u n b taken at out r line' u out
  takes-rest e k a h m =
      let nothing : ended (parts 10 (b ++ taken)) ≡ [] = ap ended e ∙ ended-one (b ++ taken) in
      let rest : waiting (parts 10 (b ++ taken)) ≡ b ++ taken = ap waiting e ∙ waiting-one (b ++ taken) in
      record {
        answers = subst (λ (ls : List (List ℕ)). Answers (lines_do (kept_of u) ls) u at out r.at out) (sym nothing)
            (subst (λ (x : ℕ). Answers (lines_do (kept_of u) []) u at out x out) (sym a) (no_lines u at out k));
        waits = subst (Holds line' r.length) (sym rest) h;
        notes = m ∙ no-notes (kept_of u) n ∙ ap (noted_lines (kept_of u) n) (sym nothing);
      }

  -- a line ended, with nothing after it
  pub takes-line : (v : State) (out' : List ℕ) (x : List ℕ) → parts 10 (b ++ taken) ≡ x ∷ [] ∷ [] → Answers (line_does (kept_of u) x) v at out r.at out'
      → r.length ≡ 0 → r.notes ≡ noted_line (kept_of u) n x → Takes u n b taken at out r line' v out'
  takes-line v out' x e a z m =
      let one : ended (parts 10 (b ++ taken)) ≡ x ∷ [] = ap ended e ∙ ended-two x in
      let rest : waiting (parts 10 (b ++ taken)) ≡ [] = ap waiting e ∙ waiting-two x in
      record {
        answers = subst (λ (p : Printed). Answers p v at out r.at out') (sym (ap (lines_do (kept_of u)) one ∙ lines-one (kept_of u) x)) a;
        waits = subst (Holds line' r.length) (sym rest) (subst (λ (j : ℕ). Holds line' j []) (sym z) (holds-none line'));
        notes = m ∙ sym (noted_one (kept_of u) n x) ∙ ap (noted_lines (kept_of u) n) (sym one);
      }

-- one part after another
pub takes-on : (u v w : State) (n : Notes) (b x y : List ℕ) (at : ℕ) (out₀ out₁ out : List ℕ) (p r : Program) (line₁ line : List ℕ)
    → Takes u n b x at out₀ p line₁ v out₁ → Takes v p.notes (waiting (parts 10 (b ++ x))) y p.at out₁ r line w out
    → Takes u n b (x ++ y) at out₀ r line w out
takes-on u v w n b x y at out₀ out₁ out p r line₁ line s t =
    let bytes : b ++ (x ++ y) ≡ (b ++ x) ++ y = sym (append_assoc b x y) in
    let lines : ended (parts 10 (b ++ (x ++ y))) ≡ ended (parts 10 (b ++ x)) ++ ended (parts 10 (waiting (parts 10 (b ++ x)) ++ y)) =
    ap (λ (z : List ℕ). ended (parts 10 z)) bytes ∙ parts-ended 10 (b ++ x) y in
    let rest : waiting (parts 10 (b ++ (x ++ y))) ≡ waiting (parts 10 (waiting (parts 10 (b ++ x)) ++ y)) =
    ap (λ (z : List ℕ). waiting (parts 10 z)) bytes ∙ parts-waiting 10 (b ++ x) y in
    record {
      answers = subst (λ (ls : List (List ℕ)). Answers (lines_do (kept_of u) ls) w at out₀ r.at out) (sym lines)
          (answers-on (kept_of u) (ended (parts 10 (b ++ x))) (ended (parts 10 (waiting (parts 10 (b ++ x)) ++ y))) v w at p.at r.at out₀ out₁ out s.answers t.answers);
      waits = subst (Holds line r.length) (sym rest) t.waits;
      notes =
          t.notes ∙ (λ i. noted_lines (s.answers.after i) (s.notes i) (ended (parts 10 (waiting (parts 10 (b ++ x)) ++ y))))
          ∙ sym (noted-on (kept_of u) n (ended (parts 10 (b ++ x))) (ended (parts 10 (waiting (parts 10 (b ++ x)) ++ y))))
          ∙ ap (noted_lines (kept_of u) n) (sym lines);
    }

-- ---- stretches of a part

pub between_none : (a : ℕ) (l : List ℕ) → between a a l ≡ []
between_none a l = let z : a - a ≡ 0 = omega arith in ap (λ (n : ℕ). take n (drop a l)) z

pub between-on : (a b c : ℕ) (l : List ℕ) → a ≤ b → b ≤ c → between a c l ≡ between a b l ++ between b c l
between-on a b c l p q =
    let n : c - a ≡ (b - a) + (c - b) = omega arith in
    let m : a + (b - a) ≡ b = omega arith in
    ap (λ (k : ℕ). take k (drop a l)) n ∙ take-add (b - a) (c - b) (drop a l)
    ∙ ap (λ (x : List ℕ). between a b l ++ take (c - b) x) (drop-drop (b - a) a l ∙ ap (λ (k : ℕ). drop k l) m)

-- up to a line feed, and with it
pub between-feed : (from to : ℕ) (l : List ℕ) → from ≤ to → to < length l → get_or l to 0 ≡ 10 → between from (to + 1) l ≡ between from to l ++ (10 ∷ [])
between-feed from to l p q e =
    let n : to + 1 - from ≡ suc (to - from) = omega arith in
    let m : from + (to - from) ≡ to = omega arith in
    ap (λ (k : ℕ). take k (drop from l)) n ∙ take-suc (drop from l) (to - from) 0 (omega (arith, length-drop from l))
    ∙ ap (λ (x : ℕ). between from to l ++ (x ∷ [])) (get_or-drop from l (to - from) 0 ∙ ap (λ (k : ℕ). get_or l k 0) m ∙ e)

-- ---- a line that has ended: what its bytes ask for was done, and it is noted, with its answer's first byte where it was put

line-done : (u : State) (p : Program) (line : List ℕ) (n : ℕ) (out : List ℕ) (r : Program) (v : State) (out' : List ℕ) (b : List ℕ) → Holds line n b → LineEnds u p line n out r v out'
    → Answers (line_does (kept_of u) b) v p.at out r.at out' × (r.notes ≡ noted_line (kept_of u) p.notes b)
line-done u p line n out r v out' b h e =
    let does = subst (λ (x : Printed). Answers x v p.at out r.at out') (line-said (kept_of u) line n b e.places h) e.answers in
    let first = first-put p.at (line_does (kept_of u) b).bytes out r.at out' does.puts (prints-some (kept_of u) b) e.room in
    (does, e.notes ∙ (λ i. noted p.notes (holds-fault line n b e.places h i) (first i)))

-- ---- the bytes of a part up to its next line feed, or to its end

module _ (u : State) (part : List ℕ) (from to : ℕ) (next : NextByte part from 10 to) (line : List ℕ) (n : ℕ) (line' : List ℕ) (n' : ℕ)
    (a : Appends line n (between from to part) n' line') (same : length line' ≡ length line) (b : List ℕ) (h : Holds line n b) where
  came : Holds line' n' (b ++ between from to part)
  came = holds_more line n b (between from to part) n' line' h a (sliced part from 10 to next) same

  pub part-ended : Kept u → (out : List ℕ) (r : Program) → r.from ≡ to → r.length ≡ n' → Takes u r.notes b (between from r.from part) r.at out r line' u out
  part-ended k out r e f =
      let taken : between from r.from part ≡ between from to part = ap (λ (x : ℕ). between from x part) e in
      subst (λ (x : List ℕ). Takes u r.notes b x r.at out r line' u out) (sym taken)
      (takes-rest u r.notes b (between from to part) r.at out r line' came.whole k refl (subst (λ (x : ℕ). Holds line' x (b ++ between from to part)) (sym f) came) refl)

  pub line-ended : to < length part → (p : Program) (out : List ℕ) (r : Program) (v : State) (out' : List ℕ) → LineEnds u p line' n' out r v out' → r.from ≡ to + 1
      → Takes u p.notes b (between from r.from part) p.at out r line' v out'
  line-ended l p out r v out' e f =
      let seg = between from to part in
      let taken : between from r.from part ≡ seg ++ (10 ∷ []) = ap (λ (x : ℕ). between from x part) f ∙ between-feed from to part next.from_le l (next.found l) in
      let whole : parts 10 (b ++ (seg ++ (10 ∷ []))) ≡ (b ++ seg) ∷ [] ∷ [] =
      ap (parts 10) (sym (append_assoc b seg (10 ∷ []))) ∙ ends-part 10 10 (b ++ seg) came.whole refl in
      let done = line-done u p line' n' out r v out' (b ++ seg) came e in
      subst (λ (x : List ℕ). Takes u p.notes b x p.at out r line' v out') (sym taken)
      (takes-line u p.notes b (seg ++ (10 ∷ [])) p.at out r line' v out' (b ++ seg) whole done.0 e.begins done.1)

-- ---- the end of the input

pub none_left : (u : State) (line : List ℕ) (b : List ℕ) (out : List ℕ) (r : Program) → Kept u → Holds line 0 b → Ends u r.notes b r.at out r u out
none_left u line [] out r k h = record { answers = no_lines u r.at out k; notes = no-notes (kept_of u) r.notes }
none_left u line (x ∷ b) out r k h =
    bool (ltb (length line) (length (x ∷ b)))
    (λ t. absurd (omega (arith, h.long (ltb-true (length line) (length (x ∷ b)) t))))
    (λ t. absurd (omega (arith, (h.short (ltb-false (length line) (length (x ∷ b)) t)).0)))

some_left : (n : ℕ) (line b : List ℕ) → (n ≡ 0 → ⊥) → Holds line n b → unless_empty b ≡ b ∷ []
some_left n line [] z h = absurd (z (h.short (omega arith)).0)
some_left n line (x ∷ b) z h = refl

pub last-answered : (u : State) (p : Program) (line : List ℕ) (n : ℕ) (out : List ℕ) (r : Program) (v : State) (out' : List ℕ) (b : List ℕ) → (n ≡ 0 → ⊥) → Holds line n b
    → LineEnds u p line n out r v out' → Ends u p.notes b p.at out r v out'
last-answered u p line n out r v out' b z h e =
    let one : unless_empty b ≡ b ∷ [] = some_left n line b z h in
    let done = line-done u p line n out r v out' b h e in
    record {
      answers = subst (λ (x : Printed). Answers x v p.at out r.at out') (sym (lines-one (kept_of u) b) ∙ ap (lines_do (kept_of u)) (sym one)) done.0;
      notes = done.1 ∙ sym (noted_one (kept_of u) p.notes b) ∙ ap (noted_lines (kept_of u) p.notes) (sym one);
    }

-- ---- parts put together

-- what two parts print, one after the other, is what both print as one: x came after the bytes b of a line, then y
pub in_parts : (k : Window) (b x y : List ℕ)
    → let p = lines_do k (ended (parts 10 (b ++ x))) in let q = lines_do p.after (ended (parts 10 (waiting (parts 10 (b ++ x)) ++ y))) in
    lines_do k (ended (parts 10 (b ++ (x ++ y)))) ≡ printed q.after (p.bytes ++ q.bytes)
in_parts k b x y =
    ap (λ (z : List ℕ). lines_do k (ended (parts 10 z))) (sym (append_assoc b x y)) ∙ ap (lines_do k) (parts-ended 10 (b ++ x) y)
    ∙ lines-on k (ended (parts 10 (b ++ x))) (ended (parts 10 (waiting (parts 10 (b ++ x)) ++ y)))

-- what the lines that ended print and then the last, is what the input prints
pub whole-input : (k : Window) (input : List ℕ)
    → let p = lines_do k (ended (parts 10 input)) in let q = lines_do p.after (unless_empty (waiting (parts 10 input))) in
    lines_do k (lines_of input) ≡ printed q.after (p.bytes ++ q.bytes)
unfolding lines_of
whole-input k input = lines-on k (ended (parts 10 input)) (unless_empty (waiting (parts 10 input)))

-- ---- line after line of a part

-- from program p in state u, with this line's places and this output, to r
pub record TakenSoFar (part line : List ℕ) (u : State) (out : List ℕ) (p : Program) (line' : List ℕ) (u' : State) (out' : List ℕ) (r : Program) : Type 0 where
  pub kept : Kept u'
  pub from_le : p.from ≤ r.from
  pub le_end : r.from ≤ length part
  pub same : r.from ≤ p.from → r.at ≡ p.at
  pub takes : (b : List ℕ) → Holds line p.length b → Takes u p.notes b (between p.from r.from part) p.at out r line' u' out'

pub taken_none : (part line : List ℕ) (u : State) (out : List ℕ) (p : Program) → Kept u → p.from ≤ length part → TakenSoFar part line u out p line u out p
taken_none part line u out p k l = record {
  kept = k;
  from_le = omega arith;
  le_end = l;
  same = λ e. refl;
  takes = λ b h.
      let nothing : b ++ between p.from p.from part ≡ b = ap (λ (x : List ℕ). b ++ x) (between_none p.from part) ∙ append-nil b in
      takes-rest u p.notes b (between p.from p.from part) p.at out p line (subst (λ (x : List ℕ). parts 10 x ≡ x ∷ []) (sym nothing) h.whole) k refl
      (subst (Holds line p.length) (sym nothing) h) refl;
}

module _ (part line : List ℕ) (u : State) (out : List ℕ) (p : Program) (line₁ : List ℕ) (v : State) (out₁ : List ℕ) (q : Program)
    (s : TakenSoFar part line u out p line₁ v out₁ q) where
  pub taken_more : (line₂ : List ℕ) (w : State) (out₂ : List ℕ) (r : Program) → (q.from < r.from) × (r.from ≤ length part)
      → ((b : List ℕ) → Holds line₁ q.length b → Takes v q.notes b (between q.from r.from part) q.at out₁ r line₂ w out₂) → Kept w
      → TakenSoFar part line u out p line₂ w out₂ r
  taken_more line₂ w out₂ r l t k = record {
    kept = k;
    from_le = omega (arith, s.from_le, l.0);
    le_end = l.1;
    same = λ e. absurd (omega (arith, s.from_le, l.0));
    takes = λ b h.
        let x = s.takes b h in
        subst (λ (y : List ℕ). Takes u p.notes b y p.at out r line₂ w out₂) (sym (between-on p.from q.from r.from part s.from_le (omega (arith, l.0))))
        (takes-on u v w p.notes b (between p.from q.from part) (between q.from r.from part) p.at out out₁ out₂ q r line₁ line₂ x
        (t (waiting (parts 10 (b ++ between p.from q.from part))) x.waits));
  }

  -- it stops at the end of the part, or where much was put
  pub stops_end : length part ≤ q.from → Stops p (length part) q
  stops_end l = record { from_le = s.from_le; le_end = s.le_end; full = λ h. absurd (omega arith); goes_on = λ h a. omega arith }

  pub stops-full : 65536 < q.at → Stops p (length part) q
  stops-full l = record {
    from_le = s.from_le;
    le_end = s.le_end;
    full = λ h. l;
    goes_on = λ h a.
        bool (ltb p.from q.from) (λ t. ltb-true p.from q.from t)
        (λ t. absurd (omega (arith, s.same (ltb-false p.from q.from t))));
  }
