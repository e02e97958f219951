-- The point and the base after insert, exchange, remove, take_front and set_base, over plain variables: how each call meets its
-- contract. Assumes nothing.
use mathlib.Core.Path.{◌≡◌, refl, sym, ap, subst, ◌∙◌}
use mathlib.Core.Bool.{Bool, true, false}
use mathlib.Core.Option.{Option, none, some}
use mathlib.Core.List.{List, []}
use Prim.Native.Nat.{ℕ}
use native.Mathlib.Omega.{arith}
use lib.Dec.{eqb}
use lib.ListN.{length}
use Rattle.std.specs.Prelude.{Ok}
use Rattle.words.proofs.CaseLaws.{bool}
use Rattle.window.specs.declared.AdaptiveReceiverPacketWindow.{AdaptiveReceiverPacketWindow}
use Rattle.window.specs.declared.answers.Answer.TheVariants.{Done}
use Rattle.window.specs.declared.answers.Outcome.{Outcome}
use Rattle.window.specs.declared.answers.Step.{Step}
use Rattle.window.specs.Memory.{Memory}
use Rattle.model.specs.Calls.{Call, insert, exchange, remove, set_base, take_front, done, refused}
use Rattle.model.specs.Table as table
use Rattle.model.specs.Table.{Table, finds, value_if, sequence_at_of, argument_refusal}
use Rattle.model.specs.Window.{Window, decode, size_of, live_at, point_for}
use Rattle.model.specs.Steps.{set_base_of, set_point, header_from, with_header, is_new, live_here, remove_step, front_step, known_by, repoint, window_acts, window_does}
use Rattle.model.specs.Sound.{SoundWithPoint}
use Rattle.model.specs.Contract.{State, window_of, Left}
use Rattle.model.proofs.RefusalLaws.{remove-taken, base-taken}
use Rattle.laws_soundness.proofs.ProperLaws.{proper-decode}
use Rattle.laws_acknowledge.specs.Increments.{after_insert_of, after_remove_of, after_set_base}
use Rattle.laws_acknowledge.proofs.WindowLaws.{insert-works, exchange-works, remove-works, base-works, front-works}
use Rattle.call_base.specs.Answers.{answer_of, number_of, state_of, replied, left_of}
use Rattle.call_base.specs.Promises.{Admitted, Acts}
use Rattle.call_base.proofs.MeetsLaws.{current}
use Rattle.acknowledge.specs.Promises as acknowledge
use Rattle.acknowledge.specs.Promises.{with_sizes_of, MovesBase}
use Rattle.acknowledge.proofs.ActLaws.{proper, left-window, left-sound, same-sizes, works-acts, still-acts}
use Rattle.call_point.specs.Promises.{is_found, KeepsInserted, KeepsTaken, MovesFront}

-- ---- exchange

pub exchange-acts : (s v : ℕ) (u : State) (l : List ℕ) (r : Left) → Admitted (exchange s v) u l r → argument_refusal (known_by (window_of u).header) (exchange s v) ≡ 0
    → Acts (exchange s v) u l r
exchange-acts s v u l r a z =
    still-acts (exchange s v) u l r a z (λ ok. exchange-works (window_of u) (proper (exchange s v) u l r a z ok) ok s v z)

-- ---- insert: x is its step with the point as it was, in a state with the header w

module _ (s v : ℕ) (listed : Bool) (w : AdaptiveReceiverPacketWindow) (m : Memory) (l : List ℕ) (x : Step) (m' : Memory) (l' : List ℕ) where
  abbrev c : Call
  c = insert s v listed

  abbrev u : State
  u = state_of w m

  abbrev left : Left
  left = left_of x m' l'

  module _ (a : Admitted c u l left) (z : argument_refusal (known_by (window_of u).header) c ≡ 0) (r : Step)
      (k : KeepsInserted w m'.sequences m'.pages m'.blocks s x r) where
    -- on a sound state the answer is the definition's
    is-answer : SoundWithPoint (window_of u) → answer_of x.answer.answer ≡ (window_does (window_of u) c).answer
    is-answer ok = (a.sound ok.sound).answer

    abbrev worked : ℕ → Table → (base point : ℕ) → ℕ
    worked n t base point = after_insert_of n t base point s (is_new (window_does (window_of u) c).answer)

    is-point : SoundWithPoint (window_of u) → r.window ≡ set_point x.window (worked x.window.window_size (live_at (window_of left.state)) x.window.base x.window.point)
    is-point ok = bool (is_new (answer_of x.answer.answer))
        (λ e.
        let i = k.new e in
        let same = same-sizes c u l left a z ok in
        let j = subst (λ (h : AdaptiveReceiverPacketWindow). acknowledge.Inserts h m'.sequences m'.pages m'.blocks x.window s r.window) same i in
        j.header ∙ ap (set_point x.window) (j.point m'.values (left-sound c u l left a z ok)
        ∙ ap (after_insert_of x.window.window_size (live_at (window_of left.state)) x.window.base x.window.point s) (sym e ∙ ap is_new (is-answer ok))))
        (λ e. k.old e ∙ ap (λ (b : Bool). set_point x.window (after_insert_of x.window.window_size (live_at (window_of left.state)) x.window.base x.window.point s b))
        (sym e ∙ ap is_new (is-answer ok)))

    pub insert-acts : Acts c u l (left_of r m' l')
    insert-acts = subst (λ (o : Outcome). Acts c u l (left_of (record { window = r.window; answer = o }) m' l')) (sym k.outcome)
        (works-acts c u l left r.window worked a z (λ ok. insert-works (window_of u) (proper c u l left a z ok) ok s v listed z) is-point
        (λ ok e. k.old (ap is_new e)))

-- ---- remove

found-value : (s : ℕ) (o : Option table.Pair) → is_found (value_if s o) ≡ finds s o
found-value s none = refl
found-value s (some e) = bool (eqb e.sequence s) (λ i. rw i) (λ i. rw i)

-- of a remove of s that found window w
remove-answer : (w : Window) (s : ℕ) → is_found (window_does w (remove s)).answer ≡ finds s (live_here w s)
unfolding window_does remove_step
remove-answer w s = found-value s (live_here w s)

module _ (s : ℕ) (u : State) (x : Step) (m' : Memory) where
  abbrev taken : Left
  taken = left_of x m' []

  module _ (a : Admitted (remove s) u [] taken) (z : argument_refusal (known_by (window_of u).header) (remove s) ≡ 0) where
    -- on a sound state it says whether s was live
    pub is_found_lem : SoundWithPoint (window_of u) → is_found (answer_of x.answer.answer) ≡ finds s (live_here (window_of u) s)
    is_found_lem ok = ap is_found (a.sound ok.sound).answer ∙ remove-answer (window_of u) s

    pub remove-acts : (r : Step) → KeepsTaken s x r → Acts (remove s) u [] (left_of r m' [])
    remove-acts r k = subst (λ (o : Outcome). Acts (remove s) u [] (left_of (record { window = r.window; answer = o }) m' [])) (sym k.outcome)
        (works-acts (remove s) u [] taken r.window (λ n t base point. after_remove_of base point s (finds s (live_here (window_of u) s))) a z
        (λ ok. remove-works (window_of u) (proper (remove s) u [] taken a z ok) ok s z)
        (λ ok. k.window ∙ ap (λ (b : Bool). set_point x.window (after_remove_of x.window.base x.window.point s b)) (is_found_lem ok))
        (λ ok e. k.window ∙ ap (λ (b : Bool). set_point x.window (after_remove_of x.window.base x.window.point s b)) (ap is_found e)))

-- ---- take_front: x is the step of a remove of the base

-- a base that is absent: the remove leaves the window
absent-stays : (w : Window) (s : ℕ) → finds s (live_here w s) ≡ false → (window_does w (remove s)).after ≡ w
unfolding window_does remove_step
absent-stays w s e = rw e

-- what taking the front does, by the remove of the base
front-found : (w : Window) → let s = w.header.base in finds s (live_here w s) ≡ true
    → let v = (window_does w (remove s)).after in (window_acts w take_front).after ≡ repoint (with_header v (set_base_of v.header (sequence_at_of s 1)))
unfolding window_does front_step
front-found w e = rw e

front-absent : (w : Window) → let s = w.header.base in finds s (live_here w s) ≡ false → (window_acts w take_front).after ≡ repoint w
unfolding window_does front_step
front-absent w e = rw e

front-answer : (w : Window) → (window_acts w take_front).answer ≡ (window_does w (remove w.header.base)).answer
unfolding window_does front_step
front-answer w = refl

front-returned : (w : Window) → (window_acts w take_front).returned ≡ (window_does w (remove w.header.base)).returned
unfolding window_does front_step
front-returned w = refl

-- a header with another base and the right point for it
moved : (h : AdaptiveReceiverPacketWindow) (m : Memory) (base point : ℕ) → point ≡ point_for (with_header (decode h m) (set_base_of (decode h m).header base))
    → decode (set_base_of (set_point h point) base) m ≡ repoint (with_header (decode h m) (set_base_of (decode h m).header base))
unfolding decode
moved h m base point e = ap (λ (p : ℕ). with_header (decode h m) (header_from h base p)) e

module _ (w : AdaptiveReceiverPacketWindow) (m : Memory) (x : Step) (m' : Memory) (r : Step) where
  abbrev found : State
  found = state_of w m

  abbrev base : ℕ
  base = w.base

  abbrev gone : Left
  gone = left_of x m' []

  module _ (a : Admitted (remove base) found [] gone) (k : MovesFront w m'.sequences m'.pages m'.blocks x r) where
    front-moved : SoundWithPoint (window_of found) → window_of (state_of r.window m') ≡ (window_acts (window_of found) take_front).after
    unfolding decode
    front-moved ok =
        let z = remove-taken (known_by (window_of found).header) base ok.base in
        let next = sequence_at_of base 1 in
        let v = window_of gone.state in
        let is = left-window (remove base) found [] gone a z ok in
        let says = is_found_lem base found x m' a z ok in
        bool (finds base (live_here (window_of found) base))
        (λ e.
        let j = subst (λ (h : AdaptiveReceiverPacketWindow). MovesBase h m'.sequences m'.pages m'.blocks x.window next r.window)
        (same-sizes (remove base) found [] gone a z ok) (k.found (says ∙ e)) in
        let works = subst (λ (y : Window). point_for (with_header y (set_base_of y.header next)) ≡ after_set_base (size_of y) (live_at y) y.header.base y.header.point next)
        (sym is) (front-works (window_of found) (proper (remove base) found [] gone a z ok) ok z) in
        ap (λ (h : AdaptiveReceiverPacketWindow). decode h m') j.header
        ∙ moved x.window m' next r.window.point (j.point m'.values (left-sound (remove base) found [] gone a z ok) ∙ sym works)
        ∙ ap (λ (y : Window). repoint (with_header y (set_base_of y.header next))) is
        ∙ sym (front-found (window_of found) e))
        (λ e.
        ap (λ (h : AdaptiveReceiverPacketWindow). decode h m') (k.absent (says ∙ e)) ∙ is ∙ absent-stays (window_of found) base e
        ∙ sym (current (window_of found) ok) ∙ sym (front-absent (window_of found) e))

    pub front-acts : Acts take_front found [] (left_of r m' [])
    unfolding decode
    front-acts = subst (λ (o : Outcome). Acts take_front found [] (left_of (record { window = r.window; answer = o }) m' [])) (sym k.outcome) (record {
      sound = λ ok. let d = a.sound ok.sound in record {
        answer = d.answer ∙ sym (front-answer (window_of found));
        window = front-moved ok;
        returned = d.returned ∙ sym (front-returned (window_of found));
        count = d.count ∙ ap (λ (l : List ℕ). length l) (sym (front-returned (window_of found)));
      };
      occupied = λ ok e. let t = a.occupied ok.sound e in record {
        state = ap (λ (h : AdaptiveReceiverPacketWindow). state_of h m') (k.absent (ap is_found e)) ∙ t.state;
        list = t.list;
        count = t.count;
      };
      none_with_4 = a.none_with_4;
      past_list = a.past_list;
      long_list = a.long_list;
      count_fits = a.count_fits;
      past_memory = a.past_memory;
      lengths = a.lengths;
    })

-- ---- set_base

pub base-acts : (s : ℕ) (w : AdaptiveReceiverPacketWindow) (m : Memory) (h : AdaptiveReceiverPacketWindow)
    → argument_refusal (known_by (window_of (state_of w m)).header) (set_base s) ≡ 0 → MovesBase w m.sequences m.pages m.blocks w s h
    → Acts (set_base s) (state_of w m) [] (left_of (replied h (Ok Done)) m [])
unfolding decode window_does
base-acts s w m h z k =
    let v = decode w m in
    record {
      sound = λ ok. record {
        answer = refl;
        window =
            let p = k.point m.values ok.sound ∙ sym (base-works v (proper-decode w m ok.sound) ok s (base-taken (known_by v.header) s z)) in
            ap (λ (g : AdaptiveReceiverPacketWindow). decode g m) k.header ∙ moved w m s h.point p;
        returned = refl;
        count = refl;
      };
      occupied = λ ok e. absurd (no-refusal e);
      none_with_4 = λ e. refl;
      past_list = refl;
      long_list = refl;
      count_fits = omega arith;
      past_memory = record { sequences = refl; values = refl; pages = refl; blocks = refl };
      lengths = record { sequences = refl; values = refl; pages = refl; blocks = refl };
    }
  where
    no-refusal : done ≡ refused 4 → ⊥
    no-refusal e = let z : number_of done ≡ 4 = ap number_of e in omega arith
