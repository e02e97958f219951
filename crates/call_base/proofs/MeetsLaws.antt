-- How a call is shown to meet the contract of every call: a refusal for its header, lists and arguments, as `admits` gives it, or else
-- what it does once it is admitted. Assumes nothing.
use Rattle.std.proofs.Common.{◌≡◌, ℕ, zero, suc, ◌+◌, ◌≤◌, Bool, true, false, ◌&&◌, leb, List, [], length, drop, sym, refl, ap, ◌∙◌, subst, true≢false, arith, leb-true}
use Rattle.window.specs.declared.AdaptiveReceiverPacketWindow.{AdaptiveReceiverPacketWindow}
use Rattle.window.specs.declared.answers.Answer.{Answer}
use Rattle.window.specs.declared.answers.Step.{Step}
use Rattle.window.specs.declared.refusals.Refusal.{Refusal}
use Rattle.std.specs.Prelude.{Result}
use Rattle.window.specs.Refusals.{refusal_number_of, fits_with_list_of, Fits}
use Rattle.window.proofs.RefusalLaws.{some-refusal, fits-is}
use Rattle.model.specs.Calls as model
use Rattle.model.specs.Calls.{Query, Call, ask, refused}
use Rattle.model.specs.Roles.{asked_of, role_of}
use Rattle.model.specs.Table.{first, refused_for_of, has_places, argument_refusal}
use Rattle.model.specs.Window.{Window, decode, point_for}
use Rattle.model.specs.Steps.{set_point, with_header, Effect, unless_refused, known_by, window_answer, window_does, repoint, window_acts, window_step}
use Rattle.model.specs.Sound.{SoundWithPoint}
use Rattle.model.specs.Contract.{State, window_of, Left, lengths_fit, refusal, Unaltered, DoesAs, Does, Meets, SamePast, SameLengths}
use Rattle.model.proofs.RefusalLaws.{tested, listed-taken}
use Rattle.page_base.proofs.DecodeLaws.{header_at}
use Rattle.page_remove.proofs.WroteLaws.{stretch-length}
use Rattle.call_base.specs.Answers.{answer_of, replied, refused_by, left_of}
use Rattle.call_base.specs.Admits.{admission}
use Rattle.call_base.specs.Promises.{Admitted, Acts, Tells, Fills}

-- ---- the contract

-- nothing altered, nothing returned
abbrev pub leaves : State → List ℕ → model.Answer → Left
leaves u l a = record { answer = a; count = 0; state = u; list = l }

unaltered : (u : State) (l : List ℕ) (a : model.Answer) → Unaltered u l (leaves u l a)
unaltered u l a = record { state = refl; list = refl; count = refl }

same-past : (u : State) → SamePast u.header.window_size u.memory u.memory
same-past u = record { sequences = refl; values = refl; pages = refl; blocks = refl }

same-lengths : (u : State) → SameLengths u.memory u.memory
same-lengths u = record { sequences = refl; values = refl; pages = refl; blocks = refl }

-- a refusal for arguments
pub refused-meets : (c : Call) (u : State) (l : List ℕ) (k : ℕ) → refusal u c ≡ k → (k ≡ 0 → ⊥) → Meets c u l (leaves u l (refused k))
refused-meets c u l k e n = record {
  refuses = λ h. (ap refused (sym e), unaltered u l (refused k));
  sound = λ z ok. absurd (n (sym e ∙ z));
  occupied = λ z ok a. absurd (n (sym e ∙ z));
  none_with_4 = λ a. refl;
  unsound = λ q z ok. absurd (n (sym e ∙ z));
  reads = λ q. unaltered u l (refused k);
  past_list = refl;
  long_list = refl;
  count_fits = omega arith;
  past_memory = same-past u;
  lengths = same-lengths u;
}

-- with no refusal for arguments the whole step is what the call does
unless-none : (k : ℕ) (w : Window) (e : Effect) → k ≡ 0 → unless_refused k w e ≡ e
unless-none zero w e z = refl
unless-none (suc k) w e z = absurd (omega arith)

-- the window is asked for no refusal either
none-asked : (c : Call) (u : State) → refusal u c ≡ 0 → argument_refusal (known_by (window_of u).header) c ≡ 0
none-asked c u z = rw (header_at u.header u.memory) (tested 6 (lengths_fit u) _ (λ k. omega arith) z).1

step-acts : (c : Call) (u : State) → refusal u c ≡ 0 → window_step (window_of u) c ≡ window_acts (window_of u) c
step-acts c u z = unless-none (argument_refusal (known_by (window_of u).header) c) (window_of u) (window_acts (window_of u) c) (none-asked c u z)

does-as : (c : Call) (u : State) (r : Left) → refusal u c ≡ 0 → DoesAs window_acts SoundWithPoint c (window_of u) r → Does c (window_of u) r
does-as c u r z d =
    let e = step-acts c u z in
    record {
      answer = d.answer ∙ ap (λ (x : Effect). x.answer) (sym e);
      window = d.window ∙ ap (λ (x : Effect). x.after) (sym e);
      returned = d.returned ∙ ap (λ (x : Effect). x.returned) (sym e);
      count = d.count ∙ ap (λ (x : Effect). length x.returned) (sym e);
    }

-- ---- the point

-- a point that is right stays as it is
pub current : (w : Window) → SoundWithPoint w → repoint w ≡ w
current w ok = ap (λ (p : ℕ). with_header w (set_point w.header p)) (sym ok.point)

-- what a call left, with another header
abbrev pub left_with : Left → AdaptiveReceiverPacketWindow → Left
left_with r h = record { answer = r.answer; count = r.count; state = record { header = h; memory = r.state.memory }; list = r.list }

-- the right point in the header is the right point of the window
repointed : (u : State) (h : AdaptiveReceiverPacketWindow) → h ≡ set_point u.header (point_for (window_of u)) → window_of (record { header = h; memory = u.memory }) ≡ repoint (window_of u)
unfolding decode
repointed u h e = ap (λ (k : AdaptiveReceiverPacketWindow). decode k u.memory) e

-- A call that did all but the point, and then left a header with the right one. With a refusal 4 that is the header as it was.
pub pointed-acts : (c : Call) (u : State) (l : List ℕ) (r : Left) (h : AdaptiveReceiverPacketWindow) → Admitted c u l r
    → (SoundWithPoint (window_of u) → h ≡ set_point r.state.header (point_for (window_of r.state)))
    → (SoundWithPoint (window_of u) → r.answer ≡ refused 4 → h ≡ r.state.header)
    → Acts c u l (left_with r h)
pointed-acts c u l r h a right stays = record {
  sound = λ ok. let d = a.sound ok.sound in record {
    answer = d.answer;
    window = repointed r.state h (right ok) ∙ ap repoint d.window;
    returned = d.returned;
    count = d.count;
  };
  occupied = λ ok e. let t = a.occupied ok.sound e in record {
    state = ap (λ (k : AdaptiveReceiverPacketWindow). record { header = k; memory = r.state.memory }) (stays ok e) ∙ t.state;
    list = t.list;
    count = t.count;
  };
  none_with_4 = a.none_with_4;
  past_list = a.past_list;
  long_list = a.long_list;
  count_fits = a.count_fits;
  past_memory = a.past_memory;
  lengths = a.lengths;
}

-- ---- calls that are admitted

-- a query that is not refused, and what it answers
pub read_meets : (q : Query) (u : State) (a : model.Answer) → ((asked_of q).checks ≡ true → (SoundWithPoint (window_of u) → ⊥) → a ≡ refused 7) → refusal u (ask q) ≡ 0
    → (SoundWithPoint (window_of u) → a ≡ window_answer (window_of u) q) → Meets (ask q) u [] (leaves u [] a)
unfolding window_does
read_meets q u a unsound e is = record {
  refuses = λ h. absurd (h e);
  sound = λ z ok. does-as (ask q) u (leaves u [] a) e (record { answer = is ok; window = sym (current (window_of u) ok); returned = refl; count = refl });
  occupied = λ z ok b. unaltered u [] a;
  none_with_4 = λ b. refl;
  unsound = λ k z not_sound. unsound k not_sound;
  reads = λ k. unaltered u [] a;
  past_list = refl;
  long_list = refl;
  count_fits = omega arith;
  past_memory = same-past u;
  lengths = same-lengths u;
}

write_meets : (c : Call) (u : State) (l : List ℕ) (r : Left) → (role_of c).checks ≡ false → refusal u c ≡ 0 → Acts c u l r → Meets c u l r
write_meets c u l r n e t = record {
  refuses = λ h. absurd (h e);
  sound = λ z ok. does-as c u r e (t.sound ok);
  occupied = λ z ok a. t.occupied ok a;
  none_with_4 = t.none_with_4;
  unsound = λ q z ok. absurd (true≢false (sym q ∙ n));
  reads = λ q. absurd (true≢false (sym q ∙ n));
  past_list = t.past_list;
  long_list = t.long_list;
  count_fits = t.count_fits;
  past_memory = t.past_memory;
  lengths = t.lengths;
}

-- ---- calls that fill a return list

pub fills-admitted : (step : Window → Effect) (c : Call) (u : State) (l : List ℕ) (r : Left) → 384 ≤ length l → step (window_of u) ≡ window_does (window_of u) c → Fills step u l r → Admitted c u l r
fills-admitted step c u l r long is t =
    let full = stretch-length 0 r.count r.list (omega (arith, t.few, long, t.wrote.long)) in
    record {
      sound = λ ok. record {
        answer = ap (λ (x : Effect). x.answer) (t.gives ok ∙ is);
        window = ap (λ (x : Effect). x.after) (t.gives ok ∙ is);
        returned = ap (λ (x : Effect). x.returned) (t.gives ok ∙ is);
        count = sym full ∙ ap (λ (x : Effect). length x.returned) (t.gives ok ∙ is);
      };
      occupied = λ ok q. absurd (t.taken q);
      none_with_4 = λ q. absurd (t.taken q);
      past_list =
          let z : 0 + r.count ≡ r.count = omega arith in
          ap (λ (x : ℕ). drop x r.list) (sym z) ∙ t.wrote.past ∙ ap (λ (x : ℕ). drop x l) z;
      long_list = t.wrote.long;
      count_fits = omega (arith, t.few, long);
      past_memory = t.past;
      lengths = t.lengths;
    }

-- ---- what `admits` says

both-6 : (a b : Bool) (rest : ℕ) → first 6 (a && b) rest ≡ first 6 b (first 6 a rest)
both-6 true true rest = refl
both-6 true false rest = refl
both-6 false true rest = refl
both-6 false false rest = refl

-- what `admits` tests of call c in state u, with `places` in its return list, is its refusal
module _ (c : Call) (u : State) (places : ℕ) (listed : has_places (role_of c).listed ≡ leb 384 places) where
  tested-refusal : admission u.header (length u.memory.sequences) (length u.memory.values) (length u.memory.pages) (length u.memory.blocks) places (role_of c).arguments ≡ refusal u c
  unfolding fits_with_list_of
  tested-refusal =
      both-6 (leb 384 places) (lengths_fit u) (refused_for_of (known_by u.header) (role_of c).arguments)
      ∙ ap (λ (b : Bool). first 6 (lengths_fit u) (first 6 b (refused_for_of (known_by u.header) (role_of c).arguments))) (sym listed)

  -- it refuses
  pub refusal-meets : (l : List ℕ) (why : Refusal) (r : Step)
      → refusal_number_of why ≡ admission u.header (length u.memory.sequences) (length u.memory.values) (length u.memory.pages) (length u.memory.blocks) places (role_of c).arguments
      → r ≡ refused_by u.header why → Meets c u l (left_of r u.memory l)
  refusal-meets l why r e q =
      subst (λ (x : Step). Meets c u l (left_of x u.memory l)) (sym q)
      (refused-meets c u l (refusal_number_of why) (sym (e ∙ tested-refusal)) (some-refusal why))

  -- it passes
  module _ (pass : 0 ≡ admission u.header (length u.memory.sequences) (length u.memory.values) (length u.memory.pages) (length u.memory.blocks) places (role_of c).arguments) where
    pub none-applies : refusal u c ≡ 0
    none-applies = sym (pass ∙ tested-refusal)

    -- header and lists fit, the return list has 384 places, and the arguments are taken
    pub admitted-fits : Fits u.header (length u.memory.sequences) (length u.memory.values) (length u.memory.pages) (length u.memory.blocks)
    admitted-fits = fits-is _ _ _ _ _ (tested 6 (lengths_fit u) _ (λ k. omega arith) none-applies).0

    arguments-taken : (has_places (role_of c).listed ≡ true) × (refused_for_of (known_by u.header) (role_of c).arguments ≡ 0)
    arguments-taken = listed-taken (known_by u.header) c (tested 6 (lengths_fit u) _ (λ k. omega arith) none-applies).1

    pub admitted-places : 384 ≤ places
    admitted-places = leb-true 384 places (sym listed ∙ arguments-taken.0)

    pub admitted-arguments : refused_for_of (known_by u.header) (role_of c).arguments ≡ 0
    admitted-arguments = arguments-taken.1

    -- the window is asked for no refusal
    pub window-asked : argument_refusal (known_by (window_of u).header) c ≡ 0
    window-asked = none-asked c u none-applies

    pub admitted-meets : (l : List ℕ) (r : Left) → (role_of c).checks ≡ false → Acts c u l r → Meets c u l r
    admitted-meets l r other a = write_meets c u l r other none-applies a

    -- a call that fills its return list: x is what it left before the point
    pub filled-meets : (l : List ℕ) (x r : Left) → (role_of c).checks ≡ false → places ≡ length l
        → (step : Window → Effect) → step (window_of u) ≡ window_does (window_of u) c → Fills step u l x
        → (Admitted c u l x → argument_refusal (known_by (window_of u).header) c ≡ 0 → Acts c u l r) → Meets c u l r
    filled-meets l x r other long step is t acts = admitted-meets l r other (acts (fills-admitted step c u l x (omega (arith, admitted-places)) is t) window-asked)

-- ---- queries

module _ (q : Query) (u : State) where
  pub asked-refusal : (why : Refusal) (r : Step)
      → refusal_number_of why ≡ admission u.header (length u.memory.sequences) (length u.memory.values) (length u.memory.pages) (length u.memory.blocks) 384 (asked_of q).arguments
      → r ≡ refused_by u.header why → Meets (ask q) u [] (left_of r u.memory [])
  asked-refusal = refusal-meets (ask q) u 384 refl []

  module _ (pass : 0 ≡ admission u.header (length u.memory.sequences) (length u.memory.values) (length u.memory.pages) (length u.memory.blocks) 384 (asked_of q).arguments) where
    pub asked-fits : Fits u.header (length u.memory.sequences) (length u.memory.values) (length u.memory.pages) (length u.memory.blocks)
    asked-fits = admitted-fits (ask q) u 384 refl pass

    pub asked-arguments : refused_for_of (known_by u.header) (asked_of q).arguments ≡ 0
    asked-arguments = admitted-arguments (ask q) u 384 refl pass

    pub checked-meets : (a : Result Answer Refusal) (r : Step) → r ≡ replied u.header a → ((asked_of q).checks ≡ true → (SoundWithPoint (window_of u) → ⊥) → answer_of a ≡ refused 7)
        → (SoundWithPoint (window_of u) → answer_of a ≡ window_answer (window_of u) q) → Meets (ask q) u [] (left_of r u.memory [])
    checked-meets a r e unsound tells =
        subst (λ (x : Step). Meets (ask q) u [] (left_of x u.memory [])) (sym e)
        (read_meets q u (answer_of a) unsound (none-applies (ask q) u 384 refl pass) tells)

    -- one that does not look at the point
    pub asked-meets : (a : Result Answer Refusal) (r : Step) → r ≡ replied u.header a → (asked_of q).checks ≡ false → Tells q u a → Meets (ask q) u [] (left_of r u.memory [])
    asked-meets a r e other tells = checked-meets a r e (λ k. absurd (true≢false (sym k ∙ other))) (λ ok. tells ok.sound)
