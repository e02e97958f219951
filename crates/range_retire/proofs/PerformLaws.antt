-- Steps that write the window and a return list: one that changes nothing, one by another name, one after another, and what they keep.
-- Assumes nothing.
use mathlib.Core.Path.{◌≡◌, refl, sym, ap, ◌∙◌, subst}
use mathlib.Core.Bool.{true, ◌&&◌}
use mathlib.Core.List.{List, [], ◌++◌}
use Prim.Native.Nat.{ℕ, ◌+◌, ◌≤◌}
use native.Mathlib.Omega.{arith}
use lib.ListN.{length}
use Rattle.window.specs.declared.AdaptiveReceiverPacketWindow.{AdaptiveReceiverPacketWindow}
use Rattle.window.specs.Memory.{Memory}
use Rattle.window.specs.Refusals.{Fits, Within, LongEnough}
use Rattle.model.specs.Window.{Window, decode}
use Rattle.model.specs.Steps.{Returned, returned_by}
use Rattle.model.specs.Contract.{SamePast, SameLengths}
use Rattle.page_remove.proofs.WroteLaws.{wrote_then, stretch-then}
use Rattle.laws_soundness.specs.Change.{Limits, limits_of}
use Rattle.laws_soundness.specs.Retire.{Retiring}
use Rattle.range_retire.specs.declared.Retired.{Retired}
use Rattle.range_retire.specs.Spans.{and_then}
use Rattle.range_retire.specs.Promises.{Performs}

-- the memory's lists are as long as the header names them
abbrev pub FitsMemory : AdaptiveReceiverPacketWindow → Memory → Type 0
FitsMemory h m = Fits h (length m.sequences) (length m.values) (length m.pages) (length m.blocks)

pub fits_kept : (h r : AdaptiveReceiverPacketWindow) (m m' : Memory) → limits_of r ≡ limits_of h → SameLengths m m' → FitsMemory h m → FitsMemory r m'
fits_kept h r m m' e s f = record {
  within = subst (λ (y : Limits). Within y.size y.cells y.demote_at) (sym e) f.within;
  long = subst (λ (y : Limits). LongEnough y.size (length m'.sequences) (length m'.values) (length m'.pages) (length m'.blocks)) (sym e)
      (rw (s.sequences, s.values, s.pages, s.blocks) f.long);
}

pub lengths-then : (m m₁ m₂ : Memory) → SameLengths m m₁ → SameLengths m₁ m₂ → SameLengths m m₂
lengths-then m m₁ m₂ s t = record {
  sequences = t.sequences ∙ s.sequences;
  values = t.values ∙ s.values;
  pages = t.pages ∙ s.pages;
  blocks = t.blocks ∙ s.blocks;
}

pub past-then : (size : ℕ) (m m₁ m₂ : Memory) → SamePast size m m₁ → SamePast size m₁ m₂ → SamePast size m m₂
past-then size m m₁ m₂ s t = record {
  sequences = t.sequences ∙ s.sequences;
  values = t.values ∙ s.values;
  pages = t.pages ∙ s.pages;
  blocks = t.blocks ∙ s.blocks;
}

module _ (most : ℕ) (h : AdaptiveReceiverPacketWindow) (m : Memory) (at : ℕ) (l : List ℕ) where
  -- nothing is done
  pub performs-still : (f : Window → Returned) → f (decode h m) ≡ returned_by (decode h m) [] → Performs f most h m at l (record { window = h; count = 0; sound = true }) m l
  performs-still f e = record {
    limits = refl;
    past = record { sequences = refl; values = refl; pages = refl; blocks = refl };
    lengths = record { sequences = refl; values = refl; pages = refl; blocks = refl };
    wrote = record { before = refl; past = refl; long = refl };
    few = omega arith;
    sound = λ ok. refl;
    gives = λ ok. sym (ap (λ (y : Returned). y.after) e);
    out = λ ok. sym (ap (λ (y : Returned). y.out) e);
  }

  -- another step that does the same here, and another bound
  pub performs-as : (a : ℕ) (f g : Window → Returned) (r : Retired) (m' : Memory) (l' : List ℕ) → a ≤ most → f (decode h m) ≡ g (decode h m) → Performs f a h m at l r m' l' → Performs g most h m at l r m' l'
  performs-as a f g r m' l' le e t = record {
    limits = t.limits;
    past = t.past;
    lengths = t.lengths;
    wrote = t.wrote;
    few = omega (arith, t.few);
    sound = t.sound;
    gives = λ ok. t.gives ok ∙ ap (λ (y : Returned). y.after) e;
    out = λ ok. t.out ok ∙ ap (λ (y : Returned). y.out) e;
  }

-- one step after another
module _ (f g : Window → Returned) (a b : ℕ) (h : AdaptiveReceiverPacketWindow) (m : Memory) (at : ℕ) (l : List ℕ) (r₁ : Retired) (m₁ : Memory) (l₁ : List ℕ) (r₂ : Retired) (m₂ : Memory) (l₂ : List ℕ)
    (keeps : Retiring (decode h m) → Retiring (f (decode h m)).after) (t : Performs f a h m at l r₁ m₁ l₁) (u : Performs g b r₁.window m₁ (at + r₁.count) l₁ r₂ m₂ l₂) where
  -- the window between them
  between : Retiring (decode h m) → Retiring (decode r₁.window m₁)
  between ok = rw (t.gives ok) (keeps ok)

  same_size : r₁.window.window_size ≡ h.window_size
  same_size = ap (λ (y : Limits). y.size) t.limits

  pub performs-then : Performs (and_then f g) (a + b) h m at l (record { window = r₂.window; count = r₁.count + r₂.count; sound = r₁.sound && r₂.sound }) m₂ l₂
  performs-then = record {
    limits = u.limits ∙ t.limits;
    past = past-then h.window_size m m₁ m₂ t.past (rw same_size at u.past);
    lengths = lengths-then m m₁ m₂ t.lengths u.lengths;
    wrote = wrote_then at r₁.count r₂.count l l₁ l₂ t.wrote u.wrote;
    few = omega (arith, t.few, u.few);
    sound = λ ok. rw (t.sound ok, u.sound (between ok));
    gives = λ ok. u.gives (between ok) ∙ ap (λ (y : Window). (g y).after) (t.gives ok);
    out = λ ok.
        stretch-then at r₁.count r₂.count l l₁ l₂ t.wrote u.wrote
        ∙ (λ i. t.out ok i ++ (u.out (between ok) ∙ ap (λ (y : Window). (g y).out) (t.gives ok)) i);
  }
