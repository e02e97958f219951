-- The arguments of a call, tested: over plain variables. Assumes nothing.
use Rattle.std.proofs.Common.{◌≡◌, ℕ, Bool, true, false, ◌&&◌, sym, ap, ◌∙◌}
use Rattle.window.specs.Refusals.{is_wire_number_of}
use Rattle.model.specs.Table.{Known, first, limit_refusal_of, are_wire_numbers_of, refused_for_of}
use Rattle.call_base.specs.declared.admits.Arguments.{Arguments}
use Rattle.call_base.specs.declared.admits.Arguments.TheVariants.{Sequence, Range}
use Rattle.call_base.specs.Admits.{arguments_of}

-- what the arguments a are refused with for a limit, tested on k
abbrev asked : Known → Arguments → ℕ
asked k a = limit_refusal_of k (arguments_of a)

-- ---- wire numbers

abbrev wire : Arguments → Bool
wire a = are_wire_numbers_of (arguments_of a)

pub sequence-wire : (a : Arguments) (s : ℕ) (r : Bool) → a ≡ Sequence s → r ≡ is_wire_number_of s → r ≡ are_wire_numbers_of (arguments_of a)
sequence-wire a s r e i = i ∙ ap wire (sym e)

-- of a range: r says whether first is one, q whether last is
module _ (a : Arguments) (x y : ℕ) (r : Bool) (e : a ≡ Range x y) (i : r ≡ is_wire_number_of x) where
  pub first-wide : r ≡ false → r ≡ are_wire_numbers_of (arguments_of a)
  first-wide f = f ∙ sym (ap (λ (t : Bool). t && is_wire_number_of y) (sym i ∙ f)) ∙ ap wire (sym e)

  pub last-wire : (q : Bool) → r ≡ true → q ≡ is_wire_number_of y → q ≡ are_wire_numbers_of (arguments_of a)
  last-wire q t j = j ∙ sym (ap (λ (b : Bool). b && is_wire_number_of y) (sym i ∙ t)) ∙ ap wire (sym e)

-- the tests in their order: b says whether the sequences are wire numbers
module _ (k : Known) (a : Arguments) (b : Bool) (i : b ≡ are_wire_numbers_of (arguments_of a)) where
  pub sequence-refused : b ≡ false → 10 ≡ refused_for_of k (arguments_of a)
  sequence-refused f = sym (ap (λ (t : Bool). first 10 t (asked k a)) (sym i ∙ f))

  pub wire-next : (n : ℕ) → b ≡ true → n ≡ limit_refusal_of k (arguments_of a) → n ≡ refused_for_of k (arguments_of a)
  wire-next n t e = e ∙ sym (ap (λ (x : Bool). first 10 x (asked k a)) (sym i ∙ t))
