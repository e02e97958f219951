-- A lent list in a contract, and the four lent lists as one memory. Definitions only. Assumes nothing.
use Rattle.std.specs.Prelude.{List, ℕ, length}
use Rattle.std.specs.Borrow.{Bor, MutBor}
use denote.Triple.Both.{Both}
use Rattle.window.specs.declared.AdaptiveReceiverPacketWindow.{AdaptiveReceiverPacketWindow}
use Rattle.window.specs.Memory.{Memory, memory}
use Rattle.window.specs.Refusals.{Fits}

-- a lent list, as a function finds it and as it leaves it; for one that is borrowed for reading these are one
abbrev pub Lent : Type 0
Lent = Both (List ℕ) (List ℕ)

-- a list lent by a `&`, and one lent by a `&mut`
abbrev pub lent : Both (Bor (List ℕ)) (Bor (List ℕ)) → Lent
lent x = record { entry = x.entry.now; exit = x.exit.now }

abbrev pub lent_mut : Both (MutBor (List ℕ)) (MutBor (List ℕ)) → Lent
lent_mut x = record { entry = x.entry.now; exit = x.exit.now }

-- the memory of these lists, as it is found and as it is left
abbrev pub found_in : (sequences values pages blocks : Lent) → Memory
found_in s v p b = memory s.entry v.entry p.entry b.entry

abbrev pub left_in : (sequences values pages blocks : Lent) → Memory
left_in s v p b = memory s.exit v.exit p.exit b.exit

-- refusal 6 does not apply to this header and these lists
abbrev pub ListsFit : AdaptiveReceiverPacketWindow → (sequences values pages blocks : List ℕ) → Type 0
ListsFit w s v p b = Fits w (length s) (length v) (length p) (length b)
