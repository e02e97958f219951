-- What a call that is not refused knows of its lists is what the functions of this crate ask. Assumes nothing.
use Rattle.std.proofs.Common.{◌≡◌, ℕ, List, length, sym, subst, arith}
use Rattle.window.specs.declared.AdaptiveReceiverPacketWindow.{AdaptiveReceiverPacketWindow}
use Rattle.window.specs.Memory.{Memory}
use Rattle.window.specs.Refusals.{Fits}
use Rattle.model.specs.Contract.{SameLengths}
use Rattle.acknowledge.specs.Promises.{with_sizes_of, ListsLent, PointFrom}

pub lists-lent : (h : AdaptiveReceiverPacketWindow) (ss vs pages blocks : List ℕ)
    → Fits h (length ss) (length vs) (length pages) (length blocks) → ListsLent h ss pages blocks
lists-lent h ss vs pages blocks f = record {
  within = f.within;
  sequences_long = f.long.sequences_long;
  pages_long = f.long.pages_long;
  blocks_long = f.long.blocks_long;
}

-- a header with the sizes of w asks for no more than w
pub sized-lent : (v w h : AdaptiveReceiverPacketWindow) (ss pages blocks : List ℕ) → h ≡ with_sizes_of v w → ListsLent w ss pages blocks → ListsLent h ss pages blocks
sized-lent v w h ss pages blocks e f = subst (λ (k : AdaptiveReceiverPacketWindow). ListsLent k ss pages blocks) (sym e) (record {
  within = f.within;
  sequences_long = f.sequences_long;
  pages_long = f.pages_long;
  blocks_long = f.blocks_long;
})

-- and its point is that of the header with those sizes
pub sized-point : (v w h : AdaptiveReceiverPacketWindow) (ss pages blocks : List ℕ) (base d r : ℕ) → h ≡ with_sizes_of v w → PointFrom h ss pages blocks base d r
    → PointFrom (with_sizes_of v w) ss pages blocks base d r
sized-point v w h ss pages blocks base d r e p = subst (λ (k : AdaptiveReceiverPacketWindow). PointFrom k ss pages blocks base d r) e p

-- after a call that left every list as long as it was
pub left-lent : (w : AdaptiveReceiverPacketWindow) (m m' : Memory) → Fits w (length m.sequences) (length m.values) (length m.pages) (length m.blocks)
    → SameLengths m m' → ListsLent w m'.sequences m'.pages m'.blocks
left-lent w m m' f same = record {
  within = f.within;
  sequences_long = omega (arith, f.long.sequences_long, same.sequences);
  pages_long = omega (arith, f.long.pages_long, same.pages);
  blocks_long = omega (arith, f.long.blocks_long, same.blocks);
}
