-- The definitions at the edges that document 01 names, by computation. Assumes nothing.
use mathlib.Core.Path.{◌≡◌, refl}
use Rattle.words.specs.First.{first_from_of}
use Rattle.window.specs.Memory.{capacity, block_count_of, position}
use Rattle.window.specs.Refusals.{limits}

-- capacity: at least 64, raised to a power of two; "at most 16 blocks"
capacities : (capacity 1 ≡ 64) × (capacity 64 ≡ 64) × (capacity 65 ≡ 128) × (capacity 4096 ≡ 4096) × (capacity 4097 ≡ 8192) × (capacity 65536 ≡ 65536)
unfolding capacity first_from_of
capacities = (refl, refl, refl, refl, refl, refl)

blocks : (block_count_of 64 ≡ 1) × (block_count_of 4096 ≡ 1) × (block_count_of 4097 ≡ 2) × (block_count_of 65536 ≡ 16)
unfolding capacity first_from_of
blocks = (refl, refl, refl, refl)

-- "window_size 65: 5 and 70 both enter, 133 after 5 is refused 4": 133 has the position of 5, 70 another
positions : (position 65 5 ≡ 5) × (position 65 70 ≡ 70) × (position 65 133 ≡ 5) × (position 64 2147483647 ≡ 63)
unfolding capacity first_from_of
positions = (refl, refl, refl, refl)

-- "window_size 0 refused 1; 65536 taken; 65537 refused 1"
sizes : (limits 0 8 2 ≡ 1) × (limits 1 8 2 ≡ 0) × (limits 65536 8 2 ≡ 0) × (limits 65537 8 2 ≡ 1)
unfolding limits
sizes = (refl, refl, refl, refl)

-- "N 63 taken, 64 refused 2"; "demote_at N taken, N+1 refused 3"
sparse : (limits 64 0 0 ≡ 2) × (limits 64 63 63 ≡ 0) × (limits 64 64 0 ≡ 2) × (limits 64 8 8 ≡ 0) × (limits 64 8 9 ≡ 3)
unfolding limits
sparse = (refl, refl, refl, refl, refl)

-- "in this order": where several apply
order : (limits 0 64 65 ≡ 1) × (limits 64 64 65 ≡ 2)
unfolding limits
order = (refl, refl)
