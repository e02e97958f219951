-- The version of the library. Definitions only. Assumes nothing.
use Rattle.std.specs.Prelude.{ℕ}

-- 0.6.0, as 10000 × major + 100 × minor + patch
abbrev pub version : ℕ
version = 600
