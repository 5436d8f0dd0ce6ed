-- Two bytes of a script as one number, which holds any eight bits that begin in the first of them.
--   Pair s i x      x is the byte i of s and the byte behind it; bytes past the end are 0
use Rattle.std.specs.Prelude.{◌≡◌, ℕ, ◌+◌, ◌*◌, ◌<◌, List, slice_index, slice_index_or}

pub record Pair (s : List ℕ) (i x : ℕ) : Type 0 where
  pub value : x ≡ slice_index s i * 256 + slice_index s (i + 1)
  pub second : slice_index_or s (i + 1) 0 < 256
  pub fits : x < 65536
