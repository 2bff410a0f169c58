-- What a reader has lost stands in memory that is lent, also where a read failed.
use Rattle.std.specs.Prelude.{ℕ, ◌≤◌, List, Option, length, take}
use Rattle.std.specs.Io.KnownBytes.{Consumes}

-- some bytes at the start of `buf` are what the reader lost; how many is not told
pub record HeldAtStart (old new : Option (List ℕ)) (buf : List ℕ) : Type 0 where
  pub count : ℕ
  pub within : count ≤ length buf
  pub bytes : Consumes old new (take count buf)
