-- What the lent bytes hold after the reading.
use Rattle.std.specs.Prelude.{ℕ, ◌≡◌, List, length}
use Rattle.salvage_bytes.specs.Bytes.{resized}

-- the bytes are those of a file of n bytes, cut or filled
pub record Held (n : ℕ) (bytes : List ℕ) : Type 0 where
  pub file : List ℕ
  pub long : length file ≡ n
  pub is : bytes ≡ resized file
