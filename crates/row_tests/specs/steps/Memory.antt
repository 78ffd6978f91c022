-- The memories that are handed on once their lengths are tested.
use Rattle.std.specs.Prelude.{ℕ, ◌≡◌, List}
use Rattle.row_tests.specs.declared.inner.Memory.{Memory}

-- they are those that were lent
pub record Lends (m : Memory) (vram cgram oam : List ℕ) : Type 0 where
  pub vram_is : m.vram.now ≡ vram
  pub cgram_is : m.cgram.now ≡ cgram
  pub oam_is : m.oam.now ≡ oam
