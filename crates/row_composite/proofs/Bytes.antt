-- A row's bytes, three to a pixel.
use Prim.Native.Nat.{ℕ, ◌/◌, ◌%◌}
use mathlib.Core.Path.{◌≡◌}
use Rattle.colour.specs.Colour.{at_brightness}
use Rattle.row_composite.specs.Composite.{channel_at, row_byte_at}

-- byte i, by its pixel and its channel
pub byte_is : (colours : ℕ → ℕ) (b x k i : ℕ) → x ≡ i / 3 → k ≡ i % 3 →
    channel_at k (at_brightness (colours x) b) ≡ row_byte_at colours b i
unfolding row_byte_at
byte_is colours b x k i e f = λ j. channel_at (f j) (at_brightness (colours (e j)) b)
