-- The plate of a scene: the rows of its frame, and the bytes that the frame program writes.
use Rattle.std.specs.Prelude.{ℕ, zero, suc, ◌+◌, ◌-◌, ◌*◌, ◌≤◌, min, ◌≡◌, cond, ◌⊎◌, List, [], ◌∷◌, ◌++◌, leb, length, take, drop}
use Rattle.registers.specs.declared.PPURegisters.{PPURegisters}
use Rattle.registers.specs.Replaced.{with_counter}
use Rattle.registers.specs.Scene.{Scene, scene}
use Rattle.registers_mosaic.specs.Mosaic.{mosaic_size}
use Rattle.row_renderer.specs.Renderer.{scene_row}

-- the counter after a row: 0 or 1 becomes the mosaic size, else it is one less
abbrev pub counter_after : PPURegisters → ℕ → ℕ
counter_after r n = cond (leb n 1) (mosaic_size r) (n - 1)

-- the counter of row y: row 0 uses the scene's
unfoldable pub counter_at : PPURegisters → ℕ → ℕ
counter_at r zero = r.mosaic_vcounter
counter_at r (suc y) = counter_after r (counter_at r y)

-- row y of the frame
unfoldable pub frame_row : Scene → ℕ → List ℕ
frame_row s y = scene_row (scene (with_counter (counter_at s.regs y) s.regs) s.vram s.cgram s.oam) y

-- "P6", newline, "256 224", newline, "255", newline
abbrev pub plate_header : List ℕ
plate_header = 80 ∷ 54 ∷ 10 ∷ 50 ∷ 53 ∷ 54 ∷ 32 ∷ 50 ∷ 50 ∷ 52 ∷ 10 ∷ 50 ∷ 53 ∷ 53 ∷ 10 ∷ []

-- the first n rows, one after another
unfoldable pub rows_of : Scene → ℕ → List ℕ
rows_of s zero = []
rows_of s (suc y) = rows_of s y ++ frame_row s y

-- the plate: the header, and the picture's bytes
unfoldable pub plate_of : Scene → List ℕ
plate_of s = plate_header ++ rows_of s 224

-- these bytes are the plate's from byte `at` on
pub record Part (s : Scene) (at : ℕ) (bytes : List ℕ) : Type 0 where
  pub is : bytes ≡ take (length bytes) (drop at (plate_of s))
  pub within : at + length bytes ≤ 172047

-- k bytes are handed on from byte `at` on, and the plate has come to n: behind them, or no further
abbrev pub Come : ℕ → ℕ → ℕ → Type 0
Come at k n = (n ≡ at + k) ⊎ (n ≡ at)

-- the plate has come to byte `at`: after its header and a number of rows; the lent row holds the next one, or the last
pub record Reached (s : Scene) (row : List ℕ) (at : ℕ) : Type 0 where
  pub rows : ℕ
  pub within : rows ≤ 224
  pub come : at ≡ 15 + rows * 768
  pub holds : row ≡ frame_row s (min rows 223)
