-- A frame under forced blank.
use Rattle.std.specs.Prelude.{ℕ, zero, suc, ◌+◌, ◌*◌, ◌≡◌, cond, List, ◌++◌}
use Rattle.std.proofs.Common.{sym, ap, ◌∙◌, arith}
use Rattle.base_lists.specs.Tab.{tab}
use Rattle.base_lists.specs.theorems.Tab.{tab_none, tab_split}
use Rattle.registers.specs.Bits.{bit_of}
use Rattle.registers.specs.Screen.{brightness_of}
use Rattle.registers.specs.Replaced.{with_counter}
use Rattle.registers.specs.Scene.{Scene, scene}
use Rattle.row_composite.specs.Composite.{colour_at, row_byte_at, black_row, row_bytes}
use Rattle.row_renderer.specs.Renderer.{scene_lines, scene_row}
use Rattle.frame_library.specs.Frame.{counter_at, frame_row, plate_header, rows_of, plate_of}

-- with inidisp 128 every row is black
pub blank_frame : (s : Scene) (y : ℕ) → s.regs.inidisp ≡ 128 → frame_row s y ≡ black_row
unfolding frame_row scene_row row_bytes
blank_frame s y e =
    let r = with_counter (counter_at s.regs y) s.regs in
    let at = scene r s.vram s.cgram s.oam in
    λ i. cond (bit_of (e i) 7) black_row (tab 768 (row_byte_at (colour_at r (scene_lines at y)) (brightness_of r)))

-- n such rows are n times 768 zeros
blank_rows : (s : Scene) → s.regs.inidisp ≡ 128 → (n : ℕ) → rows_of s n ≡ tab (n * 768) (λ i. 0)
unfolding rows_of black_row
blank_rows s e zero = sym (tab_none (λ (i : ℕ). 0))
blank_rows s e (suc n) =
    let more : n * 768 + 768 ≡ suc n * 768 = omega arith in
    (λ i. blank_rows s e n i ++ blank_frame s n e i)
    ∙ (sym (tab_split (λ (i : ℕ). 0) (n * 768) 768) ∙ ap (λ (k : ℕ). tab k (λ (i : ℕ). 0)) more)

-- and the plate is the header and 172,032 zeros
pub blank_plate : (s : Scene) → s.regs.inidisp ≡ 128 → plate_of s ≡ plate_header ++ tab 172032 (λ i. 0)
unfolding plate_of
blank_plate s e = ap (λ (l : List ℕ). plate_header ++ l) (blank_rows s e 224)
