-- The parts of a plate, and what the loop over its rows holds.
use Prim.Native.Nat.{ℕ, zero, suc, ◌+◌, ◌*◌, ◌<◌, ◌≤◌, min}
use mathlib.Core.Path.{◌≡◌, refl, sym, ap, subst, ◌∙◌}
use mathlib.Core.Logic.{inr}
use mathlib.Core.Bool.{Bool, true, false}
use mathlib.Core.List.{List, ◌++◌}
use native.Mathlib.Omega.{arith}
use native.Mathlib.Numerals.{add-one}
use lib.Dec.{ltb}
use lib.ListN.{length, take, drop, length-append, length-drop}
use lib.Seq.{take_all, take-append-le, drop-append-le, drop-append-add, drop_at}
use borrow.Author.Tests.{ltb-true, ltb-false}
use Rattle.registers.specs.declared.PPURegisters.{PPURegisters}
use Rattle.registers.specs.Replaced.{with_counter}
use Rattle.registers.specs.Scene.{Scene, scene}
use Rattle.row_renderer.specs.Renderer.{scene_row}
use Rattle.row_renderer.specs.theorems.Renderer.{length_row}
use Rattle.frame_library.specs.Frame.{counter_after, counter_at, frame_row, plate_header, rows_of, plate_of, Part, Reached}
use Rattle.frame_library.specs.steps.Frame.{Taken}

module _ (s : Scene) where
  pub length_frame_row : (y : ℕ) → length (frame_row s y) ≡ 768
  unfolding frame_row
  length_frame_row y = length_row (scene (with_counter (counter_at s.regs y) s.regs) s.vram s.cgram s.oam) y

  length_rows : (n : ℕ) → length (rows_of s n) ≡ n * 768
  unfolding rows_of
  length_rows zero = refl
  length_rows (suc n) =
      length-append (rows_of s n) (frame_row s n) ∙ ((λ i. length_rows n i + length_frame_row n i) ∙ omega arith)

  -- a row among the rows
  row_in : (n y : ℕ) → y < n → take 768 (drop (y * 768) (rows_of s n)) ≡ frame_row s y
  unfolding rows_of
  row_in zero y h = absurd (omega arith)
  row_in (suc n) y h = by_side (ltb y n) refl (λ b. row_in n y b)
    where
      by_side : (t : Bool) → ltb y n ≡ t → (y < n → take 768 (drop (y * 768) (rows_of s n)) ≡ frame_row s y) →
          take 768 (drop (y * 768) (rows_of s n ++ frame_row s n)) ≡ frame_row s y
      by_side true e before =
          let b = ltb-true y n e in
          let long = length_rows n in
          let far : y * 768 + 768 ≤ length (rows_of s n) = omega arith in
          ap (take 768) (drop-append-le (y * 768) (rows_of s n) (frame_row s n) (omega arith))
          ∙ (take-append-le 768 (drop (y * 768) (rows_of s n)) (frame_row s n) (omega (arith, length-drop (y * 768) (rows_of s n)))
          ∙ before b)
      by_side false e before =
          let b = ltb-false y n e in
          let same : y ≡ n = omega arith in
          ap (λ (k : ℕ). take 768 (drop (k * 768) (rows_of s n ++ frame_row s n))) same
          ∙ (ap (take 768) (drop_at (rows_of s n) (frame_row s n) (n * 768) (length_rows n))
          ∙ (take_all 768 (frame_row s n) (omega (arith, length_frame_row n)) ∙ ap (frame_row s) (sym same)))

  -- the header is the plate's first part
  pub header_part : {bytes : List ℕ} → bytes ≡ plate_header → Part s 0 bytes
  unfolding plate_of
  header_part {bytes} e = record {
    is = e ∙ ap (λ (b : List ℕ). take (length b) (plate_header ++ rows_of s 224)) (sym e);
    within = omega (arith, ap length e);
  }

  -- and row y the part from byte 15 + 768 y on
  pub row_part_lem : (y at : ℕ) {bytes : List ℕ} → y < 224 → at ≡ 15 + y * 768 → bytes ≡ frame_row s y → Part s at bytes
  unfolding plate_of
  row_part_lem y at {bytes} h a e =
      let long : length bytes ≡ 768 = ap length e ∙ length_frame_row y in
      record {
        is =
            e
            ∙ sym
            ((λ i. take (long i) (drop (a i) (plate_header ++ rows_of s 224)))
            ∙ (ap (take 768) (drop-append-add plate_header (rows_of s 224) (y * 768)) ∙ row_in 224 y h));
        within = omega arith;
      }

  -- a row that is drawn with its counter is the frame's, and the next row has the counter after it
  pub row_drawn : (y : ℕ) {row : List ℕ} {counter after : ℕ} {r : PPURegisters} → r ≡ with_counter counter s.regs →
      counter ≡ counter_at s.regs y → row ≡ scene_row (scene r s.vram s.cgram s.oam) y →
      after ≡ counter_after s.regs counter → (row ≡ frame_row s y) × (after ≡ counter_at s.regs (y + 1))
  unfolding counter_at frame_row
  row_drawn y e w d n = (
    d ∙ ap (λ (q : PPURegisters). scene_row (scene q s.vram s.cgram s.oam) y) (e ∙ ap (λ (k : ℕ). with_counter k s.regs) w),
    rw (add-one y) (n ∙ ap (counter_after s.regs) w),
  )

-- what a row holds that y rows of the frame were drawn into, one after another: the last of them
unfoldable pub drawn_into : Scene → List ℕ → ℕ → List ℕ
drawn_into s row zero = row
drawn_into s row (suc y) = frame_row s y

-- y rows were drawn and handed on, and the counter and the place have walked with them
pub record Walked (s : Scene) (row₀ row : List ℕ) (at counter y : ℕ) : Type 0 where
  pub long : length row ≡ 768
  pub within : y ≤ 224
  pub come : at ≡ 15 + y * 768
  pub walked : counter ≡ counter_at s.regs y
  pub is : row ≡ drawn_into s row₀ y

module _ (s : Scene) {row₀ : List ℕ} where
  pub walked_none : {at : ℕ} → length row₀ ≡ 768 → at ≡ 15 → Walked s row₀ row₀ at s.regs.mosaic_vcounter 0
  unfolding counter_at drawn_into
  walked_none l e = record { long = l; within = omega arith; come = e; walked = refl; is = refl }

  pub walked_more : {row next : List ℕ} {at counter to after y : ℕ} → Walked s row₀ row at counter y → y < 224 →
      next ≡ frame_row s y → after ≡ counter_at s.regs (y + 1) → to ≡ at + 768 → Walked s row₀ next to after (y + 1)
  unfolding drawn_into
  walked_more {y = y} w h d a e = record {
    long = ap length d ∙ length_frame_row s y;
    within = omega arith;
    come = e ∙ (ap (λ (n : ℕ). n + 768) w.come ∙ omega arith);
    walked = a;
    is = rw (add-one y) d;
  }

  -- a row was not taken
  pub walked_stopped : {row next : List ℕ} {at counter y : ℕ} → Walked s row₀ row at counter y → y < 224 → next ≡ frame_row s y →
      Reached s next at
  walked_stopped {y = y} w h d =
      let b : min y 223 ≡ y = omega arith in
      record { rows = y; within = omega arith; come = w.come; holds = d ∙ ap (frame_row s) (sym b) }

  -- all were
  pub walked_all : {row : List ℕ} {at counter y : ℕ} → Walked s row₀ row at counter y → 224 ≤ y → Reached s row at
  unfolding drawn_into
  walked_all {y = y} w h =
      let e : y ≡ 224 = omega arith in
      record { rows = 224; within = omega arith; come = w.come ∙ ap (λ (n : ℕ). 15 + n * 768) e; holds = w.is ∙ ap (drawn_into s row₀) e }

-- the rows were drawn by the scene's registers
pub taken_by : (s : Scene) {r : PPURegisters} {row : List ℕ} {n : ℕ} → r ≡ s.regs →
    Reached (scene r s.vram s.cgram s.oam) row n → Taken s n
taken_by s {r} {row} {n} e w = inr (row, subst (λ (q : PPURegisters). Reached (scene q s.vram s.cgram s.oam) row n) e w)
