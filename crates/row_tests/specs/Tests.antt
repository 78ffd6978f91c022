-- The tests of the calls that have to do with a row. A call tests in the order of the numbers, so of the refusals that apply
-- it answers the lowest.
use Rattle.std.specs.Prelude.{ℕ, Bool, length, ltb, leb, eqb}
use Rattle.base_refusal.specs.Answer.{Answer, value, provided, ◌and_then◌}
use Rattle.registers.specs.Scene.{Scene}

-- a test: where it does not hold, the call is refused with its number
abbrev pub test : Bool → ℕ → Answer Unit
test holds n = provided holds n (value tt)

-- a row above 223 is refused 1
abbrev pub row_number_test : ℕ → Answer Unit
row_number_test y = test (ltb y 224) 1

-- VRAM of another length is refused 2
abbrev pub vram_test : ℕ → Answer Unit
vram_test words = test (eqb words 32768) 2

-- colour memory of another length is refused 3
abbrev pub colour_test : ℕ → Answer Unit
colour_test words = test (eqb words 256) 3

-- sprite memory of another length is refused 4
abbrev pub oam_test : ℕ → Answer Unit
oam_test bytes = test (eqb bytes 544) 4

-- a lent row or picture of another length is refused 5
abbrev pub lent_test : Bool → Answer Unit
lent_test lent = test lent 5

-- a mosaic counter above 16 is refused 6
abbrev pub counter_test : ℕ → Answer Unit
counter_test counter = test (leb counter 16) 6

-- another argument out of its range is refused 7
abbrev pub range_test : Bool → Answer Unit
range_test in_range = test in_range 7

-- the first tests: the row, and the memories that every layer is drawn from
abbrev pub base_tests : ℕ → ℕ → ℕ → Answer Unit
base_tests y words colours = row_number_test y and_then vram_test words and_then colour_test colours

-- the same, and the memory that the sprites are drawn from
abbrev pub row_tests : ℕ → ℕ → ℕ → ℕ → Answer Unit
row_tests y words colours bytes = base_tests y words colours and_then oam_test bytes

-- the last tests: of a call that lays a row or answers for a column
abbrev pub last_tests : ℕ → Bool → Answer Unit
last_tests counter in_range = counter_test counter and_then range_test in_range

-- of a call that writes into what it is lent
abbrev pub lent_tests : Bool → ℕ → Answer Unit
lent_tests lent counter = lent_test lent and_then counter_test counter

-- the tests of a background's calls
abbrev pub bg_tests : ℕ → ℕ → ℕ → ℕ → Bool → Answer Unit
bg_tests y words colours counter in_range = base_tests y words colours and_then last_tests counter in_range

-- of the choice of a row's sprites
abbrev pub choice_tests : ℕ → ℕ → Answer Unit
choice_tests y bytes = row_number_test y and_then oam_test bytes

-- of a row of lent pictures that is handed back
abbrev pub part_tests : ℕ → Bool → Bool → Answer Unit
part_tests y lent in_range = row_number_test y and_then lent_test lent and_then range_test in_range

module _ (s : Scene) (y : ℕ) where
  abbrev tests : Answer Unit
  tests = row_tests y (length s.vram) (length s.cgram) (length s.oam)

  -- of the calls of the sprites, and of any layer
  abbrev pub layer_tests : Bool → Answer Unit
  layer_tests in_range = tests and_then last_tests s.regs.mosaic_vcounter in_range

  -- of drawing row y into a lent row or picture
  abbrev pub draw_tests : Bool → Answer Unit
  draw_tests lent = tests and_then lent_tests lent s.regs.mosaic_vcounter
