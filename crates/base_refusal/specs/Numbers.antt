-- The numbers of the refusals.
use Rattle.std.specs.Prelude.{ℕ}
use Rattle.base_refusal.specs.declared.Refusal.{Refusal}
use Rattle.base_refusal.specs.declared.Refusal.TheVariants.{Row, Vram, Colour, Oam, Lent, Counter, Argument, SectionCount, SceneCut, SceneLonger, FieldByte, Output}

-- the number that the table gives each refusal
abbrev pub number_of : Refusal → ℕ
number_of Row = 1
number_of Vram = 2
number_of Colour = 3
number_of Oam = 4
number_of Lent = 5
number_of Counter = 6
number_of Argument = 7
number_of SectionCount = 8
number_of SceneCut = 9
number_of SceneLonger = 10
number_of FieldByte = 11
number_of Output = 12
