-- What the theorems over calls, and the limit, will speak of. No promise reaches these yet.
use Rattle.std.specs.Prelude.{ℕ, ◌%◌, ◌<◌, ◌≡◌, Bool, true, false}
use Rattle.colour.specs.Colour.{math_of}
use Rattle.colour_fades.specs.Fades.{black}

abbrev pub white : ℕ
white = 0x7FFF

-- added, and then halved
abbrev pub half_plus : ℕ → ℕ → ℕ
half_plus a b = math_of a b false true

-- `color_math` as its callers know it: of every two words, what its contract says
abbrev pub MeetsContract : (ℕ → ℕ → Bool → Bool → ℕ) → Type 0
MeetsContract math =
    (main sub : ℕ) (subtract half : Bool) → main < 65536 → sub < 65536 → math main sub subtract half ≡ math_of main sub subtract half

-- what may be joined, said of the answers of calls
pub record Joins (math : ℕ → ℕ → Bool → Bool → ℕ) (a b c : ℕ) : Type 0 where
  pub either_order : math a b false false ≡ math b a false false
  pub any_grouping : math (math a b false false) c false false ≡ math a (math b c false false) false false
  pub black_added : math a black false false ≡ a % 32768
  pub black_subtracted : math a black true false ≡ a % 32768
  pub by_sum : math (math a b true false) c true false ≡ math a (math b c false false) true false
