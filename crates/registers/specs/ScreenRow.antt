-- A row of the screen by its number.
use Rattle.std.specs.Prelude.{ℕ, ◌≡◌, ◌<◌, ◌≤◌, Result, Ok, Err}
use Rattle.base_refusal.specs.Answer.{Answer, value, refused}
use Rattle.base_refusal.specs.Numbers.{number_of}
use Rattle.base_refusal.specs.declared.Refusal.{Refusal}
use Rattle.base_refusal.specs.declared.Refusal.TheVariants.{Row}
use Rattle.registers.specs.declared.screen_row.ScreenRow.{ScreenRow}

-- the row of a number below 224; a number above 223 is refused
abbrev pub IsScreenRow : ℕ → Result ScreenRow Refusal → Type 0
IsScreenRow n (Ok y) = (y.number ≡ n) × (n < 224)
IsScreenRow n (Err r) = (r ≡ Row) × (224 ≤ n)

-- what it means: the row's number, or the refusal's
abbrev pub screen_row_means : Result ScreenRow Refusal → Answer ℕ
screen_row_means (Ok y) = value y.number
screen_row_means (Err r) = refused (number_of r)
