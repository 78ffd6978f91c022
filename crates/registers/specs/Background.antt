-- A background by its number.
use Rattle.std.specs.Prelude.{ℕ, ◌≡◌, ◌<◌, ◌≤◌, Result, Ok, Err}
use Rattle.base_refusal.specs.Answer.{Answer, value, refused}
use Rattle.base_refusal.specs.Numbers.{number_of}
use Rattle.base_refusal.specs.declared.Refusal.{Refusal}
use Rattle.base_refusal.specs.declared.Refusal.TheVariants.{Argument}
use Rattle.registers.specs.declared.background.Background.{Background}

-- the background of a number below 4; a number above 3 is refused
abbrev pub IsBackground : ℕ → Result Background Refusal → Type 0
IsBackground n (Ok b) = (b.number ≡ n) × (n < 4)
IsBackground n (Err r) = (r ≡ Argument) × (4 ≤ n)

-- what it means: the background's number, or the refusal's
abbrev pub background_means : Result Background Refusal → Answer ℕ
background_means (Ok b) = value b.number
background_means (Err r) = refused (number_of r)
