-- What is said of a background and of a row by its number is an equation over every number, as every other contract is.
use Rattle.std.specs.Prelude.{ℕ, ◌≡◌, Result, Ok, Err, ltb}
use Rattle.std.proofs.Common.{ap}
use Rattle.std.proofs.lemmas.Bool.{lt-ltb, le-ltb}
use Rattle.base_refusal.specs.Answer.{Answer, value, provided, refused}
use Rattle.base_refusal.specs.Numbers.{number_of}
use Rattle.base_refusal.specs.declared.Refusal.{Refusal}
use Rattle.registers.specs.declared.background.Background.{Background}
use Rattle.registers.specs.declared.screen_row.ScreenRow.{ScreenRow}
use Rattle.registers.specs.Bits.{of_background}
use Rattle.registers.specs.Background.{IsBackground, background_means}
use Rattle.registers.specs.ScreenRow.{IsScreenRow, screen_row_means}

pub one_background : (n : ℕ) (r : Result Background Refusal) → IsBackground n r → background_means r ≡ of_background n (value n)
one_background n (Ok b) e = rw (lt-ltb n 4 e.1) (ap value e.0)
one_background n (Err r) e = rw (le-ltb n 4 e.1) (ap (λ (s : Refusal). refused (number_of s)) e.0)

pub one_screen_row : (n : ℕ) (r : Result ScreenRow Refusal) → IsScreenRow n r → screen_row_means r ≡ provided (ltb n 224) 1 (value n)
one_screen_row n (Ok y) e = rw (lt-ltb n 224 e.1) (ap value e.0)
one_screen_row n (Err r) e = rw (le-ltb n 224 e.1) (ap (λ (s : Refusal). refused (number_of s)) e.0)
