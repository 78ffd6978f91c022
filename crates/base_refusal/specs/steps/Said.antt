-- What a call's tests said.
use Rattle.std.specs.Prelude.{Result, Ok, Err}
use Rattle.base_refusal.specs.Answer.{Answer, value, refused}
use Rattle.base_refusal.specs.Numbers.{number_of}
use Rattle.base_refusal.specs.declared.Refusal.{Refusal}

-- whatever the result hands on once they are passed
abbrev pub said_of : {A : Type 0} → Result A Refusal → Answer Unit
said_of (Ok a) = value tt
said_of (Err r) = refused (number_of r)
