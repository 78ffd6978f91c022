-- What the result of a call that may refuse means.
use Rattle.std.specs.Prelude.{Result, Ok, Err}
use Rattle.base_refusal.specs.Answer.{Answer, value, refused, Outcome}
use Rattle.base_refusal.specs.Numbers.{number_of}
use Rattle.base_refusal.specs.declared.Refusal.{Refusal}

-- what a result means, whatever its value is
abbrev pub means : {A : Type 0} → Result A Refusal → Answer A
means (Ok a) = value a
means (Err r) = refused (number_of r)

-- the same as an outcome: the value stands beside what was said, and on a refusal what is kept
abbrev pub outcome_of : {A : Type 0} → A → Result A Refusal → Outcome Unit A
outcome_of kept (Ok a) = record { said = value tt; left = a }
outcome_of kept (Err r) = record { said = refused (number_of r); left = kept }

-- the call passed its tests
abbrev pub Passed : {A : Type 0} → Result A Refusal → Type 0
Passed (Ok a) = Unit
Passed (Err r) = ⊥
