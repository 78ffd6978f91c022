-- What a call that may refuse answers, in terms of the rules: a value, or a refusal's number.
-- What a result of the code means here is a definition too (Results), and the promises use it.
use Rattle.std.specs.Prelude.{ℕ, Bool, true, false}

pub data Answer (A : Type 0) : Type 0 where
  value : A → Answer A
  refused : ℕ → Answer A

-- what follows, where the test holds, and otherwise the number; a chain of these gives the lowest number first
abbrev pub provided : {A : Type 0} → Bool → ℕ → Answer A → Answer A
provided true n a = a
provided false n a = refused n

infixr 20 ◌and_then◌
-- the tests of a call and what it answers once they are passed
abbrev pub ◌and_then◌ : {A : Type 0} → Answer Unit → Answer A → Answer A
value _ and_then a = a
refused n and_then a = refused n

-- An answer and what stands beside it: state by value, lent memory, or a value that an enum cannot hold.
pub record Outcome (A B : Type 0) : Type 0 where
  pub said : Answer A
  pub left : B

-- what a call leaves whose tests say t: the answer a beside b, or the refusal beside what is kept
abbrev pub outcome : {A B : Type 0} → Answer Unit → A → B → B → Outcome A B
outcome (value _) a b kept = record { said = value a; left = b }
outcome (refused n) a b kept = record { said = refused n; left = kept }
