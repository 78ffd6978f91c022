-- What is said of a file that is read from standard input. Which bytes a read brings no contract can say: it is some file.
use Rattle.std.specs.Prelude.{ℕ, ◌≡◌, List, Result}
use Rattle.base_refusal.specs.declared.Refusal.{Refusal}
use Rattle.salvage.specs.Salvage.{salvage_outcome}
use Rattle.salvage.specs.Answers.{salvage_means}
use Rattle.salvage.specs.declared.Changes.{Changes}

-- the answer and what it leaves of an output are those of salvage, for the file that was read
pub record OfInput (a : Result Changes Refusal) (before after : List ℕ) : Type 0 where
  pub file : List ℕ
  pub is : salvage_means a after ≡ salvage_outcome file before
