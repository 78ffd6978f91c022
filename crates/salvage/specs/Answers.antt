-- What the answer of this crate means, beside what the output holds.
use Rattle.std.specs.Prelude.{ℕ, List, [], Result, Ok, Err}
use Rattle.base_refusal.specs.Answer.{Outcome, value, refused}
use Rattle.base_refusal.specs.Numbers.{number_of}
use Rattle.base_refusal.specs.declared.Refusal.{Refusal}
use Rattle.salvage.specs.declared.Changes.{Changes}
use Rattle.salvage.specs.Salvage.{Salvage, listed}

-- on a refusal nothing is listed
abbrev pub salvage_means : Result Changes Refusal → List ℕ → Outcome Unit Salvage
salvage_means (Ok changes) out = record { said = value tt; left = record { bytes = out; changes = changes } }
salvage_means (Err r) out = record { said = refused (number_of r); left = record { bytes = out; changes = listed [] } }
