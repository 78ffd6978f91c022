-- The meaning settles the answer: two answers of one meaning are one.
use Rattle.std.specs.Prelude.{ℕ, ◌≡◌, List, [], Result, Ok, Err}
use Rattle.base_refusal.specs.Results.{outcome_of}
use Rattle.base_refusal.specs.theorems.Settled.{one_outcome}
use Rattle.base_refusal.specs.declared.Refusal.{Refusal}
use Rattle.salvage.specs.declared.Changes.{Changes}
use Rattle.salvage.specs.Answers.{salvage_means}
use Rattle.salvage.specs.Salvage.{listed}

-- what is said and the changes, without the output
changes_left : (a b : Result Changes Refusal) (out : List ℕ) → salvage_means a out ≡ salvage_means b out →
    outcome_of (listed []) a ≡ outcome_of (listed []) b
changes_left (Ok c) (Ok d) out e = λ i. record { said = (e i).said; left = (e i).left.changes }
changes_left (Ok c) (Err r) out e = λ i. record { said = (e i).said; left = (e i).left.changes }
changes_left (Err r) (Ok c) out e = λ i. record { said = (e i).said; left = (e i).left.changes }
changes_left (Err r) (Err s) out e = λ i. record { said = (e i).said; left = (e i).left.changes }

pub one_salvage : (a b : Result Changes Refusal) (out : List ℕ) → salvage_means a out ≡ salvage_means b out → a ≡ b
one_salvage a b out e = one_outcome (listed []) a b (changes_left a b out e)
