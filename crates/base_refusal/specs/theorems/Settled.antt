-- The meaning settles the result: two results of one meaning are one.
use Rattle.std.specs.Prelude.{◌≡◌, refl, Result, Ok, Err}
use Rattle.std.proofs.Common.{sym, ap}
use Rattle.base_refusal.specs.Answer.{Outcome}
use Rattle.base_refusal.specs.Results.{means, outcome_of}
use Rattle.base_refusal.specs.steps.Settled.{Made, by_value, by_refusal, settled, not_refused, same_number}
use Rattle.base_refusal.specs.theorems.Numbers.{one_number}
use Rattle.base_refusal.specs.declared.Refusal.{Refusal}

module _ {A : Type 0} where
  made : (a : Result A Refusal) → Made Ok Err a
  made (Ok a) = by_value a
  made (Err r) = by_refusal r

  pub one_result : (a b : Result A Refusal) → means a ≡ means b → a ≡ b
  one_result a b = settled Ok Err means (λ x. refl) (λ r. refl) (made a) (made b)

  -- where lent memory or state stands beside what was said, both are settled
  pub one_left : {B : Type 0} (a b : Result A Refusal) (x y : B) →
      ◌≡◌ {A = Outcome A B} (record { said = means a; left = x }) (record { said = means b; left = y }) → (a ≡ b) × (x ≡ y)
  one_left a b x y e = (one_result a b (λ i. (e i).said), λ i. (e i).left)

  -- where what is kept stands beside a refusal
  pub one_outcome : (kept : A) (a b : Result A Refusal) → outcome_of kept a ≡ outcome_of kept b → a ≡ b
  one_outcome kept (Ok a) (Ok b) e = ap Ok (λ i. (e i).left)
  one_outcome kept (Ok a) (Err r) e = absurd (not_refused (λ i. (e i).said))
  one_outcome kept (Err r) (Ok b) e = absurd (not_refused (λ i. (sym e i).said))
  one_outcome kept (Err r) (Err s) e = ap Err (one_number r s (same_number (λ i. (e i).said)))
