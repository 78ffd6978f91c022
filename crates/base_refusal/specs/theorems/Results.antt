-- What the result of a call's tests says of its answer: what every call with several refusals cites.
use Rattle.std.specs.Prelude.{◌≡◌, Result, Ok, Err}
use Rattle.std.proofs.Common.{sym, ap, subst, ◌∙◌}
use Rattle.base_refusal.specs.Answer.{Answer, value, refused, ◌and_then◌, Outcome, outcome}
use Rattle.base_refusal.specs.Numbers.{number_of}
use Rattle.base_refusal.specs.declared.Refusal.{Refusal}
use Rattle.base_refusal.specs.Results.{means, Passed}

pub passed : {v : Result Unit Refusal} → v ≡ Ok tt → Passed v
passed e = subst Passed (sym e) tt

-- the answer to a call whose tests say w: what follows them where w is Ok, and otherwise the refusal
pub by_result : {A : Type 0} {v w : Result Unit Refusal} {tests : Answer Unit} (a : Answer A) →
    means v ≡ tests → v ≡ w → (means w and_then a) ≡ (tests and_then a)
by_result a m e = ap (λ (t : Answer Unit). t and_then a) (sym (ap means e) ∙ m)

-- the same where something stands beside the answer
module _ {A B : Type 0} {v : Result Unit Refusal} {tests : Answer Unit} {l : B} (a : A) (b kept : B) (m : means v ≡ tests) where
  pub by_ok : {x : A} → v ≡ Ok tt → x ≡ a → l ≡ b →
      ◌≡◌ {A = Outcome A B} (record { said = value x; left = l }) (outcome tests a b kept)
  by_ok e c d =
      (λ i. record { said = value (c i); left = d i })
      ∙ ap (λ (t : Answer Unit). outcome t a b kept) (sym (ap means e) ∙ m)

  pub by_refusal_lem : {r : Refusal} → v ≡ Err r → l ≡ kept →
      ◌≡◌ {A = Outcome A B} (record { said = refused (number_of r); left = l }) (outcome tests a b kept)
  by_refusal_lem {r} e d =
      ap (λ (x : B). record { said = refused (number_of r); left = x }) d
      ∙ ap (λ (t : Answer Unit). outcome t a b kept) (sym (ap means e) ∙ m)
