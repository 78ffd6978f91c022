-- A type of answers is its values and its refusals, and its meaning settles it: one law for every such type.
use Rattle.std.specs.Prelude.{ℕ, ◌≡◌}
use Rattle.std.proofs.Common.{sym, ap, ◌∙◌, arith}
use Rattle.base_refusal.specs.Answer.{Answer, value, refused}
use Rattle.base_refusal.specs.Numbers.{number_of}
use Rattle.base_refusal.specs.theorems.Numbers.{one_number}
use Rattle.base_refusal.specs.declared.Refusal.{Refusal}

-- x is a value or a refusal
pub data Made {A X : Type 0} (is : A → X) (no : Refusal → X) : X → Type 0 where
  by_value : (a : A) → Made is no (is a)
  by_refusal : (r : Refusal) → Made is no (no r)

same_value : {A : Type 0} {a b : A} → value a ≡ value b → a ≡ b
same_value e = cc

pub not_refused : {A : Type 0} {a : A} {n : ℕ} → value a ≡ refused n → ⊥
not_refused e = let z : ◌≡◌ {A = ℕ} 0 1 = cc in omega arith

pub same_number : {A : Type 0} {m n : ℕ} → ◌≡◌ {A = Answer A} (refused m) (refused n) → m ≡ n
same_number e = cc

module _ {A X : Type 0} (is : A → X) (no : Refusal → X) (means : X → Answer A)
    (is-means : (a : A) → means (is a) ≡ value a)
    (no-means : (r : Refusal) → means (no r) ≡ refused (number_of r)) where
  -- no two answers have one meaning
  pub settled : {x y : X} → Made is no x → Made is no y → means x ≡ means y → x ≡ y
  settled (by_value a) (by_value b) e = ap is (same_value (sym (is-means a) ∙ (e ∙ is-means b)))
  settled (by_value a) (by_refusal r) e = absurd (not_refused (sym (is-means a) ∙ (e ∙ no-means r)))
  settled (by_refusal r) (by_value a) e = absurd (not_refused (sym (is-means a) ∙ (sym e ∙ no-means r)))
  settled (by_refusal r) (by_refusal s) e =
      ap no (one_number r s (same_number (sym (no-means r) ∙ (e ∙ no-means s))))
