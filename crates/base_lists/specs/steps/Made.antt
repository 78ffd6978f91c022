-- What `array::from_fn` makes is the list by a rule, where its closure stays as it is and gives what the rule does.
use Rattle.std.specs.Prelude.{ℕ, zero, suc, ◌+◌, ◌<◌, ◌≤◌, ◌≡◌, List}
use Rattle.std.specs.Array.{IsElementAt, IsFromFnResult, IsFromFnResultFrom}
use Rattle.std.specs.Fn.{Mut, Called}
use Rattle.std.proofs.Common.{subst, arith, eq-or-lt_of_le}
use Rattle.std.proofs.Math.Logic.{⊎_elim}
use Rattle.base_lists.specs.Tab.{tab}
use Rattle.base_lists.specs.theorems.Tab.{by_get_d}

module _ {F A : Type 0} (g : Mut F (ℕ × Unit {0}) A) (f : F) (r : ℕ → A) where
  each_made : (ys : List A) (i n : ℕ) → IsFromFnResultFrom g f ys i n →
      ((x : ℕ) → x < i + n → (y : A) (q : F) → Called g f (x, tt) y q → (q ≡ f) × (y ≡ r x)) →
      (x : ℕ) → i ≤ x → x < i + n → IsElementAt ys x (r x)
  each_made ys i zero m h x a b = absurd (omega arith)
  each_made ys i (suc n) m h x a b =
      let here = h i (omega arith) m.1 m.0 m.3 in
      ⊎_elim
      (λ e. subst (λ k. IsElementAt ys k (r k)) e (subst (IsElementAt ys i) here.1 m.2))
      (λ c. each_made ys (i + 1) n (subst (λ q. IsFromFnResultFrom g q ys (i + 1) n) here.0 m.4) (λ z d. h z (omega arith)) x (omega arith) (omega arith))
      (eq-or-lt_of_le {n = i} {m = x} a)

module _ {F A : Type 0} {g : Mut F (ℕ × Unit {0}) A} {f : F} {ys : List A} {n : ℕ} (r : ℕ → A) where
  pub made : IsFromFnResult g f ys n →
      ((x : ℕ) → x < n → (y : A) (q : F) → Called g f (x, tt) y q → (q ≡ f) × (y ≡ r x)) → ys ≡ tab n r
  made m h = by_get_d n r ys (r 0) m.long (λ x b. (each_made g f r ys 0 n m.each (λ z d. h z (omega arith)) x (omega arith) (omega arith)).1 (r 0))
