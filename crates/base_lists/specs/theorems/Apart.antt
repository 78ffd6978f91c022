-- What the test of lists that share no number says.
use Rattle.std.specs.Prelude.{ℕ, zero, suc, ◌≡◌, refl, Bool, true, false, not, ◌||◌, List, [], ◌∷◌, eqb, get_or}
use Rattle.std.proofs.Common.{sym, ap, subst, ◌∙◌, eqb-true}
use Rattle.std.proofs.lemmas.Bool.{false≢true}
use Rattle.std.proofs.Math.Bool.{and-eq-true_iff}
use Rattle.base_lists.specs.Apart.{holds, clear_of, clear_of_all, apart}

not_both : (l m : List ℕ) (p : ℕ) → clear_of l m ≡ true → holds l p ≡ true → holds m p ≡ true → ⊥
unfolding holds clear_of
not_both [] m p c h g = false≢true h
not_both (q ∷ l) m p c h g =
    let b = (and-eq-true_iff (not (holds m q)) (clear_of l m)).0 c in
    by_test b.0 (λ o. not_both l m p b.1 o g) (eqb p q) refl h
  where
    by_test : not (holds m q) ≡ true → (holds l p ≡ true → ⊥) → (t : Bool) → eqb p q ≡ t → t || holds l p ≡ true → ⊥
    by_test n later true e o = false≢true (sym (ap not (subst (λ (k : ℕ). holds m k ≡ true) (eqb-true p q e) g)) ∙ n)
    by_test n later false e o = later o

not_in_all : (l : List ℕ) (ms : List (List ℕ)) (p k : ℕ) → clear_of_all l ms ≡ true → holds l p ≡ true → holds (get_or ms k []) p ≡ true → ⊥
unfolding holds clear_of_all
not_in_all l [] p k c h g = false≢true g
not_in_all l (m ∷ ms) p zero c h g = not_both l m p ((and-eq-true_iff (clear_of l m) (clear_of_all l ms)).0 c).0 h g
not_in_all l (m ∷ ms) p (suc k) c h g = not_in_all l ms p k ((and-eq-true_iff (clear_of l m) (clear_of_all l ms)).0 c).1 h g

-- then a number is in one of them only
pub one_place : (ls : List (List ℕ)) (p j k : ℕ) → apart ls ≡ true → holds (get_or ls j []) p ≡ true → holds (get_or ls k []) p ≡ true → j ≡ k
unfolding holds apart
one_place [] p j k c h g = absurd (false≢true h)
one_place (l ∷ ms) p zero zero c h g = refl
one_place (l ∷ ms) p zero (suc k) c h g = absurd (not_in_all l ms p k ((and-eq-true_iff (clear_of_all l ms) (apart ms)).0 c).0 h g)
one_place (l ∷ ms) p (suc j) zero c h g = absurd (not_in_all l ms p j ((and-eq-true_iff (clear_of_all l ms) (apart ms)).0 c).0 g h)
one_place (l ∷ ms) p (suc j) (suc k) c h g = ap suc (one_place ms p j k ((and-eq-true_iff (clear_of_all l ms) (apart ms)).0 c).1 h g)
