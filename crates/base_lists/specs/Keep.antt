-- The elements of a list at which a test holds, in their order.
use Rattle.std.specs.Prelude.{Bool, cond, List, [], ◌∷◌}

unfoldable pub keep : {A : Type 0} → (A → Bool) → List A → List A
keep test [] = []
keep test (a ∷ l) = cond (test a) (a ∷ keep test l) (keep test l)
