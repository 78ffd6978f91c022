-- What holds of each element of a list.
use Rattle.std.specs.Prelude.{List, [], ◌∷◌}

module _ {A : Type 0} (P : A → Type 0) where
  abbrev pub Each : List A → Type 0
  Each [] = Unit
  Each (a ∷ l) = P a × Each l
