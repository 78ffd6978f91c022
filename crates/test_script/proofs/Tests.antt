-- What two tests say that hold together.
use mathlib.Core.Path.{◌≡◌}
use mathlib.Core.Bool.{Bool, true, ◌&&◌, and-eq-true_iff}

pub first : (a b : Bool) → a && b ≡ true → a ≡ true
first a b e = ((and-eq-true_iff a b).0 e).0

pub second : (a b : Bool) → a && b ≡ true → b ≡ true
second a b e = ((and-eq-true_iff a b).0 e).1
