-- What `^` gives of two truths is `xor` of them.
use mathlib.Core.Path.{◌≡◌, refl}
use mathlib.Core.Bool.{Bool, true, false, not, xor, beq}

pub exclusive : (a b : Bool) → not (beq a b) ≡ xor a b
unfolding xor
exclusive true true = refl
exclusive true false = refl
exclusive false true = refl
exclusive false false = refl
