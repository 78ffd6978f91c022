-- The columns that are barred, where the screen lights the layer and where it does not.
use mathlib.Core.Path.{◌≡◌, refl, sym, ap, ◌∙◌}
use mathlib.Core.Bool.{Bool, true, false, not, ◌&&◌}

twice : (t : Bool) → t ≡ not (not t)
twice true = refl
twice false = refl

pub where_lit : (lit t : Bool) → lit ≡ true → t ≡ not (lit && not t)
where_lit lit t e = twice t ∙ ap (λ (l : Bool). not (l && not t)) (sym e)

pub where_unlit : (lit t : Bool) → lit ≡ false → true ≡ not (lit && t)
where_unlit lit t e = ap (λ (l : Bool). not (l && t)) (sym e)
