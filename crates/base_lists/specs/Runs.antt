-- A machine's run: a list of accesses, one after another.
use Rattle.std.specs.Prelude.{List, [], ◌∷◌}

module _ {S A : Type 0} (step : A → S → S) where
  -- the machine after them
  unfoldable pub run : List A → S → S
  run [] s = s
  run (a ∷ l) s = run l (step a s)

  -- and what it said to each
  unfoldable pub replies : {R : Type 0} → (A → S → R) → List A → S → List R
  replies reply [] s = []
  replies reply (a ∷ l) s = reply a s ∷ replies reply l (step a s)
