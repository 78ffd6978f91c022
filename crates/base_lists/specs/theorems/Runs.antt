-- What each access keeps, a run keeps.
use mathlib.Core.List.{List, [], ◌∷◌}
use Rattle.base_lists.specs.Runs.{run}

module _ {S A : Type 0} (step : A → S → S) where
  -- what each step keeps, a run keeps
  pub run_keeps : (P : S → Type 0) → ((a : A) (s : S) → P s → P (step a s)) → (l : List A) (s : S) → P s → P (run step l s)
  unfolding run
  run_keeps P k [] s p = p
  run_keeps P k (a ∷ l) s p = run_keeps P k l (step a s) (k a s p)
