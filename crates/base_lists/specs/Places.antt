-- A list in an array of n places, with its length beside it: the places beyond it are blank.
use Rattle.std.specs.Prelude.{ℕ, ◌-◌, List, ◌++◌, length, replicate}

unfoldable pub places : {A : Type 0} → ℕ → A → List A → List A
places n blank l = l ++ replicate (n - length l) blank
