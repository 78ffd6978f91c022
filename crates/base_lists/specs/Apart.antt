-- Lists of numbers of which no two share a number: a test.
use Rattle.std.specs.Prelude.{ℕ, Bool, true, false, not, ◌&&◌, ◌||◌, List, [], ◌∷◌, eqb}

-- is p among them?
unfoldable pub holds : List ℕ → ℕ → Bool
holds [] p = false
holds (q ∷ l) p = eqb p q || holds l p

-- is none of l among m?
unfoldable pub clear_of : List ℕ → List ℕ → Bool
clear_of [] m = true
clear_of (p ∷ l) m = not (holds m p) && clear_of l m

unfoldable pub clear_of_all : List ℕ → List (List ℕ) → Bool
clear_of_all l [] = true
clear_of_all l (m ∷ ms) = clear_of l m && clear_of_all l ms

-- do no two of the lists share a number?
unfoldable pub apart : List (List ℕ) → Bool
apart [] = true
apart (l ∷ ms) = clear_of_all l ms && apart ms
