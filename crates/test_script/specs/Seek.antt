-- Where a search through a script stops.
use Rattle.std.specs.Prelude.{ℕ, suc, ◌+◌, min, Bool, not, cond, ◌||◌, List, [], ◌∷◌, eqb, length, drop}
use Rattle.test_script.specs.declared.Stop.{Stop}
use Rattle.test_script.specs.declared.Stop.TheVariants.{Word, End, Line}

-- a space, a tab or a carriage return
abbrev pub is_blank : ℕ → Bool
is_blank b = eqb b 32 || eqb b 9 || eqb b 13

-- the bytes at which a search stops
abbrev pub stops_at : Stop → ℕ → Bool
stops_at Word b = not (is_blank b)
stops_at End b = is_blank b || eqb b 10 || eqb b 59 || eqb b 35
stops_at Line b = eqb b 10

-- how many elements at the front fail the test
unfoldable pub lead : (ℕ → Bool) → List ℕ → ℕ
lead test [] = 0
lead test (b ∷ l) = cond (test b) 0 (suc (lead test l))

-- the first place from `from` on at which the search stops; the length where there is none
unfoldable pub seek_of : List ℕ → ℕ → Stop → ℕ
seek_of s from stop = min (length s) (from + lead (stops_at stop) (drop from s))
