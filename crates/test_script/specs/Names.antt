-- The place of a word in a list of names.
use Rattle.std.specs.Prelude.{ℕ, suc, Bool, true, false, cond, ◌&&◌, List, [], ◌∷◌, leb, eqb, length}
use Rattle.std.proofs.Math.Seq.{slice}

-- a byte before the first name
abbrev pub onto : ℕ → List (List ℕ) → List (List ℕ)
onto b [] = (b ∷ []) ∷ []
onto b (n ∷ ns) = (b ∷ n) ∷ ns

-- the names, one space between any two
unfoldable pub names_of : List ℕ → List (List ℕ)
names_of [] = [] ∷ []
names_of (b ∷ l) = cond (eqb b 32) ([] ∷ names_of l) (onto b (names_of l))

-- are two words the same?
unfoldable pub same : List ℕ → List ℕ → Bool
same [] [] = true
same [] (b ∷ n) = false
same (a ∷ w) [] = false
same (a ∷ w) (b ∷ n) = eqb a b && same w n

-- the place of the first name that is the word w, where that is a word; the number of names where there is none
unfoldable pub first_of : Bool → List ℕ → List (List ℕ) → ℕ
first_of good w [] = 0
first_of good w (n ∷ ns) = cond (good && same w n) 0 (suc (first_of good w ns))

-- the place of the bytes of s from `from` to before `to`
unfoldable pub place_between : List ℕ → List ℕ → ℕ → ℕ → ℕ
place_between names s from to = first_of (leb from to && leb to (length s)) (slice from to s) (names_of names)
