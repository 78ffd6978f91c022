-- A fade adds a colour or subtracts it: colour math without halving. Several fades, and the one colour that they are joined into.
use Rattle.std.specs.Prelude.{ℕ, true, false, List, [], ◌∷◌}
use Rattle.colour.specs.Colour.{math_of}

-- one colour added to another, and subtracted from it
abbrev pub plus : ℕ → ℕ → ℕ
plus a b = math_of a b false false

abbrev pub minus : ℕ → ℕ → ℕ
minus a b = math_of a b true false

abbrev pub black : ℕ
black = 0

-- fades one after another, each on what the one before left
abbrev pub plus_all : ℕ → List ℕ → ℕ
plus_all a [] = a
plus_all a (b ∷ bs) = plus_all (plus a b) bs

abbrev pub minus_all : ℕ → List ℕ → ℕ
minus_all a [] = a
minus_all a (b ∷ bs) = minus_all (minus a b) bs

-- their colours joined into one
abbrev pub joined : List ℕ → ℕ
joined [] = black
joined (b ∷ bs) = plus b (joined bs)
