-- The packed pixels of a tile's row, from its plane words. Nothing here is needed to know what a layer shows.
use Rattle.std.specs.Prelude.{ℕ, zero, suc, ◌+◌, ◌*◌, ◌%◌, ◌^◌, cond, not, List, get_or, eqb}
use Rattle.tiles.specs.Tiles.{two_bits}
use Rattle.colour.specs.Colour.{direct_colour}

-- the colour index of a column in the words of n plane pairs, the first the lowest
unfoldable pub index_in : List ℕ → ℕ → ℕ → ℕ
index_in words col zero = 0
index_in words col (suc n) = index_in words col n + 4 ^ n * two_bits (get_or words n 0) col

-- a pixel of index i: 0 where it is transparent
unfoldable pub shade : List ℕ → ℕ → ℕ → ℕ
shade colours head i = cond (not (eqb i 0)) (head + get_or colours i 0 % 65536) 0

unfoldable pub shade_direct : ℕ → ℕ → ℕ → ℕ
shade_direct n head i = cond (not (eqb i 0)) (head + direct_colour i n) 0
