-- Tiles in VRAM.
use Rattle.std.specs.Prelude.{ℕ, zero, suc, ◌+◌, ◌-◌, ◌*◌, ◌/◌, ◌%◌, ◌^◌, Bool, true, false, ◌&&◌, List, length, get_or, eqb, ltb}
use Rattle.base_refusal.specs.Answer.{Answer, value, provided, ◌and_then◌}
use Rattle.tiles.specs.declared.BitDepth.{BitDepth}
use Rattle.tiles.specs.declared.BitDepth.TheVariants.{Two, Four, Eight}

-- a word of VRAM: each address is taken mod 32,768
abbrev pub vram_word : List ℕ → ℕ → ℕ
vram_word v address = get_or v (address % 32768) 0

-- a tile's row in plane pair k: the pairs are 8 words apart
abbrev pub plane_word : List ℕ → ℕ → ℕ → ℕ → ℕ
plane_word v base row k = vram_word v (base + row + k * 8)

-- column x of such a word: the low byte is the lower plane, bit 7 the leftmost
abbrev pub two_bits : ℕ → ℕ → ℕ
two_bits w x = w / 2 ^ (7 - x) % 2 + w / 2 ^ (15 - x) % 2 * 2

abbrev pub pair_at : List ℕ → ℕ → ℕ → ℕ → ℕ → ℕ
pair_at v base x y k = two_bits (plane_word v base y k) x

-- the colour index of pixel (x, y) over n plane pairs, the first the lowest
unfoldable pub index_of : List ℕ → ℕ → ℕ → ℕ → ℕ → ℕ
index_of v base x y zero = 0
index_of v base x y (suc n) = index_of v base x y n + 4 ^ n * pair_at v base x y n

-- the plane pairs of a depth
abbrev pub pairs_of : BitDepth → ℕ
pairs_of Two = 1
pairs_of Four = 2
pairs_of Eight = 4

-- the words of a tile
abbrev pub tile_words : BitDepth → ℕ
tile_words Two = 8
tile_words Four = 16
tile_words Eight = 32

-- a place along a side, mirrored across the whole of it by a flip
abbrev pub mirrored : ℕ → ℕ → Bool → ℕ
mirrored at side true = side - 1 - at
mirrored at side false = at

-- VRAM of another length is refused 2; a tile word above 65,535 or a tile pixel above 7 is refused 7
abbrev pub tile_tests : ℕ → ℕ → ℕ → ℕ → Answer Unit
tile_tests words base x y =
    provided (eqb words 32768) 2
    (provided (ltb base 65536 && ltb x 8 && ltb y 8) 7 (value tt))

-- what a decoder over n plane pairs answers
abbrev pub tile_answer : List ℕ → ℕ → ℕ → ℕ → ℕ → Answer ℕ
tile_answer v base x y n = tile_tests (length v) base x y and_then value (index_of v base x y n)
