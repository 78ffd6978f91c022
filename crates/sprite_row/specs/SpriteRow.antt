-- One sprite and one row: whether the row meets it, whether it is passed over, and which of its tiles count.
use Rattle.std.specs.Prelude.{ℕ, zero, suc, ◌+◌, ◌-◌, ◌*◌, ◌/◌, ◌%◌, Bool, cond, not, ◌&&◌, ◌||◌, ◌==◌, nat_le, nat_lt}
use Rattle.base_signed.specs.Remainder.{remainder}
use Rattle.oam.specs.declared.Sprite.{Sprite}
use Rattle.oam.specs.declared.SpriteSize.{SpriteSize}
use Rattle.oam.specs.Sprites.{size_of}

-- the nine bits of a sprite's column
abbrev pub x9 : Sprite → ℕ
x9 s = remainder s.x 512

-- its size
abbrev pub size_in : ℕ → Sprite → SpriteSize
size_in objsel s = size_of objsel s.large

-- the row's line within a sprite: y less the sprite's top, modulo 256
abbrev pub line_of : ℕ → ℕ → ℕ
line_of row top = (row + 256 - top) % 256

-- the lines that a sprite covers: its height, halved under interlace
abbrev pub lines_covered : SpriteSize → Bool → ℕ
lines_covered size interlace = cond interlace (size.height / 2) size.height

-- the row meets the sprite
unfoldable pub meets_row : ℕ → ℕ → Bool → Sprite → Bool
meets_row row objsel interlace s = nat_lt (line_of row s.y) (lines_covered (size_in objsel s) interlace)

-- at these nine bits a sprite of this width is wholly left of the picture, and passed over; at 256 it is not
unfoldable pub passes : ℕ → ℕ → Bool
passes x width = nat_lt 256 x && nat_lt (x + width - 1) 512

abbrev pub passed_over : ℕ → Sprite → Bool
passed_over objsel s = passes (x9 s) (size_in objsel s).width

-- the row meets the sprite, and the sprite is not passed over
abbrev pub in_range : ℕ → ℕ → Bool → Sprite → Bool
in_range row objsel interlace s = meets_row row objsel interlace s && not (passed_over objsel s)

-- where tile t stands
abbrev pub tile_at : ℕ → ℕ → ℕ
tile_at x t = (x + t * 8) % 512

-- it counts unless that is 256 to 504; at 256 all count
unfoldable pub counts : ℕ → ℕ → Bool
counts x t = x == 256 || not (nat_le 256 (tile_at x t) && nat_le (tile_at x t) 504)

-- how many of the first n tiles count
unfoldable pub count_to : ℕ → ℕ → ℕ
count_to x zero = 0
count_to x (suc n) = count_to x n + cond (counts x n) 1 0

-- a sprite's counting tiles
abbrev pub tiles_of : ℕ → Sprite → ℕ
tiles_of objsel s = count_to (x9 s) ((size_in objsel s).width / 8)
