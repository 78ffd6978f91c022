-- What the comparisons share: the bits of a sprite in the second table, what a list holds of a sprite, and digests.
use Rattle.std.specs.Prelude.{ℕ, ◌+◌, ◌*◌, ◌/◌, ◌%◌, ◌^◌, Bool, cond}
use Rattle.base_signed.specs.Remainder.{remainder}
use Rattle.oam.specs.declared.Sprite.{Sprite}

-- a byte whose pair of bits k, counted from the low end, is replaced
abbrev pub second_table_byte : ℕ → ℕ → ℕ → ℕ
second_table_byte byte k bits = byte % 4 ^ k + bits * 4 ^ k + byte / 4 ^ (k + 1) * 4 ^ (k + 1)

-- d x 31 and the high half, that x 31 and the low half, mod 2 ^ 32
abbrev pub folded : ℕ → ℕ → ℕ
folded d v = ((d * 31 + v / 4294967296) * 31 + v % 4294967296) % 4294967296

abbrev pub one_of : Bool → ℕ
one_of b = cond b 1 0

-- the 16 bits of the column, top, tile, base
abbrev pub sprite_place : Sprite → ℕ
sprite_place s =
    remainder s.x 65536 * 4294967296 + s.y * 16777216 + (s.tile * 65536 + s.chr_base)

-- table, palette, priority, and the three bits
abbrev pub marks_of : Sprite → ℕ
marks_of s =
    s.name_table * 1048576 + s.palette * 4096 + s.priority * 16
    + (one_of s.flip_x + one_of s.flip_y * 2 + one_of s.large * 4)
