-- What the 544 bytes of sprite memory say of each of the 128 sprites.
use Rattle.std.specs.Prelude.{ℕ, ◌+◌, ◌*◌, ◌/◌, ◌%◌, ◌^◌, Bool, false, cond, List, [], ◌∷◌, get_or, length, ℤ, pos, ◌-ℤ◌, ltb, eqb}
use Rattle.base_refusal.specs.Answer.{Answer, value, provided, ◌and_then◌}
use Rattle.oam.specs.declared.Sprite.{Sprite}
use Rattle.oam.specs.declared.SpriteSize.{SpriteSize}
use Rattle.oam.specs.declared.inner.Sizes.{Sizes}

-- nine bits as a column: 256 and above mean x - 512
abbrev pub signed9 : ℕ → ℤ
signed9 n = cond (ltb n 256) (pos n) (pos n -ℤ pos 512)

-- the first word of a sprite's tiles: name base x 8,192, plus (select + 1) x 4,096 for table 1, mod 32,768
abbrev pub chr_base_of : ℕ → ℕ → ℕ
chr_base_of objsel table = (objsel % 8 * 8192 + cond (eqb table 0) 0 ((objsel / 8 % 4 + 1) * 4096)) % 32768

-- byte k of sprite i: 0 its column's low byte, 1 its top, 2 its tile, 3 its attributes (vhoopppN)
abbrev pub sprite_byte : List ℕ → ℕ → ℕ → ℕ
sprite_byte oam i k = get_or oam (i * 4 + k) 0

-- its two bits after the 512 bytes of the first table: bit 8 of the column, and its size
abbrev pub sprite_high_bits : List ℕ → ℕ → ℕ
sprite_high_bits oam i = get_or oam (512 + i / 4) 0 / 2 ^ (i % 4 * 2) % 4

-- the nine bits of its column
abbrev pub x9_of : List ℕ → ℕ → ℕ
x9_of oam i = sprite_high_bits oam i % 2 * 256 + get_or oam (i * 4) 0

-- a sprite from its column, its tile base, and its bytes
abbrev pub sprite_with : ℤ → ℕ → List ℕ → ℕ → Sprite
sprite_with x base oam i =
    record {
      x = x;
      y = sprite_byte oam i 1;
      tile = sprite_byte oam i 2;
      chr_base = base;
      name_table = sprite_byte oam i 3 % 2;
      palette = sprite_byte oam i 3 / 2 % 8;
      priority = sprite_byte oam i 3 / 16 % 4;
      flip_x = eqb (sprite_byte oam i 3 / 64 % 2) 1;
      flip_y = eqb (sprite_byte oam i 3 / 128) 1;
      large = eqb (sprite_high_bits oam i / 2) 1;
    }

-- sprite i
unfoldable pub sprite_of : List ℕ → ℕ → ℕ → Sprite
sprite_of oam i objsel = sprite_with (signed9 (x9_of oam i)) (chr_base_of objsel (sprite_byte oam i 3 % 2)) oam i

-- what stands where there is no sprite
abbrev pub blank_sprite : Sprite
blank_sprite =
    record {
      x = pos 0;
      y = 0;
      tile = 0;
      chr_base = 0;
      name_table = 0;
      palette = 0;
      priority = 0;
      flip_x = false;
      flip_y = false;
      large = false;
    }

-- sprite memory of another length is refused 4, a sprite above 127 is refused 7
abbrev pub sprite_tests : ℕ → ℕ → Answer Unit
sprite_tests bytes i = provided (eqb bytes 544) 4 (provided (ltb i 128) 7 (value tt))

abbrev pub sprite_answer : List ℕ → ℕ → ℕ → Answer Sprite
sprite_answer oam i objsel = sprite_tests (length oam) i and_then value (sprite_of oam i objsel)

abbrev pub sized : ℕ → ℕ → SpriteSize
sized w h = record { width = w; height = h }

abbrev pub square : ℕ → SpriteSize
square n = sized n n

abbrev both : SpriteSize → SpriteSize → Sizes
both small large = record { small = small; large = large }

-- the small and the large size of each setting of objsel
abbrev pub settings : List Sizes
settings =
    both (square 8) (square 16)
    ∷ both (square 8) (square 32)
    ∷ both (square 8) (square 64)
    ∷ both (square 16) (square 32)
    ∷ both (square 16) (square 64)
    ∷ both (square 32) (square 64)
    ∷ both (sized 16 32) (sized 32 64)
    ∷ both (sized 16 32) (square 32)
    ∷ []

abbrev pub no_sizes : Sizes
no_sizes = both (square 0) (square 0)

unfoldable pub sizes_of : ℕ → Sizes
sizes_of setting = get_or settings setting no_sizes

-- a sprite's size, by bits 5 to 7 of objsel
unfoldable pub size_of : ℕ → Bool → SpriteSize
size_of objsel large = cond large (sizes_of (objsel / 32)).large (sizes_of (objsel / 32)).small
