-- What VRAM is filled with.
use Rattle.std.specs.Prelude.{ℕ, ◌+◌, ◌*◌, ◌/◌, ◌%◌, Bool, cond, ◌&&◌, ◌||◌, List, eqb, ltb}
use Rattle.std.specs.Int.Bits.{bit_and}
use Rattle.base_lists.specs.Tab.{tab}
use Rattle.test_replay.specs.Drawing.{drawn_word}
use Rattle.test_replay.specs.declared.memory.Filling.{Filling}
use Rattle.test_replay.specs.declared.memory.Filling.TheVariants.{Any, Runs, Picture, Sprites}

-- nothing, few bits or many
abbrev pub sparse_of : Bool → Bool → ℕ → ℕ → ℕ
sparse_of none few a b = cond none 0 (cond few (bit_and a b) a)

abbrev pub runs_of : ℕ → ℕ → ℕ → ℕ
runs_of i a b =
    sparse_of (eqb (i / 16 % 8) 0) ((eqb (i / 16 % 8) 1 || eqb (i / 16 % 8) 3) || eqb (i / 16 % 8) 5) a b

-- maps, then tiles
abbrev pub picture_of : ℕ → ℕ → ℕ → ℕ
picture_of i a b =
    cond
    (ltb i 8192)
    (cond (eqb (b % 4) 0) (a / 1024 * 1024 + a % 64) 0)
    (sparse_of
    (eqb (i / 32 % 4) 0 || ltb (i % 4096) 32)
    (eqb (i / 32 % 4) 1)
    (cond (eqb (i / 32 % 4) 2) (cond (eqb (b % 2) 0) 65280 255) a)
    b)

-- two rows of a map and their tile, then tiles
abbrev pub sprite_tiles_of : ℕ → ℕ → ℕ → ℕ
sprite_tiles_of i a b =
    cond
    (ltb i 32)
    8
    (cond
    (ltb i 64)
    8200
    (cond
    (ltb i 72)
    65535
    (sparse_of
    (eqb (i / 16 % 4) 0 || (eqb (i / 16 % 4) 2 && eqb (b % 4) 0))
    (eqb (i / 16 % 4) 1)
    a
    b)))

-- word i, of two numbers
abbrev pub held_of : Filling → ℕ → ℕ → ℕ → ℕ
held_of Any i a b = a
held_of Runs i a b = runs_of i a b
held_of Picture i a b = picture_of i a b
held_of Sprites i a b = sprite_tiles_of i a b

-- two numbers are drawn for each word
unfoldable pub vram_of : Filling → ℕ → List ℕ
vram_of filling x = tab 32768 (λ i. held_of filling i (drawn_word (i * 2 + 1) x) (drawn_word (i * 2 + 2) x))
