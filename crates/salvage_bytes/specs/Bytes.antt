-- What comes out of a file: it is cut or filled to the length of a scene, its counts are set, and then its counter and its
-- field.
use Rattle.std.specs.Prelude.{ℕ, ◌+◌, ◌-◌, ◌/◌, ◌%◌, ◌^◌, min, Bool, cond, ◌&&◌, List, length, get_or, leb, ltb}
use Rattle.base_lists.specs.Tab.{tab}

-- the bytes of a scene
abbrev pub scene_length : ℕ
scene_length = 66656

-- the file, cut or filled with zeros to that length
unfoldable pub resized : List ℕ → List ℕ
resized file = tab scene_length (λ (i : ℕ). get_or file i 0)

-- is byte i one of the n bytes from byte k on?
abbrev pub is_in : ℕ → ℕ → ℕ → Bool
is_in k n i = leb k i && ltb i (k + n)

-- the bytes with a number in the n bytes from byte k on, little-endian
unfoldable pub with_number : ℕ → ℕ → ℕ → List ℕ → List ℕ
with_number k n number bytes =
    tab (length bytes) (λ (i : ℕ). cond (is_in k n i) (number / 256 ^ (i - k) % 256) (get_or bytes i 0))

-- the counter and the field as they have to be: 16 at most, and the remainder by 2
abbrev pub right_counter : List ℕ → ℕ
right_counter bytes = min (get_or bytes 50 0) 16

abbrev pub right_field : List ℕ → ℕ
right_field bytes = get_or bytes 51 0 % 2

-- the four counts set
unfoldable pub with_counts : List ℕ → List ℕ
with_counts bytes =
    with_number 1116 4 65536 (with_number 600 4 512 (with_number 52 4 544 (with_number 0 4 48 bytes)))

-- and then both values
unfoldable pub mended : List ℕ → List ℕ
mended bytes = with_number 51 1 (right_field bytes) (with_number 50 1 (right_counter bytes) (with_counts bytes))

abbrev pub salvaged : List ℕ → List ℕ
salvaged file = mended (resized file)
