-- The scene file: which files a reader accepts, and what they hold.
use Rattle.std.specs.Prelude.{ℕ, ◌+◌, ◌*◌, List, length, get_or, take, drop, eqb, leb}
use Rattle.base_refusal.specs.Answer.{Answer, value, provided, ◌and_then◌, Outcome, outcome}
use Rattle.registers.specs.Screen.{cleared}
use Rattle.registers.specs.Scene.{Scene, scene}
use Rattle.scene_bytes.specs.Bytes.{word_at, registers_of, words_of}

-- the count from byte k on: four bytes, little-endian
abbrev pub count_at : List ℕ → ℕ → ℕ
count_at bytes k = word_at bytes k + word_at bytes (k + 2) * 65536

-- a section of n bytes whose count begins at byte k: where the file ends inside the count it is refused 9, for another count 8,
-- and where it ends inside the body 9
abbrev pub section_tests : List ℕ → ℕ → ℕ → Answer Unit
section_tests bytes k n =
    provided (leb (k + 4) (length bytes)) 9
    (provided (eqb (count_at bytes k) n) 8
    (provided (leb (k + 4 + n) (length bytes)) 9 (value tt)))

-- bytes after the last section, n of them, are refused 10
unfoldable pub end_tests : ℕ → Answer Unit
end_tests n = provided (eqb n 0) 10 (value tt)

-- a counter above 16 is refused 6, and then a field byte above 1 11
unfoldable pub value_tests : ℕ → ℕ → Answer Unit
value_tests counter field = provided (leb counter 16) 6 (provided (leb field 1) 11 (value tt))

-- the sections in their order, and what comes after them
unfoldable pub scene_tests : List ℕ → Answer Unit
scene_tests bytes =
    section_tests bytes 0 48
    and_then section_tests bytes 52 544
    and_then section_tests bytes 600 512
    and_then section_tests bytes 1116 65536
    and_then end_tests (length (drop 66656 bytes))
    and_then value_tests (get_or bytes 50 0) (get_or bytes 51 0)

-- a target for VRAM of another length is refused 2, for colour memory 3, for sprite memory 4
abbrev pub target_tests : ℕ → ℕ → ℕ → Answer Unit
target_tests words colours bytes =
    provided (eqb words 32768) 2 (provided (eqb colours 256) 3 (provided (eqb bytes 544) 4 (value tt)))

-- the n bytes of the section whose body begins at byte k
abbrev pub body_at : List ℕ → ℕ → ℕ → List ℕ
body_at bytes k n = take n (drop k bytes)

-- what the file holds
abbrev pub scene_of : List ℕ → Scene
scene_of bytes = record {
  regs = registers_of (body_at bytes 4 48);
  vram = words_of 32768 (body_at bytes 1120 65536);
  cgram = words_of 256 (body_at bytes 604 512);
  oam = body_at bytes 56 544;
}

-- what reading a file leaves of the targets v, g and o: its contents, or on a refusal what they were, beside cleared registers
abbrev pub read_outcome : List ℕ → List ℕ → List ℕ → List ℕ → Outcome Unit Scene
read_outcome bytes v g o =
    outcome (target_tests (length v) (length g) (length o) and_then scene_tests bytes) tt (scene_of bytes) (scene cleared v g o)
