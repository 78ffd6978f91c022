-- A scene's sections one after another: what is held after each.
use Rattle.std.specs.Prelude.{ℕ, ◌+◌, ◌≡◌, Bool, List, ◌++◌, length, take, drop, Result}
use Rattle.base_refusal.specs.Answer.{Answer, ◌and_then◌}
use Rattle.base_refusal.specs.Results.{means, Passed}
use Rattle.base_refusal.specs.declared.Refusal.{Refusal}
use Rattle.scene_bytes.specs.Bytes.{words_of}
use Rattle.scene_file.specs.File.{section_tests, end_tests}
use Rattle.scene_input.specs.Input.{Follows}

-- on the way: a section of n bytes from the first byte on, of whose body P holds
abbrev pub first_section : ℕ → List ℕ → Answer Unit
first_section n bytes = section_tests bytes 0 n

pub record SectionRead (n : ℕ) (P : List ℕ → Type 0) (v : Result Unit Refusal) : Type 0 where
  pub bytes : List ℕ
  pub ended : Bool
  pub said : (more : List ℕ) → Follows ended more → means v ≡ first_section n (bytes ++ more)
  pub long : Passed v → length bytes ≡ 4 + n
  pub holds : Passed v → P (drop 4 bytes)

-- a section of n bytes, and then others
abbrev pub section_then : ℕ → (List ℕ → Answer Unit) → List ℕ → Answer Unit
section_then n rest bytes = first_section n bytes and_then rest (drop (4 + n) bytes)

-- of whose body P holds, and Q of the others
abbrev pub held_then : ℕ → (List ℕ → Type 0) → (List ℕ → Type 0) → List ℕ → Type 0
held_then n P Q bytes = P (take n (drop 4 bytes)) × Q (drop (4 + n) bytes)

-- the tests from a section on, from the end back, and what the memories hold then
abbrev pub end_on : List ℕ → Answer Unit
end_on bytes = end_tests (length bytes)

abbrev pub vram_on : List ℕ → Answer Unit
vram_on = section_then 65536 end_on

abbrev pub HeldVram : List ℕ → List ℕ → Type 0
HeldVram vram = held_then 65536 (λ body. vram ≡ words_of 32768 body) (λ rest. Unit)

abbrev pub colours_on : List ℕ → Answer Unit
colours_on = section_then 512 vram_on

abbrev pub HeldColours : List ℕ → List ℕ → List ℕ → Type 0
HeldColours cgram vram = held_then 512 (λ body. cgram ≡ words_of 256 body) (HeldVram vram)

abbrev pub sprites_on : List ℕ → Answer Unit
sprites_on = section_then 544 colours_on

abbrev pub HeldSprites : List ℕ → List ℕ → List ℕ → List ℕ → Type 0
HeldSprites oam cgram vram = held_then 544 (λ body. body ≡ oam) (HeldColours cgram vram)

abbrev pub registers_on : List ℕ → Answer Unit
registers_on = section_then 48 sprites_on

abbrev pub HeldRegisters : List ℕ → List ℕ → List ℕ → List ℕ → List ℕ → Type 0
HeldRegisters registers oam cgram vram = held_then 48 (λ body. body ≡ registers) (HeldSprites oam cgram vram)
