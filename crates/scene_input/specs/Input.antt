-- What is read of a scene, section by section. No contract says which bytes a read brings; so what is said here is said of some
-- bytes, those that the reads brought, one after another, and of every input that begins with them.
use Rattle.std.specs.Prelude.{ℕ, ◌≡◌, Bool, true, List, [], ◌++◌, Result}
use Rattle.base_refusal.specs.Answer.{Answer}
use Rattle.base_refusal.specs.Results.{means, Passed}
use Rattle.base_refusal.specs.declared.Refusal.{Refusal}
use Rattle.registers.specs.Scene.{scene}
use Rattle.scene_bytes.specs.Bytes.{registers_of}
use Rattle.scene_file.specs.File.{scene_tests, scene_of}

-- what may follow in an input: nothing, where a read brought less than it asked for
abbrev pub Follows : Bool → List ℕ → Type 0
Follows ended more = ended ≡ true → more ≡ []

-- some bytes were read, and whatever follows them the verdict is what the tests say of the input, and where it passes the input
-- is held
pub record ReadAs (tests : List ℕ → Answer Unit) (held : List ℕ → Type 0) (v : Result Unit Refusal) : Type 0 where
  pub bytes : List ℕ
  pub ended : Bool
  pub said : (more : List ℕ) → Follows ended more → means v ≡ tests (bytes ++ more)
  pub holds : (more : List ℕ) → Follows ended more → Passed v → held (bytes ++ more)

-- a scene: the verdict is the file reader's, and where it passes the memories hold what the file reader leaves
abbrev pub SceneRead : List ℕ → List ℕ → List ℕ → List ℕ → Result Unit Refusal → Type 0
SceneRead registers oam cgram vram v =
    ReadAs scene_tests (λ input. scene (registers_of registers) vram cgram oam ≡ scene_of input) v
