-- What is said of the bytes that were read, handed on.
use Prim.Native.Nat.{ℕ}
use mathlib.Core.Path.{◌≡◌, sym, ap, ◌∙◌}
use mathlib.Core.List.{List}
use Rattle.base_refusal.specs.Answer.{Answer}
use Rattle.std.specs.Prelude.{Result, Ok}
use Rattle.base_refusal.specs.Results.{means}
use Rattle.base_refusal.specs.theorems.Results.{passed}
use Rattle.base_refusal.specs.declared.Refusal.{Refusal}
use Rattle.scene_input.specs.Input.{ReadAs}

-- what was read passed
pub read_ok : {tests : List ℕ → Answer Unit} {held : List ℕ → Type 0} {v : Result Unit Refusal} → ReadAs tests held v → v ≡ Ok tt →
    ReadAs tests held (Ok tt)
read_ok r e = record {
  bytes = r.bytes;
  ended = r.ended;
  said = λ more f. sym (ap means e) ∙ r.said more f;
  holds = λ more f p. r.holds more f (passed e);
}

-- what is said of the bytes that were read is handed on
pub read_told : {tests : List ℕ → Answer Unit} {held : List ℕ → Type 0} {v w : Result Unit Refusal} → ReadAs tests held v →
    means w ≡ means v → ReadAs tests (λ bytes. Unit) w
read_told r e = record {
  bytes = r.bytes;
  ended = r.ended;
  said = λ more f. e ∙ r.said more f;
  holds = λ more f p. tt;
}
