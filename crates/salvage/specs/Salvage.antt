-- What salvage says of a file: the changes, in their order, and what it leaves of an output.
use Rattle.std.specs.Prelude.{ℕ, ◌-◌, cond, List, [], ◌∷◌, ◌++◌, length, get_or, eqb, ltb}
use Rattle.base_refusal.specs.Answer.{Answer, value, provided, Outcome, outcome}
use Rattle.base_lists.specs.Places.{places}
use Rattle.scene_file.specs.File.{count_at}
use Rattle.salvage_bytes.specs.Bytes.{scene_length, resized, right_counter, right_field, salvaged}
use Rattle.salvage.specs.declared.Kind.{Kind}
use Rattle.salvage.specs.declared.Kind.TheVariants.{Cut, Fill, Count, Value}
use Rattle.salvage.specs.declared.Change.{Change}
use Rattle.salvage.specs.declared.Changes.{Changes}

-- what is said of a file of n bytes: how many are filled in, or cut off
abbrev pub length_changes : ℕ → List Change
length_changes n =
    cond (ltb n scene_length) (record { kind = Fill; first = n; bytes = scene_length - n; old = 0; new = 0 } ∷ [])
    (cond (ltb scene_length n) (record { kind = Cut; first = scene_length; bytes = n - scene_length; old = 0; new = 0 } ∷ []) [])

-- of n bytes from byte k on, where old stands and new has to: nothing, if they are the same
abbrev pub number_changes : Kind → ℕ → ℕ → ℕ → ℕ → List Change
number_changes kind k n old new =
    cond (eqb old new) [] (record { kind = kind; first = k; bytes = n; old = old; new = new } ∷ [])

abbrev pub count_changes : List ℕ → ℕ → ℕ → List Change
count_changes bytes k new = number_changes Count k 4 (count_at bytes k) new

abbrev pub value_changes : List ℕ → ℕ → ℕ → List Change
value_changes bytes k new = number_changes Value k 1 (get_or bytes k 0) new

-- of the counts and values of a file that has its length
unfoldable pub place_changes : List ℕ → List Change
place_changes bytes =
    count_changes bytes 0 48
    ++ count_changes bytes 52 544
    ++ count_changes bytes 600 512
    ++ count_changes bytes 1116 65536
    ++ value_changes bytes 50 (right_counter bytes)
    ++ value_changes bytes 51 (right_field bytes)

-- all changes in their order: old is what stands there after the fill
abbrev pub changes_of : List ℕ → List Change
changes_of file = length_changes (length file) ++ place_changes (resized file)

-- what stands in a place that holds no change
abbrev pub blank_change : Change
blank_change = record { kind = Cut; first = 0; bytes = 0; old = 0; new = 0 }

-- a list of changes in its 7 places
unfoldable pub listed : List Change → Changes
listed l = record { list = places 7 blank_change l; count = length l }

-- an output of another length is refused 12
abbrev pub output_tests : ℕ → Answer Unit
output_tests n = provided (eqb n scene_length) 12 (value tt)

-- the output, and the changes beside it
pub record Salvage : Type 0 where
  pub bytes : List ℕ
  pub changes : Changes

-- what salvaging a file leaves of an output: the scene, or on a refusal what it was and no change
abbrev pub salvage_outcome : List ℕ → List ℕ → Outcome Unit Salvage
salvage_outcome file out =
    outcome (output_tests (length out)) tt (record { bytes = salvaged file; changes = listed (changes_of file) })
    (record { bytes = out; changes = listed [] })
