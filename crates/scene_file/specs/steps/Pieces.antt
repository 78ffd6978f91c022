-- The tests of a scene file that is read section by section, piece by piece: the bytes of a count that there were, and how many
-- of a body there were.
use Rattle.std.specs.Prelude.{ℕ, List, length, get_or, eqb, leb}
use Rattle.base_refusal.specs.Answer.{Answer, value, provided}
use Rattle.scene_file.specs.File.{count_at, value_tests}

-- what is said of a section of n bytes by its count's bytes, and by the number of its body's
unfoldable pub count_tests : ℕ → List ℕ → Answer Unit
count_tests n count = provided (leb 4 (length count)) 9 (provided (eqb (count_at count 0) n) 8 (value tt))

unfoldable pub body_tests : ℕ → ℕ → Answer Unit
body_tests n got = provided (leb n got) 9 (value tt)

-- of the values in the registers' section, by its bytes: the counter's is the last but one, the field's the last
abbrev pub values_in : List ℕ → Answer Unit
values_in body = value_tests (get_or body 46 0) (get_or body 47 0)
