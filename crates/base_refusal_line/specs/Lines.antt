-- A refusal's line: "refused", a space, the number in decimal, and a newline.
use Rattle.std.specs.Prelude.{ℕ, ◌+◌, ◌/◌, ◌%◌, ◌≡◌, Bool, cond, List, [], ◌∷◌, ltb, take}
use Rattle.io.specs.Counts.{IsPrefixLen}
use Rattle.base_refusal_line.specs.declared.Line.{Line}

-- the line of a number below 100, which has one digit or not
abbrev pub spelling : Bool → ℕ → List ℕ
spelling one n =
    114 ∷ 101 ∷ 102 ∷ 117 ∷ 115 ∷ 101 ∷ 100 ∷ 32 ∷ cond one ((48 + n) ∷ 10 ∷ []) ((48 + n / 10) ∷ (48 + n % 10) ∷ 10 ∷ [])

abbrev pub refused_line : ℕ → List ℕ
refused_line n = spelling (ltb n 10) n

-- a line is the first bytes of its text
pub record Spelt (line : Line) (bytes : List ℕ) : Type 0 where
  pub fits : IsPrefixLen line.size line.text
  pub is : take line.size line.text ≡ bytes
