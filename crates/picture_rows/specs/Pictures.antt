-- Two pictures and the chosen one's row.
use Rattle.std.specs.Prelude.{ℕ, ◌+◌, ◌*◌, cond, ◌&&◌, List, [], length, take, drop, ltb, eqb}
use Rattle.std.specs.Borrow.{Bor}
use Rattle.base_refusal.specs.Answer.{Answer, value, refused}
use Rattle.row_tests.specs.Tests.{part_tests}

-- a row above 223 is refused 1, a picture of another length 5, a choice above 1 7
abbrev pub picture_tests : ℕ → ℕ → ℕ → ℕ → Answer Unit
picture_tests first second choice y = part_tests y (eqb first 172032 && eqb second 172032) (ltb choice 2)

-- what a lent slice is: its bytes, and the place in memory where they lie
pub record Lent : Type 0 where
  pub bytes : List ℕ
  pub place : ℕ × ℕ

abbrev pub lent : Bor (List ℕ) → Lent
lent s = record { bytes = s.now; place = s.ref_ptr }

-- row y of a picture: its part of 768 bytes from y x 768
abbrev pub row_part : List ℕ → ℕ → List ℕ
row_part picture y = take 768 (drop (y * 768) picture)

abbrev pub part_of : Lent → ℕ → Lent
part_of picture y = record { bytes = row_part picture.bytes y; place = (picture.place.0, y * 768 + picture.place.1) }

-- an empty part, at its start
abbrev pub empty_part : Lent → Lent
empty_part picture = record { bytes = []; place = picture.place }

-- the part, or an empty one on a refusal
abbrev pub handed : Answer Unit → Lent → Lent → Lent
handed (value _) part empty = part
handed (refused n) part empty = empty

-- the chosen picture's row, as its own part
unfoldable pub picture_row : Lent → Lent → ℕ → ℕ → Lent
picture_row first second choice y =
    handed (picture_tests (length first.bytes) (length second.bytes) choice y)
    (part_of (cond (eqb choice 0) first second) y)
    (empty_part first)
