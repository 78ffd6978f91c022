-- What is handed back, by what the tests said.
use Prim.Native.Nat.{ℕ, ◌+◌, ◌-◌, ◌*◌}
use mathlib.Core.Path.{◌≡◌, sym, ap, ◌∙◌}
use mathlib.Core.Bool.{cond}
use native.Mathlib.Omega.{arith}
use lib.Dec.{eqb}
use lib.ListN.{length, take, drop}
use Rattle.base_refusal.specs.declared.Refusal.{Refusal}
use Rattle.std.specs.Prelude.{Result, Ok, Err}
use Rattle.base_refusal.specs.steps.Said.{said_of}
use Rattle.registers.specs.declared.screen_row.ScreenRow.{ScreenRow}
use Rattle.picture_rows.specs.Pictures.{picture_tests, Lent, part_of, empty_part, handed, picture_row}

-- the part from y x 768 to its end, as the code has it
abbrev pub cut : Lent → ℕ → Lent
cut p y = record { bytes = take (y * 768 + 768 - y * 768) (drop (y * 768) p.bytes); place = (p.place.0, y * 768 + p.place.1) }

module _ (first second : Lent) (choice y : ℕ) (v : Result ScreenRow Refusal)
    (tests : said_of v ≡ picture_tests (length first.bytes) (length second.bytes) choice y) where
  -- the chosen picture's part
  pub fine_row : (p : Lent) {row : ScreenRow} → v ≡ Ok row → row.number ≡ y → p ≡ cond (eqb choice 0) first second →
      cut p row.number ≡ picture_row first second choice y
  unfolding picture_row
  fine_row p {row} e is c =
      let n = row.number in
      let long : n * 768 + 768 - n * 768 ≡ 768 = omega arith in
      (λ i. record { bytes = take (long i) (drop (n * 768) (c i).bytes); place = ((c i).place.0, n * 768 + (c i).place.1) })
      ∙ (λ i. handed ((sym (ap said_of e) ∙ tests) i) (part_of (cond (eqb choice 0) first second) (is i)) (empty_part first))

  -- or an empty one
  pub no_row : {n : Refusal} → v ≡ Err n → empty_part first ≡ picture_row first second choice y
  unfolding picture_row
  no_row e = λ i. handed ((sym (ap said_of e) ∙ tests) i) (part_of (cond (eqb choice 0) first second) y) (empty_part first)
