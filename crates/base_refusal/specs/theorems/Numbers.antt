-- No two refusals share a number.
use Rattle.std.specs.Prelude.{ℕ, ◌≡◌, refl, cond, eqb}
use Rattle.std.proofs.Common.{sym, ap, ◌∙◌}
use Rattle.base_refusal.specs.declared.Refusal.{Refusal}
use Rattle.base_refusal.specs.declared.Refusal.TheVariants.{Row, Vram, Colour, Oam, Lent, Counter, Argument, SectionCount, SceneCut, SceneLonger, FieldByte, Output}
use Rattle.base_refusal.specs.Numbers.{number_of}

-- the refusal of each number, by the same table read backwards
refusal_of : ℕ → Refusal
refusal_of n =
    cond (eqb n 1) Row
    (cond (eqb n 2) Vram
    (cond (eqb n 3) Colour
    (cond (eqb n 4) Oam
    (cond (eqb n 5) Lent
    (cond (eqb n 6) Counter
    (cond (eqb n 7) Argument
    (cond (eqb n 8) SectionCount
    (cond (eqb n 9) SceneCut
    (cond (eqb n 10) SceneLonger
    (cond (eqb n 11) FieldByte Output))))))))))

back : (r : Refusal) → refusal_of (number_of r) ≡ r
unfolding refusal_of
back Row = refl
back Vram = refl
back Colour = refl
back Oam = refl
back Lent = refl
back Counter = refl
back Argument = refl
back SectionCount = refl
back SceneCut = refl
back SceneLonger = refl
back FieldByte = refl
back Output = refl

-- no two refusals share a number, so a number settles the refusal
pub one_number : (a b : Refusal) → number_of a ≡ number_of b → a ≡ b
one_number a b e = sym (back a) ∙ (ap refusal_of e ∙ back b)
