-- The meaning settles the answer: two answers of one meaning are one.
use Rattle.std.specs.Prelude.{ℕ, ◌≡◌, List, Result, Ok, Err}
use Rattle.base_refusal.specs.Results.{outcome_of}
use Rattle.base_refusal.specs.theorems.Settled.{one_outcome}
use Rattle.base_refusal.specs.declared.Refusal.{Refusal}
use Rattle.registers.specs.declared.PPURegisters.{PPURegisters}
use Rattle.registers.specs.Screen.{cleared}
use Rattle.scene_file.specs.Answers.{scene_means}

-- what is said and the registers, without the targets
registers_left : (a b : Result PPURegisters Refusal) (v g o : List ℕ) → scene_means a v g o ≡ scene_means b v g o →
    outcome_of cleared a ≡ outcome_of cleared b
registers_left (Ok r) (Ok s) v g o e = λ i. record { said = (e i).said; left = (e i).left.regs }
registers_left (Ok r) (Err n) v g o e = λ i. record { said = (e i).said; left = (e i).left.regs }
registers_left (Err n) (Ok s) v g o e = λ i. record { said = (e i).said; left = (e i).left.regs }
registers_left (Err n) (Err m) v g o e = λ i. record { said = (e i).said; left = (e i).left.regs }

-- the meaning settles the answer
pub one_scene : (a b : Result PPURegisters Refusal) (v g o : List ℕ) → scene_means a v g o ≡ scene_means b v g o → a ≡ b
one_scene a b v g o e = one_outcome cleared a b (registers_left a b v g o e)
