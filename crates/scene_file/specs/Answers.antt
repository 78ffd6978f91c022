-- What the reader's answer means.
use Rattle.std.specs.Prelude.{ℕ, List, Result, Ok, Err}
use Rattle.base_refusal.specs.Answer.{Outcome, value, refused}
use Rattle.base_refusal.specs.Numbers.{number_of}
use Rattle.base_refusal.specs.declared.Refusal.{Refusal}
use Rattle.registers.specs.declared.PPURegisters.{PPURegisters}
use Rattle.registers.specs.Scene.{Scene, scene}
use Rattle.registers.specs.Screen.{cleared}

-- beside what the targets hold: the registers, which a refusal leaves cleared
abbrev pub scene_means : Result PPURegisters Refusal → List ℕ → List ℕ → List ℕ → Outcome Unit Scene
scene_means (Ok r) v g o = record { said = value tt; left = scene r v g o }
scene_means (Err n) v g o = record { said = refused (number_of n); left = scene cleared v g o }
