-- What a row is drawn from: the registers and the three memories.
use Rattle.std.specs.Prelude.{ℕ, List}
use Rattle.registers.specs.declared.PPURegisters.{PPURegisters}

pub record Scene : Type 0 where
  pub regs : PPURegisters
  pub vram : List ℕ
  pub cgram : List ℕ
  pub oam : List ℕ

abbrev pub scene : PPURegisters → List ℕ → List ℕ → List ℕ → Scene
scene r v g o = record { regs = r; vram = v; cgram = g; oam = o }
