-- What a row is drawn from, lent.
use Rattle.registers.specs.declared.PPURegisters.{PPURegisters}
use Rattle.registers.specs.Scene.{Scene, scene}
use Rattle.row_tests.specs.declared.inner.Memory.{Memory}

-- the scene that the registers and the lent memories make
abbrev pub lent_scene : PPURegisters → Memory → Scene
lent_scene r m = scene r m.vram.now m.cgram.now m.oam.now
