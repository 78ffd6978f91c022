-- A scene without bit 15 of its colours.
use Rattle.std.specs.Prelude.{ℕ, ◌%◌, map}
use Rattle.registers.specs.Replaced.{with_coldata}
use Rattle.registers.specs.Scene.{Scene}

-- a colour with bit 15 cleared
abbrev pub low15 : ℕ → ℕ
low15 c = c % 32768

-- a scene with bit 15 of every colour cleared: of each word of colour memory, and of coldata
abbrev pub plain : Scene → Scene
plain s = record {
  regs = with_coldata (low15 s.regs.coldata) s.regs;
  vram = s.vram;
  cgram = map low15 s.cgram;
  oam = s.oam;
}
