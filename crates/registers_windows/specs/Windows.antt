-- The windows of the registers.
use Rattle.std.specs.Prelude.{ℕ, ◌*◌, ◌/◌, ◌%◌, ◌^◌, ltb}
use Rattle.base_refusal.specs.Answer.{Answer, provided}
use Rattle.registers.specs.declared.PPURegisters.{PPURegisters}
use Rattle.registers.specs.Bits.{bit_of, nibble_of}
use Rattle.line_window.specs.declared.Window.{Window}

-- the four bits, lowest first: invert 1, enable 1, invert 2, enable 2
unfoldable pub window_of : PPURegisters → ℕ → ℕ → Window
window_of r sel logic = record {
  left1 = r.wh0;
  right1 = r.wh1;
  left2 = r.wh2;
  right2 = r.wh3;
  invert1 = bit_of sel 0;
  enable1 = bit_of sel 1;
  invert2 = bit_of sel 2;
  enable2 = bit_of sel 3;
  logic = logic;
}

-- w12sel holds BG1 low and BG2 high, w34sel BG3 and BG4; logic is wbglog bits 2b and 2b+1
abbrev pub bg_window : PPURegisters → ℕ → Window
bg_window r b = window_of r (nibble_of r.w12sel r.w34sel b) (r.wbglog / 2 ^ (2 * b) % 4)

-- wobjsel holds sprites and colour; wobjlog bits 0-1 are for sprites and 2-3 for colour
abbrev pub sprite_window : PPURegisters → Window
sprite_window r = window_of r (r.wobjsel % 16) (r.wobjlog % 4)

abbrev pub colour_window : PPURegisters → Window
colour_window r = window_of r (r.wobjsel / 16) (r.wobjlog / 4 % 4)

-- a column above 255 is refused 7
abbrev pub at_column : {A : Type 0} → ℕ → Answer A → Answer A
at_column x a = provided (ltb x 256) 7 a
