-- What is read of the whole screen.
use Rattle.std.specs.Prelude.{ℕ, ◌%◌, Bool, false, replicate, ltb}
use Rattle.base_refusal.specs.Answer.{Answer, value, provided}
use Rattle.registers.specs.declared.PPURegisters.{PPURegisters}
use Rattle.registers.specs.Bits.{bit_of}

-- every register 0, the counter 0, the field even
abbrev pub cleared : PPURegisters
cleared = record {
  inidisp = 0;
  objsel = 0;
  oamadd = 0;
  bgmode = 0;
  mosaic = 0;
  bgsc = replicate 4 0;
  bg12nba = 0;
  bg34nba = 0;
  bg1hofs = 0;
  bghofs = replicate 3 0;
  bg1vofs = 0;
  bgvofs = replicate 3 0;
  w12sel = 0;
  w34sel = 0;
  wobjsel = 0;
  wh0 = 0;
  wh1 = 0;
  wh2 = 0;
  wh3 = 0;
  wbglog = 0;
  wobjlog = 0;
  tm = 0;
  ts = 0;
  tmw = 0;
  tsw = 0;
  cgwsel = 0;
  cgadsub = 0;
  coldata = 0;
  setini = 0;
  mosaic_vcounter = 0;
  field = false;
}

abbrev pub mode_of : PPURegisters → ℕ
mode_of r = r.bgmode % 8

abbrev pub direct_colour_set : PPURegisters → Bool
direct_colour_set r = bit_of r.cgwsel 0

abbrev pub blanked : PPURegisters → Bool
blanked r = bit_of r.inidisp 7

abbrev pub brightness_of : PPURegisters → ℕ
brightness_of r = r.inidisp % 16

abbrev pub sprite_interlace : PPURegisters → Bool
sprite_interlace r = bit_of r.setini 1

-- a layer's bit of tm, ts, tmw or tsw; layers are 0 to 4
abbrev pub layer_bit : ℕ → ℕ → Answer Bool
layer_bit v layer = provided (ltb layer 5) 7 (value (bit_of v layer))
