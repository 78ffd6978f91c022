-- A background's parameters are of a background.
use Rattle.std.specs.Prelude.{ℕ, ◌<◌, Bool, true, false, cond, eqb}
use Rattle.std.proofs.Common.{arith}
use Rattle.registers.specs.declared.PPURegisters.{PPURegisters}
use Rattle.line_pixels.specs.declared.Layer.TheVariants.{Bg1, Bg2, Bg3, Bg4}
use Rattle.line_pixels.specs.Pixels.{background_of}
use Rattle.bg_modes.specs.Modes.{params_of}

low_layer : (z o t : Bool) → background_of (cond z Bg1 (cond o Bg2 (cond t Bg3 Bg4))) < 4
low_layer true o t = omega arith
low_layer false true t = omega arith
low_layer false false true = omega arith
low_layer false false false = omega arith

pub own_number : (r : PPURegisters) (b : ℕ) → background_of (params_of r b).layer < 4
unfolding params_of
own_number r b = low_layer (eqb b 0) (eqb b 1) (eqb b 2)
