-- Mosaic.
use Rattle.std.specs.Prelude.{ℕ, ◌+◌, ◌/◌, Bool, cond, ℤ, pos, ◌-ℤ◌, leb}
use Rattle.base_refusal.specs.Answer.{Answer, provided}
use Rattle.registers.specs.declared.PPURegisters.{PPURegisters}
use Rattle.registers.specs.Bits.{bit_of}

-- the high nibble + 1
abbrev pub mosaic_size : PPURegisters → ℕ
mosaic_size r = r.mosaic / 16 + 1

abbrev pub mosaic_on : PPURegisters → ℕ → Bool
mosaic_on r b = bit_of r.mosaic b

-- size - counter, below zero where the counter is larger
abbrev pub voffset : PPURegisters → ℤ
voffset r = pos (mosaic_size r) -ℤ pos r.mosaic_vcounter

-- with mosaic on, block = size and offset = size - counter; otherwise 1 and 0
abbrev pub block_if : Bool → PPURegisters → ℕ
block_if on r = cond on (mosaic_size r) 1

abbrev pub offset_if : Bool → PPURegisters → ℤ
offset_if on r = cond on (voffset r) (pos 0)

-- the same for background b
abbrev pub block_of : PPURegisters → ℕ → ℕ
block_of r b = block_if (mosaic_on r b) r

abbrev pub offset_of : PPURegisters → ℕ → ℤ
offset_of r b = offset_if (mosaic_on r b) r

-- a counter above 16 is refused 6
abbrev pub counted : {A : Type 0} → PPURegisters → Answer A → Answer A
counted r a = provided (leb r.mosaic_vcounter 16) 6 a
