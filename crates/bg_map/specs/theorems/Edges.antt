-- The edges of the rules on maps.
use Rattle.std.specs.Prelude.{◌≡◌, refl, true, false, cond, pos, ◌+ℤ◌, ◌-ℤ◌}
use Rattle.base_signed.specs.Remainder.{remainder}
use Rattle.registers.specs.declared.PPURegisters.{PPURegisters}
use Rattle.registers_mosaic.specs.Mosaic.{mosaic_size}
use Rattle.bg_map.specs.declared.BgParams.{BgParams}
use Rattle.bg_map.specs.Source.{extent_of, source_line}
use Rattle.bg_map.specs.Map.{entry_of}

-- entry 0xC403: tile 3, palette 1, low, both flips
pub entry_C403 : entry_of 0xC403 ≡ record { tile = 3; palette = 1; high = false; flip_x = true; flip_y = true }
entry_C403 = refl

-- mosaic size 4, counter 1, y 0, scroll 0, height 256: line 254
pub line_254 : (r : PPURegisters) (p : BgParams) → mosaic_size r ≡ 4 → r.mosaic_vcounter ≡ 1 → p.mosaic ≡ true →
    p.scroll_y ≡ 0 → extent_of p.h64 p.tile16 ≡ 256 → source_line r p 0 ≡ 254
unfolding source_line
line_254 r p size counter on scroll height =
    λ i. remainder ((pos 1 -ℤ cond (on i) (pos (size i) -ℤ pos (counter i)) (pos 0)) +ℤ pos (scroll i)) (height i)
