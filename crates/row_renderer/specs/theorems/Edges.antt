-- The edges of the rules hold.
use Rattle.std.specs.Prelude.{refl}
use Rattle.colour.specs.Colour.{direct_colour, light, at_brightness}
use Rattle.bg_map.specs.theorems.Edges.{entry_C403, line_254}
use Rattle.sprite_layer.specs.theorems.Edges.{sprite_edges}
use Rattle.row_renderer.specs.Edges.{Edges}

-- They hold.
pub edges : Edges
unfolding direct_colour at_brightness light
edges =
    record {
      sprites = sprite_edges;
      bright_7 = refl;
      bright_15 = refl;
      direct = refl;
      entry = entry_C403;
      line = line_254;
      add = refl;
    }
