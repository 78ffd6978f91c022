-- Both lines are whole.
use Rattle.std.specs.Prelude.{◌≡◌, length}
use Rattle.line_pixels.specs.declared.Lines.{Lines}

-- both lines have their 256 pixels
abbrev pub FullLines : Lines → Type 0
FullLines l = (length l.main ≡ 256) × (length l.sub ≡ 256)
