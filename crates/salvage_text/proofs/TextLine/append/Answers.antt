use Rattle.std.specs.Prelude.{◌+◌, ◌-◌, ◌≡◌, ◌++◌, length, refl}
use Rattle.std.proofs.Common.{arith}
use Rattle.salvage_text.specs.steps.Text.{written}
use Rattle.salvage_text.proofs.Lines.{line_made, line_longer}
use Rattle.salvage_text.proofs.TextLine.append.Goals as goal

pub returns : goal.returns
returns c =
    let line = c.args.self.now in
    let bytes = c.args.bytes.now in
    let long : line.size + length bytes - line.size ≡ length bytes = omega arith in
    let made = line_made (written line ++ bytes) (line_longer line bytes c.requires.0 c.requires.1) in
    rw (long, c.copy_from_slice.ensures.after) (made.0, (refl, made.1))
