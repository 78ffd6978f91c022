use Rattle.std.proofs.Common.{rules, ◌∙◌, arith, length, ◌+◌, ◌≤◌}
use Rattle.packed_pixels.proofs.Part.{part_is}
use Rattle.packed_pixels.proofs.inner.from_column.Goals as goal

pub returns : goal.returns
returns g c =
    let a = c.args in
    let h : a.from + 256 ≤ length a.line.now = omega (arith, c.requires, c.told-line) in
    c.copy_from_slice.ensures.after ∙ part_is a.line.now a.from 256 0 h
