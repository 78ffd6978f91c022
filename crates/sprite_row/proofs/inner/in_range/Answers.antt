use Rattle.std.proofs.Common.{w16}
use Rattle.base_signed.proofs.Signed.{remainder_of}
use Rattle.sprite_row.proofs.Row.{misses, meets}
use Rattle.sprite_row.proofs.inner.in_range.Goals as goal

pub returns-then-sprite_line-lines : goal.returns-then-sprite_line-lines
returns-then-sprite_line-lines c = let a = c.args in
    meets a.row a.objsel a.obj_interlace a.s c.sprite_size-size.ensures.0 c.lines.ensures c.sprite_line.ensures c.if-sprite_line-lines.true
    (remainder_of w16 a.s.x 512 c.struct_told-1.given.0.1 c.nine_bits.ensures.0) c.passed_over.ensures

pub returns-else-sprite_line-lines : goal.returns-else-sprite_line-lines
returns-else-sprite_line-lines c = let a = c.args in
    misses a.row a.objsel a.obj_interlace a.s c.sprite_size-size.ensures.0 c.lines.ensures c.sprite_line.ensures c.if-sprite_line-lines.false
