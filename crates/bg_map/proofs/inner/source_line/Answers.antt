use Rattle.bg_map.proofs.Lines.{less_fits, scrolled_fits, line_of}
use Rattle.bg_map.specs.Source.{source_line}
use Rattle.base_signed.proofs.Signed.{widens}
use Rattle.base_signed.specs.Remainder.{remainder}
use lib.IntN.{pos, ◌+ℤ◌, ◌-ℤ◌}
use Prim.Native.Nat.{ℕ, ◌+◌, ◌<◌}
use mathlib.Core.Path.{subst, ◌∙◌}
use native.Mathlib.Omega.{arith}
use Rattle.bg_map.proofs.inner.source_line.Goals as goal

pub overflow_cast-offset : goal.overflow_cast-offset
overflow_cast-offset c = widens c.voffset-offset.result c.voffset-offset.type_inv

pub overflow_sub-line : goal.overflow_sub-line
overflow_sub-line c =
    let a = c.args in
    less_fits (a.y.number + 1) 0 c.voffset-offset.result (omega arith) (omega arith) c.voffset-offset.type_inv

pub overflow_add-line-2 : goal.overflow_add-line-2
overflow_add-line-2 c =
    let a = c.args in
    scrolled_fits (a.y.number + 1) a.p.scroll_y c.voffset-offset.result (omega arith) (omega arith) c.voffset-offset.type_inv

pub returns : goal.returns
unfolding source_line
returns c =
    let h = c.extent-height in
    let a = c.args in
    let line =
    line_of (a.y.number + 1) a.p.scroll_y c.voffset-offset.result (omega arith) (omega arith) c.voffset-offset.type_inv h.result
    c.rem_euclid.ensures.0
    ∙ (λ i. remainder ((pos (a.y.number + 1) -ℤ c.voffset-offset.ensures i) +ℤ pos a.p.scroll_y) (h.ensures.0 i)) in
    (line, subst (λ (k : ℕ). c.rem_euclid.result < k) h.ensures.0 c.rem_euclid.ensures.1)
