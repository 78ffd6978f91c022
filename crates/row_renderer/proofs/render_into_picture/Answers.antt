use Prim.Native.Nat.{◌+◌, ◌*◌}
use mathlib.Core.Path.{ap, ◌∙◌}
use mathlib.Core.List.{◌++◌}
use native.Mathlib.Omega.{arith}
use lib.ListN.{take}
use borrow.Rule.Slice.PartMut.{Post-is}
use Rattle.base_refusal.specs.Answer.{Answer, value, outcome}
use Rattle.registers.specs.Scene.{scene}
use Rattle.row_renderer.specs.Renderer.{scene_row, with_row}
use Rattle.row_renderer.proofs.render_into_picture.Goals as goal

pub returns : goal.returns
unfolding with_row
returns c =
    let a = c.args in
    let start = c.in_ok-memory.y.number * 768 in
    let p = a.picture.now in
    let told = c.in_ok-memory.ensures in
    let lends = told.held.0 in
    let same = told.held.1.0 in
    let row = c.draw.ensures ∙ (λ i. scene_row (scene a.r (lends.vram_is i) (lends.cgram_is i) (lends.oam_is i)) (same i)) in
    let bytes = scene_row (scene a.r a.vram.now a.cgram.now a.oam.now) a.y in
    (λ i. record { said = value tt; left = take start p ++ (row i ++ Post-is start (start + 768) p (omega arith) i) })
    ∙ ((λ i. record { said = value tt; left = with_row p (same i) bytes })
    ∙ ap (λ (t : Answer Unit). outcome t tt (with_row p a.y bytes) p) told.said)
