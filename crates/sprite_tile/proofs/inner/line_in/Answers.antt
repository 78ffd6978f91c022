use native.Mathlib.Omega.{arith}
use mathlib.Core.Path.{◌≡◌, sym, subst, ◌∙◌}
use mathlib.Core.Bool.{◌&&◌}
use Prim.Native.Nat.{ℕ, ◌<◌}
use Rattle.sprite_row.specs.SpriteRow.{line_of}
use Rattle.sprite_tile.specs.Tile.{doubled, flipped_in, moved, line_in}
use Rattle.sprite_tile.proofs.Laws.{can_step}
use Rattle.sprite_tile.proofs.inner.line_in.Goals as goal
use Rattle.sprite_tile.proofs.inner.line_in.Goals.{After-step, After-struct_known-2-1}

-- the line after a flip
flipped-1 : (c : After-step) →
    let a = c.args in
    c.flip-shown.result ≡ flipped_in a.size.width a.s.flip_y (doubled a.view.obj_interlace (line_of a.view.row a.s.y))
flipped-1 c =
    let a = c.args in
    c.flip-shown.ensures.0
    ∙ (λ i. flipped_in a.size.width a.s.flip_y ((c.double-twice.ensures.0 ∙ (λ j. doubled a.view.obj_interlace (c.sprite_line-line.ensures j))) i))

-- the line after a flip
flipped-2 : (c : After-struct_known-2-1) →
    let a = c.args in
    c.flip-shown.result ≡ flipped_in a.size.width a.s.flip_y (doubled a.view.obj_interlace (line_of a.view.row a.s.y))
flipped-2 c =
    let a = c.args in
    c.flip-shown.ensures.0
    ∙ (λ i. flipped_in a.size.width a.s.flip_y ((c.double-twice.ensures.0 ∙ (λ j. doubled a.view.obj_interlace (c.sprite_line-line.ensures j))) i))

pub step-requires : goal.step-requires
step-requires c =
    let a = c.args in
    let w : 0 < a.size.width = omega (arith, c.requires.wide) in
    let above = can_step a.view.obj_interlace a.view.field a.s.flip_y a.size.width (line_of a.view.row a.s.y) w c.requires.whole in
    (c.flip-shown.ensures.1, λ o e. subst (λ (n : ℕ). 0 < n) (sym (flipped-2 c)) (above o e))

pub returns : goal.returns
unfolding line_in
returns c =
    let a = c.args in
    (c.step.ensures.0 ∙ (λ i. moved (a.view.obj_interlace && a.view.field) a.s.flip_y (flipped-1 c i)), c.step.ensures.1)
