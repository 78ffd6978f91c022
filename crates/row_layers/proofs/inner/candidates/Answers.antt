use mathlib.Core.Path.{◌∙◌}
use Rattle.line_laying.specs.Laying.{candidates_of}
use Rattle.bg_row.specs.Row.{bg_pixel}
use Rattle.bg_layer.specs.Background.{bg_shown_by}
use Rattle.row_tests.specs.Memory.{lent_scene}
use Rattle.row_layers.specs.Layers.{bg_shown, bg_at}
use Rattle.row_layers.specs.theorems.Numbers.{shown_low, pixel_low, shown_four, pixel_four}
use Rattle.row_layers.proofs.Numbers.{is_four}
use Rattle.row_layers.proofs.inner.candidates.Goals as goal

pub returns-in-Ok : goal.returns-in-Ok
returns-in-Ok c =
    let a = c.args in
    let m = a.memory in
    let s = lent_scene a.r m in
    let n = c.in-Ok.ensures in
    let p = c.bg_params-p.ensures in
    c.candidates.ensures
    ∙ ((λ i. candidates_of (bg_shown_by a.r (p i)) a.x (bg_pixel m.vram.now m.cgram.now a.r (p i) a.y.number a.x))
    ∙ ((λ i. candidates_of (bg_shown s (n.0 i)) a.x (bg_at s a.y.number (n.0 i) a.x))
    ∙ (λ i. candidates_of (shown_low s a.layer n.1 i) a.x (pixel_low s a.y.number a.layer n.1 i a.x))))

pub returns-in-Err : goal.returns-in-Err
returns-in-Err c =
    let a = c.args in
    let s = lent_scene a.r a.memory in
    let last = is_four a.layer c.in-Err.ensures.1 c.requires.1 in
    c.candidates-in-Err.ensures
    ∙ (λ i. candidates_of (shown_four s a.layer last i) a.x (pixel_four s a.y.number a.layer last i a.x))
