use Rattle.line_laying.proofs.Screens.{by_mask, bars_main, bars_sub}
use mathlib.Core.Bool.{◌||◌}
use mathlib.Core.Path.{◌∙◌}
use Rattle.line_laying.proofs.inner.lay.Goals as goal

pub returns : goal.returns
returns c =
    let a = c.args in
    let s = a.s in
    let on = s.win_main || s.win_sub in
    let main =
    c.lay_screen.ensures
    ∙ by_mask s.to_main s.win_main on s.window a.row.now a.main.now c.mask-mask.ensures
    (bars_main s.win_main s.win_sub) in
    let sub =
    c.lay_screen-2.ensures
    ∙ by_mask s.to_sub s.win_sub on s.window a.row.now a.sub.now c.mask-mask.ensures
    (bars_sub s.win_main s.win_sub) in
    record { main = main; sub = sub }
