use mathlib.Core.Path.{sym, ap}
use mathlib.Core.Bool.{◌&&◌}
use Rattle.tiles.specs.Tiles.{pairs_of}
use Rattle.bg_tile.specs.Tile.{bg_colours, is_eight}
use Rattle.packed_background.proofs.Eight.{eight_shaded, eight_direct}
use Rattle.packed_background.proofs.inner.eight.Goals as goal

pub returns-in-Two : goal.returns-in-Two
returns-in-Two c =
    let a = c.args in
    let e = c.in-Two.is in
    eight_shaded a.vram.now (bg_colours a.g.now a.p.params a.t.palette) a.p.params a.t a.p.background c.bg_index.ensures c.new-head.ensures
    (ap pairs_of (sym e)) c.palette-colors.ensures (λ i. is_eight (e i) && a.direct) c.shaded.ensures

pub returns-in-Four : goal.returns-in-Four
returns-in-Four c =
    let a = c.args in
    let e = c.in-Four.is in
    eight_shaded a.vram.now (bg_colours a.g.now a.p.params a.t.palette) a.p.params a.t a.p.background c.bg_index.ensures c.new-head.ensures
    (ap pairs_of (sym e)) c.palette-colors.ensures (λ i. is_eight (e i) && a.direct) c.shaded-in-Four.ensures

pub returns-then-direct : goal.returns-then-direct
returns-then-direct c =
    let a = c.args in
    let e = c.in-Eight.is in
    eight_direct a.vram.now (bg_colours a.g.now a.p.params a.t.palette) a.p.params a.t a.p.background c.bg_index.ensures c.new-head.ensures
    (ap pairs_of (sym e)) (λ i. is_eight (e i) && c.if-direct.true i) c.shaded_direct.ensures

pub returns-else-direct : goal.returns-else-direct
returns-else-direct c =
    let a = c.args in
    let e = c.in-Eight.is in
    eight_shaded a.vram.now (bg_colours a.g.now a.p.params a.t.palette) a.p.params a.t a.p.background c.bg_index.ensures c.new-head.ensures
    (ap pairs_of (sym e)) c.palette-colors.ensures (λ i. is_eight (e i) && c.if-direct.false i) c.shaded-else-direct.ensures
