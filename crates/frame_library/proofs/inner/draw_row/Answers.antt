use Rattle.frame_library.proofs.Walk.{row_drawn}
use Rattle.frame_library.proofs.inner.draw_row.Goals as goal

pub returns : goal.returns
returns c =
    row_drawn _ _ c.at_counter.ensures c.requires c.render.ensures c.next_counter.ensures
