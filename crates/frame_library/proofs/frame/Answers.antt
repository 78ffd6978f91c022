use Rattle.frame_library.proofs.Read.{read_ok, read_told}
use mathlib.Core.Path.{sym, ap, ◌∙◌}
use Rattle.base_refusal.specs.Results.{means}
use Rattle.frame_library.proofs.frame.Goals as goal

pub show-requires : goal.show-requires
show-requires c =
    read_ok c.input.ensures c.in-Ok.is

pub returns-in-Ok : goal.returns-in-Ok
returns-in-Ok c = read_told c.input.ensures (ap means (sym c.in-Ok.is))

pub returns-in-Err : goal.returns-in-Err
returns-in-Err c = read_told c.input.ensures (c.refuse.ensures ∙ ap means (sym c.in-Err.is))
