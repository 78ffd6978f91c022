use Rattle.std.proofs.Common.{rules}
use Rattle.base_lists.specs.steps.Made.{made}
use Rattle.tiles_eight.proofs.Columns.{column_small}
use Rattle.tiles_eight.proofs.inner.turned.Goals as goal

pub returns : goal.returns
returns c =
    let is = made _ c.from_fn.ensures.items (λ i b y q k. search rules) in
    (is, column_small c.args.flip is)
