use Rattle.std.proofs.Common.{rules}
use Rattle.base_lists.specs.steps.Made.{made}
use Rattle.tiles_eight.proofs.inner.words.Goals as goal

pub returns : goal.returns
returns g c = made _ c.from_fn.ensures.items (λ i b y q k. search rules)
