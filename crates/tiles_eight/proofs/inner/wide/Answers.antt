use Rattle.std.proofs.Common.{rules}
use mathlib.Core.Path.{refl, sym, ◌∙◌}
use lib.ListN.{get_or}
use Rattle.base_lists.specs.steps.Made.{made}
use Rattle.base_lists.specs.theorems.Tab.{by_get_d}
use Rattle.tiles_eight.proofs.inner.wide.Goals as goal

pub returns : goal.returns
returns c =
    made (λ i. get_or c.args.cgram.now i 0) c.from_fn.ensures.items (λ i b y q k. search rules)
    ∙ sym (by_get_d 256 _ c.args.cgram.now 0 (search rules) (λ x h. refl))
