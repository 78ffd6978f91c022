use Rattle.std.proofs.Common.{rules, false, ◌∙◌}
use Rattle.std.proofs.lemmas.List.{get_or-replicate}
use Rattle.base_lists.specs.steps.Made.{made}
use Rattle.base_lists.specs.theorems.Tab.{by_get_d}
use Rattle.line_laying.proofs.Screens.{mask_off}
use Rattle.line_laying.proofs.inner.mask.Goals as goal

pub returns-then-on : goal.returns-then-on
returns-then-on c = made _ c.from_fn.ensures.items (λ i b y q k. search rules)

pub returns-else-on : goal.returns-else-on
returns-else-on c =
    by_get_d 256 _ _ false (search rules) (λ x h. get_or-replicate 256 x false false h ∙ mask_off c.args.on _ c.if-on.false)
