use Rattle.std.proofs.Common.{rules}
use Rattle.base_lists.specs.steps.Made.{made}
use Rattle.test_replay.specs.Section.{drawn_section}
use Rattle.test_replay.proofs.section.section.Goals as goal

pub returns : goal.returns
unfolding drawn_section
returns c = made _ c.from_fn.ensures.items (λ i b y q k. search rules)
