use mathlib.Core.Path.{sym}
use mathlib.Core.Bool.{cond}
use lib.ListN.{get_or}
use Rattle.bg_modes.specs.Modes.{mode1, lacks}
use Rattle.bg_modes.proofs.inner.mode_1.Goals as goal

pub returns-then-lifted : goal.returns-then-lifted
returns-then-lifted c = λ i. get_or (mode1 (cond (sym c.if-lifted.true i) 13 5)) c.args.bg.number lacks

pub returns-else-lifted : goal.returns-else-lifted
returns-else-lifted c = λ i. get_or (mode1 (cond (sym c.if-lifted.false i) 13 5)) c.args.bg.number lacks
