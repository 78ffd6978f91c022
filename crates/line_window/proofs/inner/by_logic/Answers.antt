use Rattle.std.proofs.Common.{rules}
use Rattle.line_window.proofs.Xor.{exclusive}
use Rattle.line_window.proofs.inner.by_logic.Goals as goal

pub returns-in-2 : goal.returns-in-2
returns-in-2 c = simp (c.in-2.is, exclusive)

pub returns-in_default : goal.returns-in_default
returns-in_default c = search (rules, exclusive)
