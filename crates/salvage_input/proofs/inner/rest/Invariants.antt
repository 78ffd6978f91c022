use Prim.Native.Nat.{◌-◌, ◌≤◌}
use mathlib.Core.Path.{◌≡◌}
use lib.ListN.{length}
use Rattle.salvage_input.proofs.inner.rest.Given as goal

abbrev pub invariant-loop-total : goal.invariant-loop-total
invariant-loop-total l = (length l.space ≡ 4096) × (l.total ≤ 9223372036854779904)

abbrev pub decreases-loop-total : goal.decreases-loop-total
decreases-loop-total l = 9223372036854775808 - l.total
