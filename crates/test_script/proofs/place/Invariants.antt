use Prim.Native.Nat.{◌-◌, ◌≤◌}
use lib.ListN.{length}
use Rattle.test_script.proofs.Naming.{Scan}
use Rattle.test_script.proofs.place.Given as goal

abbrev pub invariant-loop-b : goal.invariant-loop-b
invariant-loop-b l =
    (l.b-index ≤ length l.names) × Scan l.names l.s l.from l.to l.good l.k l.at l.live l.b-index

abbrev pub decreases-loop-b : goal.decreases-loop-b
decreases-loop-b l = length l.names - l.b-index
