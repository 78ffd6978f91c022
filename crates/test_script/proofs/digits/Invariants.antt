use Prim.Native.Nat.{◌-◌, ◌<◌, ◌≤◌, ◌^◌}
use mathlib.Core.Path.{◌≡◌}
use lib.ListN.{length, drop}
use Rattle.test_script.specs.Number.{digits_of}
use Rattle.test_script.proofs.Reading.{read_on}
use Rattle.test_script.proofs.digits.Given as goal

abbrev pub invariant-loop-b : goal.invariant-loop-b
invariant-loop-b l =
    (l.b-index ≤ length l.word) × (l.n < 2 ^ 64) × (read_on l.base (drop l.b-index l.word) l.n ≡ digits_of l.base l.word)

abbrev pub decreases-loop-b : goal.decreases-loop-b
decreases-loop-b l = length l.word - l.b-index
