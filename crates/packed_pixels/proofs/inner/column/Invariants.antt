use mathlib.Core.Path.{◌≡◌}
use lib.ListN.{length}
use Rattle.packed_pixels.specs.steps.Packed.{laid_to}
use Rattle.packed_pixels.proofs.inner.column.Given as goal

abbrev pub invariant-loop-row : goal.invariant-loop-row
invariant-loop-row l = l.held ≡ laid_to l.back l.rows l.barred l.x (length l.yielded)
