use Rattle.line_laying.specs.Laying.{candidate_in}
use Rattle.line_laying.specs.steps.Laying.{marked}
use Rattle.base_lists.specs.steps.Filling.{Filled}
use Rattle.line_pixels.specs.Pixels.{no_pixel, deposited}
use lib.ListN.{get_or}
use mathlib.Core.Bool.{false, ◌&&◌, not}
use Prim.Native.Nat.{◌-◌}
use Rattle.line_laying.proofs.inner.lay_line.Given as goal

abbrev pub invariant-loop-x : goal.invariant-loop-x
invariant-loop-x l = Filled 256 (λ k. deposited (get_or l.initial.line k no_pixel) (marked (not (l.win && get_or l.mask k false)) (candidate_in l.row k))) l.initial.line l.line l.x

abbrev pub decreases-loop-x : goal.decreases-loop-x
decreases-loop-x l = 256 - l.x
