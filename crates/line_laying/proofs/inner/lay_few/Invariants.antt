use Prim.Native.Nat.{◌-◌}
use lib.ListN.{get_or}
use Rattle.base_lists.specs.steps.Filling.{Filled}
use Rattle.line_pixels.specs.Pixels.{no_pixel, deposited}
use Rattle.line_laying.specs.Laying.{candidates_of, candidate_in}
use Rattle.line_laying.proofs.inner.lay_few.Given as goal

abbrev pub invariant-loop-x : goal.invariant-loop-x
invariant-loop-x l =
    Filled 256 (λ k. deposited (get_or l.initial.main k no_pixel) (candidates_of l.s k (candidate_in l.row k)).main) l.initial.main l.main l.x
    × Filled 256 (λ k. deposited (get_or l.initial.sub k no_pixel) (candidates_of l.s k (candidate_in l.row k)).sub) l.initial.sub l.sub l.x

abbrev pub decreases-loop-x : goal.decreases-loop-x
decreases-loop-x l = 256 - l.x
