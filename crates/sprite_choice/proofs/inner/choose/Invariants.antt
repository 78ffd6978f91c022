use Prim.Native.Nat.{◌-◌, ◌≤◌}
use Rattle.sprite_choice.proofs.Search.{SoFar, found_to}
use Rattle.sprite_choice.proofs.inner.choose.Given as goal

abbrev pub invariant-loop-k : goal.invariant-loop-k
invariant-loop-k l =
    SoFar l.oam l.objsel (found_to l.oam l.row l.objsel l.start l.obj_interlace l.k) l.sprites l.count l.tiles × (l.k ≤ 128)

abbrev pub decreases-loop-k : goal.decreases-loop-k
decreases-loop-k l = 128 - l.k
