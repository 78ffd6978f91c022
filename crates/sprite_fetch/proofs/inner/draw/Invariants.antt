use Prim.Native.Nat.{◌≤◌}
use mathlib.Core.Path.{◌≡◌}
use lib.ListN.{take}
use Rattle.base_lists.specs.Tab.{tab}
use Rattle.line_pixels.specs.Pixels.{none}
use Rattle.sprite_fetch.specs.steps.Walk.{drawn_all, drawn_line}
use Rattle.sprite_fetch.proofs.Draws.{after}
use Rattle.sprite_fetch.proofs.inner.draw.Given as goal

abbrev pub invariant-loop-k : goal.invariant-loop-k
invariant-loop-k l =
    (l.line ≡ tab 256 (after l.vram l.cgram l.s (λ x. drawn_all l.vram l.cgram (take l.s-index l.s-items) x none) l.k)) × (l.k ≤ 8)

abbrev pub invariant-loop-s : goal.invariant-loop-s
invariant-loop-s l = l.line ≡ drawn_line l.vram l.cgram (take l.s-index l.s-items)
