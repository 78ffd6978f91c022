use Prim.Native.Nat.{◌≤◌}
use lib.ListN.{get_or, take}
use Rattle.line_pixels.specs.Pixels.{none}
use Rattle.sprite_fetch.specs.steps.Walk.{blank_row, drawn_all}
use Rattle.sprite_fetch.proofs.Draws.{after}
use Rattle.packed_sprites.proofs.Room.{Shows}
use Rattle.packed_sprites.proofs.inner.draw.Given as goal

abbrev pub invariant-loop-k : goal.invariant-loop-k
invariant-loop-k l =
    Shows (after l.vram l.g (get_or l.s-items l.s-index blank_row) (λ x. drawn_all l.vram l.g (take l.s-index l.s-items) x none) l.k) l.line × (l.k ≤ 8)

abbrev pub invariant-loop-s : goal.invariant-loop-s
invariant-loop-s l = Shows (λ x. drawn_all l.vram l.g (take l.s-index l.s-items) x none) l.line
