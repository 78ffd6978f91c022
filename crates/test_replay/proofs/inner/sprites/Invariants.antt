use Rattle.std.proofs.Common.{ℕ, ◌≡◌, ◌*◌, ◌≤◌}
use Rattle.test_replay.specs.Drawing.{after_of}
use Rattle.test_replay.specs.steps.SpriteMemory.{numbers_of, sprites_at}
use Rattle.test_replay.specs.declared.placing.Drawn.{Drawn}
use Rattle.test_replay.proofs.inner.sprites.Given as goal

abbrev pub invariant-loop-i : goal.invariant-loop-i
invariant-loop-i g l =
    (l.i ≤ 128)
    × (l.x ≡ after_of (l.i * 4) l.seed)
    × ((s : ℕ → Drawn) → ((k : ℕ) → (d : Drawn) → goal.F-post g l.of (numbers_of k l.seed) d → d ≡ s k) → l.oam ≡ sprites_at s l.i l.seed)
