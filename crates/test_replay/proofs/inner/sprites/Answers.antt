use Rattle.std.proofs.Common.{ℕ, ◌≡◌, refl, sym, ap, subst, arith, ◌∙◌}
use Rattle.test_replay.specs.Drawing.{drawn_four}
use Rattle.test_replay.specs.steps.SpriteMemory.{numbers_of, sprites_at}
use Rattle.test_replay.specs.steps.Drawing.{after_none}
use Rattle.test_replay.specs.steps.Sprites.{after_four, sprites_none, sprites_more}
use Rattle.test_replay.specs.declared.drawing.Four.{Four}
use Rattle.test_replay.proofs.inner.sprites.Goals as goal

pub loop-i-init : goal.loop-i-init
loop-i-init g c = (omega arith, sym (after_none _), λ s f. sprites_none s _)

pub loop-i-preserved : goal.loop-i-preserved
loop-i-preserved g c =
    let l = c.loop-i in
    let n : c.drawn-n.result ≡ numbers_of l.i c.args.seed = c.drawn-n.ensures ∙ ap drawn_four l.invariant.1 in (
      omega arith,
      ap (λ (q : Four). q.x) n ∙ after_four _ l.i refl,
      λ s f.
          let d = f l.i c.of-d.result (subst (λ q. goal.F-post g c.args.of q c.of-d.result) n c.of-d.ensures) in
          sprites_more s _ _ c.loop-i-test.true (l.invariant.2 s f) n d c.column.ensures c.write.ensures,
    )

pub returns : goal.returns
returns g c =
    let all : c.loop-i.i ≡ 128 = omega arith in
    λ s f. c.loop-i.invariant.2 s f ∙ ap (λ (k : ℕ). sprites_at s k c.args.seed) all
