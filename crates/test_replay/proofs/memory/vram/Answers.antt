use Prim.Native.Nat.{◌/◌}
use mathlib.Core.Path.{sym, ◌∙◌}
use borrow.Author.Rules.{rules}
use Rattle.base_lists.specs.steps.Filling.{front_none, front_more, front_all}
use Rattle.test_replay.specs.steps.Drawing.{after_none, after_twice}
use Rattle.test_replay.specs.Memory.{held_of, vram_of}
use Rattle.test_replay.proofs.memory.vram.Goals as goal

pub loop-i-init : goal.loop-i-init
loop-i-init c = (front_none (search rules), sym (after_none _))

pub loop-i-preserved : goal.loop-i-preserved
loop-i-preserved c =
    let t = after_twice _ _ c.loop-i.invariant.1 c.next-a.ensures c.next-x.ensures in
    let a = c.word.ensures ∙ (λ i. t.first i / 65536) in
    let b = c.word-in-loop-i.ensures ∙ (λ i. t.second i / 65536) in (
      front_more
          c.loop-i.invariant.0
          c.loop-i-test.true
          _
          (c.held.ensures
          ∙ (λ i. held_of c.args.filling c.loop-i.i (a i) (b i))),
      t.on,
    )

pub returns : goal.returns
unfolding vram_of
returns c = front_all c.loop-i.invariant.0 c.loop-i-test.false
