use mathlib.Core.Path.{refl}
use native.Mathlib.Omega.{arith}
use Rattle.scene_bytes.specs.Bytes.{words_of}
use Rattle.base_lists.specs.steps.Filling.{front_none, front_more, front_all}
use Rattle.scene_bytes.proofs.inner.words.Goals as goal

pub loop-i-init : goal.loop-i-init
loop-i-init c = front_none refl

pub word_at-requires : goal.word_at-requires
word_at-requires c = omega arith

pub bounds-out-i : goal.bounds-out-i
bounds-out-i c = omega arith

pub loop-i-smaller : goal.loop-i-smaller
loop-i-smaller c = omega arith

pub loop-i-preserved : goal.loop-i-preserved
loop-i-preserved c = front_more c.loop-i.invariant c.loop-i-test.true _ c.word_at.ensures

pub returns : goal.returns
unfolding words_of
returns c = front_all c.loop-i.invariant c.loop-i-test.false
