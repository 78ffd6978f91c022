use Prim.Native.Nat.{ℕ, ◌+◌, ◌*◌, ◌<◌}
use mathlib.Core.Path.{◌≡◌, ◌∙◌}
use native.Mathlib.Omega.{arith}
use lib.ListN.{get_or, length-set}
use Rattle.base_lists.specs.steps.Filling.{front_none, front_more, front_at, front_all}
use Rattle.colour.specs.Colour.{at_brightness}
use Rattle.row_composite.proofs.Bytes.{byte_is}
use Rattle.row_composite.proofs.inner.brighten.Goals as goal

pub loop-x-init : goal.loop-x-init
loop-x-init c = front_none c.told-row

pub loop-x-preserved : goal.loop-x-preserved
unfolding at_brightness
loop-x-preserved c =
    let at = c.loop-x in
    let x = at.x in
    let h : x < 256 = c.loop-x-test.true in
    let f : ℕ → ℕ = λ k. get_or c.args.colors.now k 0 in
    let b = c.args.brightness in
    let red = c.lighten.ensures ∙ byte_is f b x 0 (x * 3) (omega arith) (omega arith) in
    let green = c.lighten-in-loop-x.ensures ∙ byte_is f b x 1 (x * 3 + 1) (omega arith) (omega arith) in
    let blue = c.lighten-in-loop-x-2.ensures ∙ byte_is f b x 2 (x * 3 + 2) (omega arith) (omega arith) in
    let third : x * 3 + 1 + 1 ≡ x * 3 + 2 = omega arith in
    let next : x * 3 + 2 + 1 ≡ (x + 1) * 3 = omega arith in
    let one = front_more at.invariant (omega (arith, h)) _ red in
    let two = front_at third (front_more one (omega (arith, h)) _ green) in
    front_at next (front_more two (omega (arith, h)) _ blue)

pub returns : goal.returns
returns c = front_all c.loop-x.invariant (omega (arith, c.loop-x-test.false))
