use Rattle.std.proofs.Common.{rules, arith, ◌∙◌, ℕ, ◌+◌}
use native.Mathlib.Nat.{add-mod_right}
use Rattle.base_lists.specs.steps.Filling.{front_none, front_at, front_all}
use Rattle.line_laying.specs.Laying.{candidate_in}
use Rattle.bg_row.proofs.Spread.{first_start, front_block}
use Rattle.bg_row.proofs.inner.blocks.Goals as goal

pub loop-start-init : goal.loop-start-init
loop-start-init c = (front_none (search rules), first_start _)

pub loop-start-preserved : goal.loop-start-preserved
loop-start-preserved c =
    let s = c.loop-start in
    let a = c.args in
    let end = c.min-end.ensures in
    let more = front_block (λ (k : ℕ). candidate_in a.cells.now (k + a.fine)) a.block s.start c.min-end.result s.invariant.0 s.invariant.1 (omega arith) (omega arith) (omega arith) (c.fill.ensures.after (λ y e. search rules)) in
    (front_at (omega arith) more, add-mod_right s.start a.block ∙ s.invariant.1)

pub returns : goal.returns
returns c = front_all c.loop-start.invariant.0 c.loop-start-test.false

-- the last block
pub returns-2 : goal.returns-2
returns-2 c =
    let s = c.loop-start in
    let a = c.args in
    let end = c.min-end.ensures in
    let more = front_block (λ (k : ℕ). candidate_in a.cells.now (k + a.fine)) a.block s.start c.min-end.result s.invariant.0 s.invariant.1 (omega arith) (omega arith) (omega arith) (c.fill.ensures.after (λ y e. search rules)) in
    front_all more (omega arith)
