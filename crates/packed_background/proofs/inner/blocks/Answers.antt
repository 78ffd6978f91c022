use Rattle.std.proofs.Common.{rules, arith, ◌∙◌, ℕ, ◌+◌, get_or}
use native.Mathlib.Nat.{add-mod_right}
use Rattle.base_lists.specs.steps.Filling.{front_none}
use Rattle.bg_row.proofs.Spread.{first_start}
use Rattle.packed_background.proofs.Laid.{wide_block, front_part}
use Rattle.packed_background.proofs.inner.blocks.Goals as goal

pub loop-start-init : goal.loop-start-init
loop-start-init c = (front_none (search rules), first_start _)

pub loop-start-preserved : goal.loop-start-preserved
loop-start-preserved c =
    let s = c.loop-start in
    let a = c.args in
    let h = c.requires.1.1 in (
      wide_block (λ (k : ℕ). get_or a.cells.now (k + a.fine) 0) a.block s.start (s.start + a.block) (s.start + 16) s.invariant.0 s.invariant.1 (omega arith) (omega arith) (omega (arith, h)) (omega arith) (c.fill.ensures.after (λ y e. search rules)),
      add-mod_right s.start a.block ∙ s.invariant.1,
    )

pub returns : goal.returns
returns c = front_part c.loop-start.invariant.0 256 c.loop-start-test.false

-- the last block
pub returns-2 : goal.returns-2
returns-2 c =
    let s = c.loop-start in
    let a = c.args in
    let h = c.requires.1.1 in
    let more = wide_block (λ (k : ℕ). get_or a.cells.now (k + a.fine) 0) a.block s.start 256 (s.start + 16) s.invariant.0 s.invariant.1 (omega arith) (omega arith) (omega arith) (omega arith) (c.fill.ensures.after (λ y e. search rules)) in
    front_part more 256 (omega arith)
