use mathlib.Core.Path.{refl}
use native.Mathlib.Omega.{arith}
use Rattle.test_script.specs.Names.{place_between}
use Rattle.test_script.proofs.Naming.{scan_none, scan_found, scan_passed, scan_below, scan_on, scan_off, scan_last, scan_over}
use Rattle.test_script.proofs.place.Goals as goal

pub loop-b-init : goal.loop-b-init
loop-b-init c = (omega arith, scan_none refl)

pub returns-then-live-at : goal.returns-then-live-at
unfolding place_between
returns-then-live-at c =
    let l = c.loop-b in
    scan_found l.invariant.1 (omega arith) c.if-b-eq32.true c.if-live-at.true

pub overflow_add-k : goal.overflow_add-k
overflow_add-k c = omega arith

pub loop-b-preserved-then-b-eq32 : goal.loop-b-preserved-then-b-eq32
loop-b-preserved-then-b-eq32 c =
    let l = c.loop-b in
    (omega arith, scan_passed l.invariant.1 (omega arith) c.if-b-eq32.true c.if-live-at.false)

pub overflow_add-at : goal.overflow_add-at
overflow_add-at c =
    let l = c.loop-b in
    let below = scan_below l.invariant.1 (omega arith) c.if-b-eq32.false c.goes_on.ensures c.if-live-goes_on.true in
    omega arith

pub loop-b-preserved-then-live-goes_on : goal.loop-b-preserved-then-live-goes_on
loop-b-preserved-then-live-goes_on c =
    let l = c.loop-b in (
      omega arith,
      scan_on l.invariant.1 (omega arith) c.if-b-eq32.false c.goes_on.ensures c.if-live-goes_on.true,
    )

pub loop-b-preserved : goal.loop-b-preserved
loop-b-preserved c =
    let l = c.loop-b in (
      omega arith,
      scan_off l.invariant.1 (omega arith) c.if-b-eq32.false c.goes_on.ensures c.if-live-goes_on.false,
    )

pub returns-then-live-at-2 : goal.returns-then-live-at-2
unfolding place_between
returns-then-live-at-2 c = scan_last c.loop-b.invariant.1 (omega arith) c.if-live-at-2.true

pub overflow_add-result : goal.overflow_add-result
overflow_add-result c = omega arith

pub returns : goal.returns
unfolding place_between
returns c = scan_over c.loop-b.invariant.1 (omega arith) c.if-live-at-2.false
