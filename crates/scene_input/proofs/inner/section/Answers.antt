use Rattle.std.proofs.Common.{arith}
use Rattle.std.proofs.lemmas.Result.{err_from_is_err_and}
use Rattle.scene_input.proofs.Reading.{read_count, read_body}
use Rattle.scene_input.proofs.inner.section.Goals as goal

pub returns-in_err-count_tested : goal.returns-in_err-count_tested
returns-in_err-count_tested g c =
    let r = err_from_is_err_and c.from_residual.result c.from_residual.ensures.1 in
    rw (r.1, r.2) (read_count _ _ c.count_tested.ensures c.in_err-count_tested.was)

pub returns : goal.returns
returns g c =
    read_body _ _ c.count_tested.ensures _ c.moved.result c.in_ok-count_tested.was
    (omega (arith, c.moved-came.auto.bytes, c.moved-came.ensures.0, c.moved-came.ensures.1))
    (omega (arith, c.moved.auto.bytes))
    (omega (arith, c.moved.auto.bytes, c.moved.ensures.0))
    c.body_tested.ensures
