use Rattle.std.proofs.lemmas.Result.{err_from_is_err_and}
use Rattle.scene_input.proofs.Reading.{read_scene, read_no_scene}
use Rattle.scene_input.proofs.inner.input.Goals as goal

pub returns-in_err-sections : goal.returns-in_err-sections
returns-in_err-sections c =
    let r = err_from_is_err_and c.from_residual.result c.from_residual.ensures.1 in
    rw (r.1, r.2) (read_no_scene c.sections.ensures c.in_err-sections.was)

pub returns : goal.returns
returns c = read_scene c.sections.ensures c.in_ok-sections.was c.values_tested.ensures
