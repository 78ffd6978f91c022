use Rattle.std.proofs.lemmas.Result.{err_from_is_err_and}
use Rattle.scene_input.specs.steps.Input.{end_on}
use Rattle.scene_input.proofs.Reading.{read_then, read_stopped}
use Rattle.scene_input.proofs.inner.read_from_vram.Goals as goal

pub returns-in_err-word_section : goal.returns-in_err-word_section
returns-in_err-word_section c =
    let r = err_from_is_err_and c.from_residual.result c.from_residual.ensures.1 in
    rw (r.1, r.2) (read_stopped c.word_section.ensures end_on c.in_err-word_section.was)

pub returns : goal.returns
returns c = read_then c.word_section.ensures end_on c.in_ok-word_section.was c.end.ensures
