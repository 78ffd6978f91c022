use Rattle.std.proofs.Common.{ap, ◌∙◌, take}
use Rattle.scene_file.specs.File.{end_tests}
use Rattle.scene_input.proofs.Reading.{read_end}
use Rattle.scene_input.proofs.inner.end.Goals as goal

pub returns : goal.returns
returns c =
    read_end (take c.moved.result c.moved.new.bytes) (c.end_tested.ensures ∙ ap end_tests c.moved.ensures.1)
