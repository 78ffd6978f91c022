use Rattle.std.specs.Prelude.{◌≡◌, length}
use Rattle.std.proofs.Common.{arith, ◌∙◌}
use Rattle.salvage_input.proofs.Reading.{filled, held_short, held_long}
use Rattle.salvage_input.proofs.inner.read_file.Goals as goal

pub returns-then-got-lt-SCENE_BYTES : goal.returns-then-got-lt-SCENE_BYTES
returns-then-got-lt-SCENE_BYTES c =
    let long : length c.read_full-got.new.buf ≡ 66656 = c.read_full-got.auto.buf ∙ c.told-out in
    held_short _ _ c.read_full-got.ensures.0
    (rw (c.fill.ensures.after (λ y e. e)) (filled _ _ long (omega arith)))

pub returns : goal.returns
returns c =
    let long : length c.read_full-got.new.buf ≡ 66656 = c.read_full-got.auto.buf ∙ c.told-out in
    let whole : c.read_full-got.result ≡ 66656 = omega (arith, long, c.read_full-got.ensures.0) in
    held_long _ c.rest.result _ c.read_full-got.ensures.0 whole
    (rw (c.fill.ensures.after (λ y e. e)) (filled _ _ long (omega arith)))
