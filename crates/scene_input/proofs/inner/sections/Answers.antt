use Rattle.std.proofs.lemmas.Result.{err_from_is_err_and}
use Rattle.scene_input.specs.steps.Input.{vram_on, colours_on, sprites_on, HeldColours, HeldSprites}
use Rattle.scene_input.proofs.Reading.{read_then, read_stopped}
use Rattle.scene_input.proofs.inner.sections.Goals as goal

pub returns-in_err-section : goal.returns-in_err-section
returns-in_err-section c =
    let r = err_from_is_err_and c.from_residual.result c.from_residual.ensures.1 in
    rw (r.1, r.2) (read_stopped c.section.ensures sprites_on c.in_err-section.was)

pub returns-in_err-section-2 : goal.returns-in_err-section-2
returns-in_err-section-2 c =
    let r = err_from_is_err_and c.from_residual-in_err-section-2.result c.from_residual-in_err-section-2.ensures.1 in
    rw (r.1, r.2)
    (read_then c.section.ensures sprites_on {Q = HeldSprites c.section-2.new.body c.args.cgram.now c.args.vram.now} c.in_ok-section.was
    (read_stopped c.section-2.ensures colours_on c.in_err-section-2.was))

pub returns-in_err-word_section : goal.returns-in_err-word_section
returns-in_err-word_section c =
    let g = c.word_section.new.out in
    let r = err_from_is_err_and c.from_residual-in_err-word_section.result c.from_residual-in_err-word_section.ensures.1 in
    rw (r.1, r.2)
    (read_then c.section.ensures sprites_on {Q = HeldSprites c.section-2.new.body g c.args.vram.now} c.in_ok-section.was
    (read_then c.section-2.ensures colours_on {Q = HeldColours g c.args.vram.now} c.in_ok-section-2.was
    (read_stopped c.word_section.ensures vram_on c.in_err-word_section.was)))

pub returns : goal.returns
returns c =
    read_then c.section.ensures sprites_on c.in_ok-section.was
    (read_then c.section-2.ensures colours_on c.in_ok-section-2.was
    (read_then c.word_section.ensures vram_on c.in_ok-word_section.was c.read_from_vram.ensures))
