use Rattle.bg_map.specs.steps.Rows.{entry_in, entry_in_row}
use Rattle.bg_map.proofs.Places.{extent_small}
use Rattle.bg_tile.proofs.Laws.{words_small}
use Rattle.bg_tile.specs.steps.Characters.{character_row_at}
use Prim.Native.Nat.{◌%◌}
use Rattle.bg_tile.specs.Tile.{fine_of, character_word, priority_of}
use mathlib.Core.Path.{◌∙◌}
use native.Mathlib.Omega.{arith}
use Rattle.bg_tile.proofs.inner.character_row.Goals as goal

pub entry_in-entry-requires : goal.entry_in-entry-requires
entry_in-entry-requires c =
    (c.requires.0.1, omega (arith, c.requires.1, extent_small c.args.p.w64 c.args.p.tile16))

pub character_word-requires : goal.character_word-requires
character_word-requires c =
    let b = c.args.p.bpp in
    (c.fine-fx.ensures.1, (c.fine-fy.ensures.1, rw c.tile_words-words.ensures (words_small b)))

pub returns : goal.returns
unfolding character_row_at
returns c =
    let a = c.args in
    let v = a.vram.now in
    let en = c.entry_in-entry.ensures.0 ∙ ((λ i. entry_in v (c.requires.0.0 i) a.p.tile16 a.px) ∙ entry_in_row v a.p a.px a.py) in
    let fx = c.fine-fx.ensures.0 ∙ (λ i. fine_of a.px a.p.tile16 (en i).flip_x) in
    let fy = c.fine-fy.ensures.0 ∙ (λ i. fine_of a.py a.p.tile16 (en i).flip_y) in
    let base = c.character_word.ensures ∙ (λ i. character_word a.p.tiledata_base (en i).tile (fx i) (fy i) (c.tile_words-words.ensures i)) in
    let z = c.priority.ensures ∙ (λ i. priority_of a.p (en i).high) in
    (λ i. record { base = base i; row = fy i % 8; flip_x = (en i).flip_x; palette = (en i).palette; z = z i }, record { row_in = omega arith; palette_in = c.entry_in-entry.ensures.1 })
