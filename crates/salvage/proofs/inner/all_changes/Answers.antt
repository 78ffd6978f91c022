use Rattle.std.specs.Prelude.{[]}
use Rattle.std.proofs.Common.{◌∙◌}
use Rattle.salvage.proofs.Listing.{placed}
use Rattle.salvage.proofs.inner.all_changes.Goals as goal

pub returns : goal.returns
returns c =
    let measured = c.push_length.ensures.0 [] c.none-changes.ensures.0 in
    let registers = c.push_count.ensures.0 _ measured in
    let sprites = c.push_count-2.ensures.0 _ registers in
    let colours = c.push_count-3.ensures.0 _ sprites in
    let tiles = c.push_count-4.ensures.0 _ colours in
    let counter = c.push_value.ensures.0 _ tiles in
    c.push_value-2.ensures.0 _ counter ∙ placed _ c.args.bytes.now c.right_counter.ensures
