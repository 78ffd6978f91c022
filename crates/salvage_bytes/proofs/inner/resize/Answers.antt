use Rattle.std.proofs.Common.{rules}
use Rattle.salvage_bytes.proofs.Putting.{cut_or_filled}
use Rattle.salvage_bytes.proofs.inner.resize.Goals as goal

pub returns : goal.returns
returns c =
    rw (c.fill.ensures.after (λ y e. e), c.copy_from_slice.ensures.after)
    (cut_or_filled c.args.file.now c.args.out.now c.min-kept.result c.min-kept.ensures (search rules))
