use Rattle.std.specs.Prelude.{◌+◌, ◌-◌, ◌≡◌}
use Rattle.std.proofs.Common.{arith}
use Rattle.salvage_bytes.proofs.Putting.{put_number}
use Rattle.salvage_bytes.proofs.inner.put.Goals as goal

pub returns : goal.returns
returns c =
    let a = c.args in
    let long : a.k + a.n - a.k ≡ a.n = omega arith in
    rw (long, c.copy_from_slice.ensures.after, c.to_le_bytes.ensures) (put_number a.k a.n a.number a.out.now c.requires.0 c.requires.1)
