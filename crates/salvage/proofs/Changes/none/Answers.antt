use Rattle.std.specs.Prelude.{refl}
use Rattle.salvage.proofs.Listing.{listed_none}
use Rattle.salvage.proofs.Changes.none.Goals as goal

pub returns : goal.returns
returns c = (listed_none, refl)
