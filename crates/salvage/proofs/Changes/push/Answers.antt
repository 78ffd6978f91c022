use Rattle.std.specs.Prelude.{refl}
use Rattle.salvage.proofs.Listing.{adds_one}
use Rattle.salvage.proofs.Changes.push.Goals as goal

pub returns : goal.returns
returns c = (adds_one _ _ c.requires, refl)
