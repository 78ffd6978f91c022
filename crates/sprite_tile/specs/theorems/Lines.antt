-- A line that is not flipped stays where it is.
use Rattle.std.specs.Prelude.{ℕ, ◌≡◌, false}
use Rattle.std.proofs.Common.{div-add-mod'}
use Rattle.sprite_tile.specs.Tile.{flipped_in}

pub not_flipped : (w n : ℕ) → flipped_in w false n ≡ n
not_flipped w n = div-add-mod' n w
