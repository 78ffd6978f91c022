-- A line of backdrops: its length and its pixels.
use Rattle.std.specs.Prelude.{ℕ, ◌<◌, ◌≡◌, length, get_or}
use Rattle.std.proofs.Math.ListN.{length-replicate, get_or-replicate}
use Rattle.line_pixels.specs.Pixels.{backdrop_of, no_pixel, backdrop_line}

module _ (colour : ℕ) where
  pub length_backdrop : length (backdrop_line colour) ≡ 256
  unfolding backdrop_line
  length_backdrop = length-replicate 256 (backdrop_of colour)

  pub get_d_backdrop : (x : ℕ) → x < 256 → get_or (backdrop_line colour) x no_pixel ≡ backdrop_of colour
  unfolding backdrop_line
  get_d_backdrop x h = get_or-replicate 256 x (backdrop_of colour) no_pixel h
