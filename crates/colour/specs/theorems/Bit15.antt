-- Bit 15 of a colour word never matters: not to colour math, on either side, and not to brightness; and neither
-- colour math nor direct colour ever sets it.
use Rattle.std.specs.Prelude.{ℕ, ◌<◌, ◌≡◌, Bool, true, false}
use Rattle.std.proofs.Common.{arith}
use Rattle.colour.specs.Colour.{red_of, green_of, blue_of, colour_word, direct_colour, channel_of, math_of, light, at_brightness}
use Rattle.colour.specs.Bit15.{SameColour}

-- they have the same channels
module _ (c d : ℕ) (e : SameColour c d) where
  pub same_red : red_of c ≡ red_of d
  same_red = omega arith

  pub same_green : green_of c ≡ green_of d
  same_green = omega arith

  pub same_blue : blue_of c ≡ blue_of d
  same_blue = omega arith

-- brightness does not see it
pub brightness_blind : (c d b : ℕ) → SameColour c d → at_brightness c b ≡ at_brightness d b
unfolding at_brightness
brightness_blind c d b e =
    λ i. record {
      red = light (same_red c d e i) b;
      green = light (same_green c d e i) b;
      blue = light (same_blue c d e i) b;
    }

-- colour math does not see it, on either side
pub math_blind : (m n s t : ℕ) (subtract half : Bool) → SameColour m n → SameColour s t →
    math_of m s subtract half ≡ math_of n t subtract half
unfolding math_of
math_blind m n s t subtract half e f =
    λ i.
    colour_word
    (channel_of (same_red m n e i) (same_red s t f i) subtract half)
    (channel_of (same_green m n e i) (same_green s t f i) subtract half)
    (channel_of (same_blue m n e i) (same_blue s t f i) subtract half)

-- the math of two channels is a channel
pub channel_small : (m s : ℕ) (subtract half : Bool) → m < 32 → s < 32 → channel_of m s subtract half < 32
channel_small m s true true p q = omega arith
channel_small m s true false p q = omega arith
channel_small m s false true p q = omega arith
channel_small m s false false p q = omega arith

word_small : (r g b : ℕ) → r < 32 → g < 32 → b < 32 → colour_word r g b < 32768
word_small r g b p q h = omega arith

-- colour math never sets it
pub math_clear : (m s : ℕ) (subtract half : Bool) → math_of m s subtract half < 32768
unfolding math_of
math_clear m s subtract half =
    word_small _ _ _
    (channel_small (red_of m) (red_of s) subtract half (omega arith) (omega arith))
    (channel_small (green_of m) (green_of s) subtract half (omega arith) (omega arith))
    (channel_small (blue_of m) (blue_of s) subtract half (omega arith) (omega arith))

-- nor does direct colour
pub direct_clear : (i p : ℕ) → direct_colour i p < 32768
unfolding direct_colour
direct_clear i p = omega arith
