-- Colour words, five bits for each channel: direct colour, colour math, brightness.
use Rattle.std.specs.Prelude.{ℕ, ◌+◌, ◌-◌, ◌*◌, ◌/◌, ◌%◌, min, Bool, true, false, cond, eqb, ltb}
use Rattle.base_refusal.specs.Answer.{Answer, provided}
use Rattle.colour.specs.declared.Rgb.{Rgb}

-- the channels of a colour word; bit 15 is in none
abbrev pub red_of : ℕ → ℕ
red_of c = c % 32

abbrev pub green_of : ℕ → ℕ
green_of c = c / 32 % 32

abbrev pub blue_of : ℕ → ℕ
blue_of c = c / 1024 % 32

abbrev pub colour_word : ℕ → ℕ → ℕ → ℕ
colour_word r g b = r + g * 32 + b * 1024

unfoldable pub direct_colour : ℕ → ℕ → ℕ
direct_colour i p =
    colour_word
    (4 * (i % 8) + 2 * (p % 2))
    (4 * (i / 8 % 8) + 2 * (p / 2 % 2))
    (8 * (i / 64 % 4) + 4 * (p / 4 % 2))

-- add stops at 31, subtract at 0
abbrev pub mixed : ℕ → ℕ → Bool → ℕ
mixed m s true = m - s
mixed m s false = min (m + s) 31

-- halving then follows
abbrev pub halved : ℕ → Bool → ℕ
halved c true = c / 2
halved c false = c

abbrev pub channel_of : ℕ → ℕ → Bool → Bool → ℕ
channel_of m s subtract half = halved (mixed m s subtract) half

unfoldable pub math_of : ℕ → ℕ → Bool → Bool → ℕ
math_of m s subtract half =
    colour_word
    (channel_of (red_of m) (red_of s) subtract half)
    (channel_of (green_of m) (green_of s) subtract half)
    (channel_of (blue_of m) (blue_of s) subtract half)

-- c x (brightness + 1) / 16
abbrev pub scaled : ℕ → ℕ → ℕ
scaled c b = c * (b + 1) / 16

-- brightness 0 is black; else 8c + c/4 of the scaled channel
unfoldable pub light : ℕ → ℕ → ℕ
light c b = cond (eqb b 0) 0 (scaled c b * 8 + scaled c b / 4)

unfoldable pub at_brightness : ℕ → ℕ → Rgb
at_brightness c b = record { red = light (red_of c) b; green = light (green_of c) b; blue = light (blue_of c) b }

-- a brightness above 15 is refused 7
abbrev pub of_brightness : {A : Type 0} → ℕ → Answer A → Answer A
of_brightness b a = provided (ltb b 16) 7 a
