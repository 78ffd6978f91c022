use Rattle.std.specs.Prelude.{ℕ, ◌%◌, ◌<◌, ◌≡◌, Bool, List, [], ◌∷◌}
use Rattle.std.proofs.Common.{sym, ◌∙◌, arith}
use Rattle.colour.specs.Colour.{red_of, green_of, blue_of, colour_word, channel_of, math_of}
use Rattle.colour.specs.Bit15.{SameColour}
use Rattle.colour.specs.theorems.Bit15.{channel_small}
use Rattle.colour_fades.specs.Fades.{plus, minus, black, plus_all, minus_all, joined}

-- a word's channels are those it was made of
module _ (r g b : ℕ) (p : r < 32) (q : g < 32) (h : b < 32) where
  red_back : red_of (colour_word r g b) ≡ r
  red_back = omega arith

  green_back : green_of (colour_word r g b) ≡ g
  green_back = omega arith

  blue_back : blue_of (colour_word r g b) ≡ b
  blue_back = omega arith

-- so colour math is channel by channel
module _ (m s : ℕ) (t f : Bool) where
  red_small : channel_of (red_of m) (red_of s) t f < 32
  red_small = channel_small (red_of m) (red_of s) t f (omega arith) (omega arith)

  green_small : channel_of (green_of m) (green_of s) t f < 32
  green_small = channel_small (green_of m) (green_of s) t f (omega arith) (omega arith)

  blue_small : channel_of (blue_of m) (blue_of s) t f < 32
  blue_small = channel_small (blue_of m) (blue_of s) t f (omega arith) (omega arith)

  red_math : red_of (math_of m s t f) ≡ channel_of (red_of m) (red_of s) t f
  unfolding math_of
  red_math = red_back _ _ _ red_small green_small blue_small

  green_math : green_of (math_of m s t f) ≡ channel_of (green_of m) (green_of s) t f
  unfolding math_of
  green_math = green_back _ _ _ red_small green_small blue_small

  blue_math : blue_of (math_of m s t f) ≡ channel_of (blue_of m) (blue_of s) t f
  unfolding math_of
  blue_math = blue_back _ _ _ red_small green_small blue_small

-- what holds of three channels holds of three colours: first a with b and then c, or a with what b and c make
by_channel : (t u v w f g h k : Bool) →
    ((a b c : ℕ) → a < 32 → b < 32 → c < 32 → channel_of (channel_of a b t f) c u g ≡ channel_of a (channel_of b c v h) w k) →
    (a b c : ℕ) → math_of (math_of a b t f) c u g ≡ math_of a (math_of b c v h) w k
unfolding math_of
by_channel t u v w f g h k law a b c =
    (λ i.
    colour_word
    (channel_of (red_math a b t f i) (red_of c) u g)
    (channel_of (green_math a b t f i) (green_of c) u g)
    (channel_of (blue_math a b t f i) (blue_of c) u g))
    ∙ ((λ i.
    colour_word
    (law (red_of a) (red_of b) (red_of c) (omega arith) (omega arith) (omega arith) i)
    (law (green_of a) (green_of b) (green_of c) (omega arith) (omega arith) (omega arith) i)
    (law (blue_of a) (blue_of b) (blue_of c) (omega arith) (omega arith) (omega arith) i))
    ∙ sym
    (λ i.
    colour_word
    (channel_of (red_of a) (red_math b c v h i) w k)
    (channel_of (green_of a) (green_math b c v h i) w k)
    (channel_of (blue_of a) (blue_math b c v h i) w k)))

-- Two colours add up to one answer in either order.
pub plus_either_order : (a b : ℕ) → plus a b ≡ plus b a
unfolding math_of
plus_either_order a b = omega arith

-- Three colours add up to one answer under any grouping.
pub plus_any_grouping : (a b c : ℕ) → plus (plus a b) c ≡ plus a (plus b c)
plus_any_grouping = by_channel _ _ _ _ _ _ _ _ (λ a b c p q h. omega arith)

low_fifteen : (a : ℕ) → colour_word (red_of a) (green_of a) (blue_of a) ≡ a % 32768
low_fifteen a = omega arith

-- Black, added, changes nothing in the low fifteen bits; bit 15 is cleared.
pub plus_black : (a : ℕ) → plus a black ≡ a % 32768
unfolding math_of
plus_black a = omega arith

-- Black, subtracted, changes nothing in the low fifteen bits; bit 15 is cleared.
pub minus_black : (a : ℕ) → minus a black ≡ a % 32768
unfolding math_of
minus_black a = omega arith

-- Subtracting one colour and then another is subtracting their sum.
pub minus_by_sum : (a b c : ℕ) → minus (minus a b) c ≡ minus a (plus b c)
minus_by_sum = by_channel _ _ _ _ _ _ _ _ (λ a b c p q h. omega arith)

-- Colours added one after another are one colour added, the one that they are joined into: of any number of fades.
pub any_number_added : (a : ℕ) (bs : List ℕ) → SameColour (plus_all a bs) (plus a (joined bs))
any_number_added a [] = omega (arith, plus_black a)
any_number_added a (b ∷ bs) = any_number_added (plus a b) bs ∙ (λ i. plus_any_grouping a b (joined bs) i % 32768)

-- And so of colours subtracted one after another.
pub any_number_subtracted : (a : ℕ) (bs : List ℕ) → SameColour (minus_all a bs) (minus a (joined bs))
any_number_subtracted a [] = omega (arith, minus_black a)
any_number_subtracted a (b ∷ bs) = any_number_subtracted (minus a b) bs ∙ (λ i. minus_by_sum a b (joined bs) i % 32768)
