-- The number that a word is.
use Rattle.std.specs.Prelude.{ℕ, Option, Some, None, ◌+◌, ◌-◌, ◌*◌, ◌^◌, Bool, true, cond, ◌&&◌, List, [], ◌∷◌, ltb, leb, eqb, length, get_or, drop}
use Rattle.std.proofs.Math.Seq.{slice}

-- 0 to 9, A to F and a to f; 16 for a byte that is no digit
unfoldable pub digit_of : ℕ → ℕ
digit_of b =
    cond (leb 48 b && leb b 57) (b - 48)
    (cond (leb 65 b && leb b 70) (b - 55)
    (cond (leb 97 b && leb b 102) (b - 87) 16))

-- is each byte a digit of the base?
unfoldable pub are_digits : ℕ → List ℕ → Bool
are_digits base [] = true
are_digits base (b ∷ l) = ltb (digit_of b) base && are_digits base l

-- what digits say behind a number n
unfoldable pub behind : ℕ → ℕ → List ℕ → ℕ
behind base n [] = n
behind base n (b ∷ l) = behind base (n * base + digit_of b) l

-- a number, where the test holds and it has 64 bits
abbrev pub number_where : Bool → ℕ → Option ℕ
number_where test n = cond (test && ltb n (2 ^ 64)) (Some n) None

-- digits, at least one
unfoldable pub digits_of : ℕ → List ℕ → Option ℕ
digits_of base [] = None
digits_of base (b ∷ l) = number_where (are_digits base (b ∷ l)) (behind base 0 (b ∷ l))

-- does a word begin with `0x`?
abbrev pub is_hex : List ℕ → Bool
is_hex w = eqb (get_or w 0 0) 48 && eqb (get_or w 1 0) 120

-- `0x` and hexadecimal digits, or decimal digits
unfoldable pub word_number : List ℕ → Option ℕ
word_number w = cond (is_hex w) (digits_of 16 (drop 2 w)) (digits_of 10 w)

-- the number that the bytes from `from` to before `to` are
unfoldable pub number_between : List ℕ → ℕ → ℕ → Option ℕ
number_between s from to = cond (leb to (length s)) (word_number (slice from to s)) None
