-- The line of a change: its kind, the first byte and the number of bytes; a count and a value add old and new. The numbers are
-- in decimal, each after one space, and the line ends with a newline.
use Rattle.std.specs.Prelude.{ℕ, zero, suc, ◌+◌, ◌/◌, ◌%◌, ◌≡◌, cond, List, [], ◌∷◌, ◌++◌, ltb, length}
use Rattle.io.specs.Counts.{IsPrefixLen}
use Rattle.base_lists.specs.Places.{places}
use Rattle.salvage.specs.declared.Kind.{Kind}
use Rattle.salvage.specs.declared.Kind.TheVariants.{Cut, Fill, Count, Value}
use Rattle.salvage.specs.declared.Change.{Change}
use Rattle.salvage_text.specs.declared.TextLine.{TextLine}

-- the digits of n in ASCII with no zero in front, where f digits hold n
unfoldable pub digits_by : ℕ → ℕ → List ℕ
digits_by zero n = []
digits_by (suc f) n = cond (ltb n 10) ((48 + n) ∷ []) (digits_by f (n / 10) ++ (48 + n % 10) ∷ [])

-- 20 digits hold every number of 64 bits
unfoldable pub decimal : ℕ → List ℕ
decimal n = digits_by 20 n

-- numbers, each after a space
unfoldable pub spaced : List ℕ → List ℕ
spaced [] = []
spaced (n ∷ l) = 32 ∷ decimal n ++ spaced l

-- the words cut, fill, count and value
abbrev pub kind_name : Kind → List ℕ
kind_name Cut = 99 ∷ 117 ∷ 116 ∷ []
kind_name Fill = 102 ∷ 105 ∷ 108 ∷ 108 ∷ []
kind_name Count = 99 ∷ 111 ∷ 117 ∷ 110 ∷ 116 ∷ []
kind_name Value = 118 ∷ 97 ∷ 108 ∷ 117 ∷ 101 ∷ []

-- what a line of that kind adds: a count and a value have old and new
abbrev pub added_numbers : Kind → ℕ → ℕ → List ℕ
added_numbers Cut old new = []
added_numbers Fill old new = []
added_numbers Count old new = old ∷ new ∷ []
added_numbers Value old new = old ∷ new ∷ []

-- the kind, the first byte, the number of bytes, what is added, and a newline
unfoldable pub change_line : Change → List ℕ
change_line c =
    kind_name c.kind ++ spaced (c.first ∷ c.bytes ∷ added_numbers c.kind c.old c.new) ++ 10 ∷ []

-- these bytes in the 90 of a text, with 0 after them
unfoldable pub text_line : List ℕ → TextLine
text_line bytes = record { text = places 90 0 bytes; size = length bytes }

-- a line is that of these bytes, and its size is within its text
pub record LineIs (line : TextLine) (bytes : List ℕ) : Type 0 where
  pub fits : IsPrefixLen line.size line.text
  pub is : line ≡ text_line bytes
