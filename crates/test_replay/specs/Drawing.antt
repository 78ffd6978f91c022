-- The numbers that a list draws.
use Rattle.std.specs.Prelude.{ℕ, zero, suc, ◌+◌, ◌/◌, ◌%◌, cond, eqb, List}
use Rattle.base_lists.specs.Tab.{tab}
use Rattle.test_numbers.specs.Generator.{next_of}
use Rattle.test_replay.specs.declared.drawing.Four.{Four}

-- the generator's state after n numbers
unfoldable pub after_of : ℕ → ℕ → ℕ
after_of zero x = x
after_of (suc n) x = next_of (after_of n x)

-- the n-th number
abbrev pub drawn_word : ℕ → ℕ → ℕ
drawn_word n x = after_of n x / 65536

-- 0, the last, and any number up to it
abbrev pub ends_of : ℕ → ℕ → ℕ → ℕ
ends_of k last drawn = cond (eqb k 0) 0 (cond (eqb k 1) last (drawn % (last + 1)))

-- the next 256
unfoldable pub drawn_words : ℕ → List ℕ
drawn_words x = tab 256 (λ i. drawn_word (i + 1) x)

-- the next four, and the state after them
abbrev pub drawn_four : ℕ → Four
drawn_four x = record { a = drawn_word 1 x; b = drawn_word 2 x; c = drawn_word 3 x; d = drawn_word 4 x; x = after_of 4 x }
