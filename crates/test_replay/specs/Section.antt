-- The bytes of which a scene's registers are drawn.
use Rattle.std.specs.Prelude.{ℕ, ◌+◌, ◌/◌, ◌%◌, cond, List, eqb, get_or}
use Rattle.base_lists.specs.Tab.{tab}
use Rattle.test_replay.specs.Drawing.{drawn_word}

-- byte k of the numbers drawn, counted from 1, the low byte of each number first
abbrev pub drawn_byte : ℕ → ℕ → ℕ
drawn_byte k x =
    cond (eqb k 0) 0 (cond (eqb (k % 2) 1) (drawn_word ((k + 1) / 2) x) (drawn_word ((k + 1) / 2) x / 256)) % 256

unfoldable pub drawn_section : List ℕ → ℕ → List ℕ
drawn_section order x = tab 48 (λ k. drawn_byte (get_or order k 0) x)
