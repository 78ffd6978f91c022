-- A sprite memory that is drawn.
use Rattle.std.specs.Prelude.{ℕ, zero, suc, ◌*◌, List, replicate}
use Rattle.test_replay.specs.Drawing.{after_of, drawn_four}
use Rattle.test_replay.specs.Placing.{column_of, with_of}
use Rattle.test_replay.specs.declared.drawing.Four.{Four}
use Rattle.test_replay.specs.declared.placing.Drawn.{Drawn}

-- the numbers of sprite k
abbrev pub numbers_of : ℕ → ℕ → Four
numbers_of k x = drawn_four (after_of (k * 4) x)

-- sprite i, of its four numbers and what is made of them
abbrev pub drawn_sprite : List ℕ → ℕ → Four → Drawn → List ℕ
drawn_sprite l i n d = with_of l i (column_of d.place n.a n.b) d.top n.d d.large

-- the first n sprites
unfoldable pub sprites_at : (ℕ → Drawn) → ℕ → ℕ → List ℕ
sprites_at g zero x = replicate 544 0
sprites_at g (suc n) x = drawn_sprite (sprites_at g n x) n (numbers_of n x) (g n)

abbrev pub drawn_memory : (ℕ → Drawn) → ℕ → List ℕ
drawn_memory g x = sprites_at g 128 x
