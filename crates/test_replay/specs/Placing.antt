-- Where sprites stand, and how one is written to sprite memory.
use Rattle.std.specs.Prelude.{ℕ, ◌+◌, ◌*◌, ◌/◌, ◌%◌, Bool, cond, List, [], ◌∷◌, eqb, get_or, set}
use Rattle.test_digest.specs.Digest.{second_table_byte, one_of}
use Rattle.test_replay.specs.declared.placing.Place.{Place}
use Rattle.test_replay.specs.declared.placing.Place.TheVariants.{Any, Edge, NearEdge, Pile, Across, Hidden}

-- the edge at k, and any column at 7; one column back, there, or one on
abbrev pub beside_of : ℕ → ℕ → ℕ → ℕ
beside_of k a b =
    (cond (eqb (k % 8) 7) b (get_or (0 ∷ 256 ∷ 504 ∷ 240 ∷ 448 ∷ 480 ∷ 496 ∷ 0 ∷ []) (k % 8) 0) % 512 + 511 + a / 8 % 3) % 512

abbrev pub column_of : Place → ℕ → ℕ → ℕ
column_of Any a b = b % 512
column_of Edge a b = beside_of (a % 8) a b
column_of NearEdge a b = beside_of (a % 4) a b
column_of Pile a b = (496 + b % 64) % 512
column_of Across a b = (464 + b % 304) % 512
column_of Hidden a b = 300

-- sprite i's two bits in the second table, then its four bytes
unfoldable pub with_of : List ℕ → ℕ → ℕ → ℕ → ℕ → Bool → List ℕ
with_of l i x9 top d large =
    set
    (set
    (set
    (set
    (set l (512 + i / 4) (second_table_byte (get_or l (512 + i / 4) 0) (i % 4) ((x9 / 256 % 2 + one_of large * 2) % 4)))
    (i * 4)
    (x9 % 256))
    (i * 4 + 1)
    (top % 256))
    (i * 4 + 2)
    (d % 256))
    (i * 4 + 3)
    (d / 256)
