-- Pixels as numbers: how a whole row holds its lines. Nothing here is needed to know what a row shows.
use Rattle.std.specs.Prelude.{ℕ, zero, suc, ◌+◌, ◌*◌, ◌/◌, ◌%◌, Bool, true, false, cond, List, [], get_or, leb}
use Rattle.line_pixels.specs.declared.Layer.{Layer}
use Rattle.line_pixels.specs.declared.Layer.TheVariants.{Backdrop, Bg1, Bg2, Bg3, Bg4, Obj}
use Rattle.line_pixels.specs.declared.Priority.{Priority}
use Rattle.line_pixels.specs.declared.LinePixel.{LinePixel}
use Rattle.line_pixels.specs.declared.Candidate.{Candidate}

-- what colour math needs of a pixel: its bit of cgadsub, or 6, which is no such bit, for a sprite without the math mark
abbrev pub code_of : Layer → Bool → ℕ
code_of Bg1 mark = 0
code_of Bg2 mark = 1
code_of Bg3 mark = 2
code_of Bg4 mark = 3
code_of Obj true = 4
code_of Obj false = 6
code_of Backdrop mark = 5

-- above the colour's 16 bits three of the code, and above these the priority's rank, one more than the priority
abbrev pub code_place : ℕ
code_place = 65536

abbrev pub rank_place : ℕ
rank_place = code_place * 8

abbrev pub head_of : ℕ → Priority → ℕ
head_of code z = code_place * code + rank_place * (z.0 + 1)

-- every head is below this: a priority is a byte, so a rank is 256 at most
abbrev pub head_end : ℕ
head_end = rank_place * 257

unfoldable pub packed : LinePixel → ℕ
packed p = head_of (code_of p.layer p.obj_math) p.z + p.color % 65536

-- a candidate: 0 where it is not opaque
unfoldable pub packed_if : Candidate → ℕ
packed_if c = cond c.opaque (packed c.pixel) 0

-- the number that is held after a candidate came
abbrev pub held_after : ℕ → ℕ → ℕ
held_after held c = cond (leb (held / rank_place) (c / rank_place)) c held

-- unless the candidate is barred
abbrev pub held_unless : Bool → ℕ → ℕ → ℕ
held_unless barred held c = held_after held (cond barred 0 c)

-- column x of a line after its first n layers: their rows over a backdrop, each except at the columns that are barred for it
unfoldable pub laid_to : ℕ → List (List ℕ) → List (List Bool) → ℕ → ℕ → ℕ
laid_to back rows barred x zero = back
laid_to back rows barred x (suc n) =
    held_unless (get_or (get_or barred n []) x false) (laid_to back rows barred x n) (get_or (get_or rows n []) x 0)

-- after all five
abbrev pub line_rule : ℕ → List (List ℕ) → List (List Bool) → ℕ → ℕ
line_rule back rows barred x = laid_to back rows barred x 5
