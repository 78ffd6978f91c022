-- What is seen of many layers at a pixel, and both lines after many layings.
use Rattle.std.specs.Prelude.{ℕ, ◌≤◌, ◌<◌, ◌≡◌, true}
use mathlib.Core.List.{List, [], ◌∷◌, Memᴰ}
use Rattle.line_pixels.specs.declared.LinePixel.{LinePixel}
use Rattle.line_pixels.specs.declared.Candidate.{Candidate}
use Rattle.line_pixels.specs.declared.Lines.{Lines}
use Rattle.line_laying.specs.declared.Shown.{Shown}
use Rattle.line_laying.specs.Laying.{candidates_of, lay_lines}

module _ {S : Type 0} where
  -- layer k has a candidate, and its priority
  abbrev pub Has : (S → Candidate) → S → Type 0
  Has c k = (c k).opaque ≡ true

  abbrev pub nearness : (S → Candidate) → S → ℕ
  nearness c k = (c k).pixel.z.0

  -- p is what is seen of the candidates c over the pixel b: the one of greatest priority, or b where there is none
  pub data Seen (c : S → Candidate) (b p : LinePixel) : Type 0 where
    bare : ((k : S) → Has c k → ⊥) → p ≡ b → Seen c b p
    nearest : (k : S) → Has c k → ((j : S) → Has c j → nearness c j ≤ nearness c k) → p ≡ (c k).pixel → Seen c b p

  -- of the layers' rows c what each has at column x
  abbrev pub at : (S → ℕ → Candidate) → ℕ → S → Candidate
  at c x k = c k x

  -- each layer that has a candidate at some column is among ks
  abbrev pub Covers : (S → ℕ → Candidate) → List S → Type 0
  Covers c ks = (x : ℕ) → x < 256 → (k : S) → Has (at c x) k → Memᴰ k ks

  -- no two candidates tie
  abbrev pub NoTies : (S → Candidate) → Type 0
  NoTies c = (j k : S) → Has c j → Has c k → nearness c j ≡ nearness c k → j ≡ k

  module _ (shown : S → Shown) (row : S → ℕ → Candidate) where
    -- both lines after the layers ks, in that order, one laying after another
    unfoldable pub lay_all : List S → Lines → Lines
    lay_all [] lines = lines
    lay_all (k ∷ ks) lines = lay_all ks (lay_lines (shown k) (row k) lines)

    -- the candidates of layer k on the main screen, column by column, and on the sub screen
    abbrev pub main_row : S → ℕ → Candidate
    main_row k x = (candidates_of (shown k) x (row k x)).main

    abbrev pub sub_row : S → ℕ → Candidate
    sub_row k x = (candidates_of (shown k) x (row k x)).sub
