-- A layer's candidates on the screens, and the laying of one layer over both lines.
use Rattle.std.specs.Prelude.{ℕ, Bool, cond, ◌&&◌, not, List, get_or}
use Rattle.base_lists.specs.Tab.{tab}
use Rattle.line_window.specs.declared.Window.{Window}
use Rattle.line_window.specs.Window.{masked}
use Rattle.line_pixels.specs.declared.LinePixel.{LinePixel}
use Rattle.line_pixels.specs.declared.Candidate.{Candidate}
use Rattle.line_pixels.specs.declared.Lines.{Lines}
use Rattle.line_pixels.specs.Pixels.{no_pixel, none, deposited}
use Rattle.line_laying.specs.declared.Shown.{Shown}
use Rattle.line_laying.specs.declared.Candidates.{Candidates}

-- a layer is shown at x of a screen that lights it, unless its window is to bar it there and the mask holds x
abbrev pub shown_at : Bool → Bool → Window → ℕ → Bool
shown_at lit win w x = lit && not (win && masked w x)

abbrev pub on_main : Shown → ℕ → Bool
on_main s x = shown_at s.to_main s.win_main s.window x

abbrev pub on_sub : Shown → ℕ → Bool
on_sub s x = shown_at s.to_sub s.win_sub s.window x

-- its candidate is its opaque pixel, where it is shown
abbrev pub on_screen : Bool → Candidate → Candidate
on_screen shown c = cond (c.opaque && shown) c none

-- its candidates at x, if it has c there
abbrev pub candidates_of : Shown → ℕ → Candidate → Candidates
candidates_of s x c = record { main = on_screen (on_main s x) c; sub = on_screen (on_sub s x) c }

-- a line after the candidates c are laid over it
abbrev pub lay_line : (ℕ → Candidate) → List LinePixel → List LinePixel
lay_line c line = tab 256 (λ x. deposited (get_or line x no_pixel) (c x))

-- both lines after a layer is laid that has row x at column x
abbrev pub lay_lines : Shown → (ℕ → Candidate) → Lines → Lines
lay_lines s row lines = record {
  main = lay_line (λ x. (candidates_of s x (row x)).main) lines.main;
  sub = lay_line (λ x. (candidates_of s x (row x)).sub) lines.sub;
}

-- what an array of candidates has at column x
abbrev pub candidate_in : List Candidate → ℕ → Candidate
candidate_in row x = get_or row x none
