-- A layer that is lit on neither screen lays nothing, and what a window hides is no candidate.
use Rattle.std.specs.Prelude.{ℕ, ◌≡◌, refl, Bool, true, false, cond, ◌&&◌, not, List, length, get_or}
use Rattle.std.proofs.Common.{sym, ap, ◌∙◌}
use Rattle.std.proofs.Math.Bool.{and-false}
use Rattle.base_lists.specs.theorems.Tab.{by_get_d}
use Rattle.line_window.specs.Window.{masked}
use Rattle.line_pixels.specs.declared.LinePixel.{LinePixel}
use Rattle.line_pixels.specs.declared.Candidate.{Candidate}
use Rattle.line_pixels.specs.declared.Lines.{Lines}
use Rattle.line_pixels.specs.Pixels.{no_pixel, none, deposited}
use Rattle.line_laying.specs.declared.Shown.{Shown}
use Rattle.line_laying.specs.Laying.{on_screen, candidates_of, lay_line, lay_lines}

-- what is not shown leaves the held pixel
kept : (h : LinePixel) (o : Bool) (p : LinePixel) → h ≡ deposited h (on_screen false (record { opaque = o; pixel = p }))
kept h true p = refl
kept h false p = refl

-- so it leaves a line on whose screen it is not lit
pub unlit_line : {lit : Bool} (barred : ℕ → Bool) (row : ℕ → Candidate) (line : List LinePixel) → lit ≡ false → length line ≡ 256 →
    line ≡ lay_line (λ x. on_screen (lit && not (barred x)) (row x)) line
unlit_line barred row line e long =
    by_get_d 256 _ line no_pixel long
    (λ x h. kept (get_or line x no_pixel) (row x).opaque (row x).pixel
    ∙ ap (λ (t : Bool). deposited (get_or line x no_pixel) (on_screen (t && not (barred x)) (row x))) (sym e))

pub unlit_lays_nothing : (s : Shown) (row : ℕ → Candidate) (lines : Lines) → s.to_main ≡ false → s.to_sub ≡ false →
    length lines.main ≡ 256 → length lines.sub ≡ 256 → lay_lines s row lines ≡ lines
unlit_lays_nothing s row lines main sub long-main long-sub =
    λ i. record {
      main = sym (unlit_line (λ x. s.win_main && masked s.window x) row lines.main main long-main) i;
      sub = sym (unlit_line (λ x. s.win_sub && masked s.window x) row lines.sub sub long-sub) i;
    }

-- Where the mask holds x and bars the screen, the layer has no candidate there: nothing of the layer shows instead.
hidden : (lit : Bool) (c : Candidate) {win m : Bool} → win ≡ true → m ≡ true → on_screen (lit && not (win && m)) c ≡ none
hidden lit c e f = (λ i. on_screen (lit && not (e i && f i)) c) ∙ (λ i. cond (c.opaque && and-false lit i) c none) ∙ (λ i. cond (and-false c.opaque i) c none)

pub hidden_on_main : (s : Shown) (x : ℕ) (c : Candidate) → s.win_main ≡ true → masked s.window x ≡ true →
    (candidates_of s x c).main ≡ none
hidden_on_main s x c = hidden s.to_main c

pub hidden_on_sub : (s : Shown) (x : ℕ) (c : Candidate) → s.win_sub ≡ true → masked s.window x ≡ true →
    (candidates_of s x c).sub ≡ none
hidden_on_sub s x c = hidden s.to_sub c
