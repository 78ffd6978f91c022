-- What a screen shows of a layer.
use Prim.Native.Nat.{ℕ}
use mathlib.Core.Path.{◌≡◌, refl, sym, ap, ◌∙◌}
use mathlib.Core.Bool.{Bool, true, false, cond, ◌&&◌, ◌||◌, not, false≢true}
use mathlib.Core.List.{List}
use lib.ListN.{get_or}
use Rattle.base_lists.specs.Tab.{tab}
use Rattle.base_lists.specs.theorems.Tab.{tab_ext, get_d_tab}
use Rattle.line_window.specs.declared.Window.{Window}
use Rattle.line_window.specs.Window.{masked}
use Rattle.line_pixels.specs.declared.LinePixel.{LinePixel}
use Rattle.line_pixels.specs.declared.Candidate.{Candidate}
use Rattle.line_pixels.specs.declared.Lines.{Lines}
use Rattle.line_pixels.specs.Pixels.{no_pixel, none, deposited}
use Rattle.line_laying.specs.declared.Shown.{Shown}
use Rattle.line_laying.specs.Laying.{shown_at, on_main, on_sub, on_screen, lay_line, lay_lines, candidate_in}
use Rattle.line_laying.specs.steps.Laying.{marked}

-- a mask that is not made
pub mask_off : (on m : Bool) → on ≡ false → false ≡ on && m
mask_off true m e = absurd (false≢true (sym e))
mask_off false m e = refl

-- lit on neither screen
pub neither : (a b : Bool) → a || b ≡ false → (a ≡ false) × (b ≡ false)
neither true b e = absurd (false≢true (sym e))
neither false true e = absurd (false≢true (sym e))
neither false false e = (refl, refl)

-- a mask that is made for either screen bars the first, and the second
pub bars_main : (a b m : Bool) → a && ((a || b) && m) ≡ a && m
bars_main true b m = refl
bars_main false b m = refl

pub bars_sub : (a b m : Bool) → b && ((a || b) && m) ≡ b && m
bars_sub true true m = refl
bars_sub false true m = refl
bars_sub a false m = refl

-- a candidate whose opaque mark is cleared is laid as the candidate of a screen that does not show it
same : (h : LinePixel) (o t : Bool) (p : LinePixel) →
    deposited h (marked t (record { opaque = o; pixel = p })) ≡ deposited h (on_screen t (record { opaque = o; pixel = p }))
same h true true p = refl
same h true false p = refl
same h false t p = refl

pub laid_as_shown : (h : LinePixel) (t : Bool) (c : Candidate) → deposited h (marked t c) ≡ deposited h (on_screen t c)
laid_as_shown h t c = same h c.opaque t c.pixel

-- a line, by the mask that is made for both screens
pub by_mask : (lit win on : Bool) (w : Window) (row : List Candidate) (line : List LinePixel) {mask : List Bool} →
    mask ≡ tab 256 (λ (x : ℕ). on && masked w x) → ((m : Bool) → win && (on && m) ≡ win && m) →
    lay_line (λ x. on_screen (lit && not (win && get_or mask x false)) (candidate_in row x)) line
    ≡ lay_line (λ x. on_screen (shown_at lit win w x) (candidate_in row x)) line
by_mask lit win on w row line e law =
    tab_ext 256 _ _
    (λ x h. ap (λ (t : Bool). deposited (get_or line x no_pixel) (on_screen (lit && not t) (candidate_in row x)))
    (ap (λ (l : List Bool). win && get_or l x false) e
    ∙ (ap (λ (t : Bool). win && t) (get_d_tab (λ (k : ℕ). on && masked w k) 256 x false h) ∙ law (masked w x))))

-- an array that a rule fills is laid as the rule says
row_line : (shown : ℕ → Bool) (c : ℕ → Candidate) (line : List LinePixel) →
    lay_line (λ x. on_screen (shown x) (candidate_in (tab 256 c) x)) line ≡ lay_line (λ x. on_screen (shown x) (c x)) line
row_line shown c line =
    tab_ext 256 _ _
    (λ x h. ap (λ (k : Candidate). deposited (get_or line x no_pixel) (on_screen (shown x) k)) (get_d_tab c 256 x none h))

pub lay_row : (s : Shown) (c : ℕ → Candidate) (lines : Lines) → lay_lines s (candidate_in (tab 256 c)) lines ≡ lay_lines s c lines
lay_row s c lines =
    λ i. record { main = row_line (on_main s) c lines.main i; sub = row_line (on_sub s) c lines.sub i }

-- a column that is clear keeps its pixel
pub clear_kept : (h : LinePixel) (shown : Bool) (c : Candidate) → c.opaque ≡ false → h ≡ deposited h (on_screen shown c)
clear_kept h shown c e = sym (ap (λ (o : Bool). deposited h (cond (o && shown) c none)) e)
