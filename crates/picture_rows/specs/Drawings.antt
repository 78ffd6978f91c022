-- Drawing rows into a picture, one after another: a drawing is a row and its scene.
use Rattle.std.specs.Prelude.{ℕ, ◌<◌, ◌≡◌, Bool, true, false, cond, eqb, Result}
use mathlib.Core.List.{List, [], ◌∷◌, Memᴰ}
use Rattle.base_refusal.specs.Answer.{Answer, value, refused, Outcome}
use Rattle.base_refusal.specs.declared.Refusal.{Refusal}
use Rattle.base_refusal.specs.Results.{means}
use Rattle.base_lists.specs.Each.{Each}
use Rattle.base_lists.specs.Keep.{keep}
use Rattle.row_tests.specs.Tests.{draw_tests}
use Rattle.registers.specs.Scene.{Scene}
use Rattle.row_renderer.specs.Renderer.{scene_row, with_row, picture_outcome}

-- a drawing: a row, and the scene that it is drawn from
pub record Drawing : Type 0 where
  pub scene : Scene
  pub row : ℕ

abbrev pub bytes_of : Drawing → List ℕ
bytes_of d = scene_row d.scene d.row

-- a picture after the drawings ds, in that order
unfoldable pub draw_all : List Drawing → List ℕ → List ℕ
draw_all [] p = p
draw_all (d ∷ ds) p = draw_all ds (with_row p d.row (bytes_of d))

-- what row y shows after them, if it showed `held` before: the last drawing of that row
unfoldable pub last_of : List Drawing → ℕ → List ℕ → List ℕ
last_of [] y held = held
last_of (d ∷ ds) y held = last_of ds y (cond (eqb d.row y) (bytes_of d) held)

-- they are rows of a picture
abbrev pub Rows : List Drawing → Type 0
Rows ds = Each (λ d. d.row < 224) ds

-- different drawings are of different rows
abbrev pub DifferentRows : List Drawing → Type 0
DifferentRows ds = (d e : Drawing) → Memᴰ d ds → Memᴰ e ds → d.row ≡ e.row → d ≡ e

-- each of ds is among es
abbrev pub Within : List Drawing → List Drawing → Type 0
Within ds es = (d : Drawing) → Memᴰ d ds → Memᴰ d es

-- Calls of `render_into_picture` with any drawings ds, from one picture to another: each takes the picture that the one before
-- left, and is known by its contract alone.
pub data DrawCalls : List ℕ → List Drawing → List ℕ → Type 0 where
  none : {p : List ℕ} → DrawCalls p [] p
  call : {p q : List ℕ} {d : Drawing} {ds : List Drawing} (v : Result Unit Refusal) (after : List ℕ) →
      ◌≡◌ {A = Outcome Unit (List ℕ)} (record { said = means v; left = after }) (picture_outcome d.scene d.row p) →
      DrawCalls after ds q → DrawCalls p (d ∷ ds) q

abbrev pub accepts : Answer Unit → Bool
accepts (value _) = true
accepts (refused n) = false

-- the scene and the row are not refused
abbrev pub drawable : Drawing → Bool
drawable d = accepts (draw_tests d.scene d.row true)

-- what is drawn of ds: a call that is refused draws nothing
abbrev pub accepted : List Drawing → List Drawing
accepted ds = keep drawable ds
