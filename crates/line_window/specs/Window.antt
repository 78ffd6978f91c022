-- A window: what it holds.
use Rattle.std.specs.Prelude.{ℕ, Bool, true, false, cond, not, ◌&&◌, ◌||◌, eqb, leb}
use Rattle.std.specs.Bool.{xor}
use Rattle.line_window.specs.declared.Window.{Window}

-- a window holds x from left to right edge inclusive; left above right is empty
abbrev pub inside : ℕ → ℕ → ℕ → Bool
inside left right x = leb left x && leb x right

-- OR, AND, XOR, XNOR by logic 0-3
abbrev pub logic_of : ℕ → Bool → Bool → Bool
logic_of logic a b =
    cond (eqb logic 0) (a || b)
    (cond (eqb logic 1) (a && b)
    (cond (eqb logic 2) (xor a b) (not (xor a b))))

-- none enabled: not masked; one: that one; both: by logic
abbrev pub combined : Bool → Bool → ℕ → Bool → Bool → Bool
combined false false logic a b = false
combined true false logic a b = a
combined false true logic a b = b
combined true true logic a b = logic_of logic a b

-- inversion comes first
unfoldable pub masked : Window → ℕ → Bool
masked w x =
    combined w.enable1 w.enable2 w.logic
    (xor (inside w.left1 w.right1 x) w.invert1)
    (xor (inside w.left2 w.right2 x) w.invert2)
