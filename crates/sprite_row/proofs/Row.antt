-- The ways through `in_range`, over the values that its calls return.
use Rattle.std.proofs.Common.{◌≡◌, ℕ, ◌-◌, ◌<◌, ◌≤◌, Bool, true, false, not, ltb, leb, sym, refl, ◌∙◌, arith, le-ltb, lt-ltb, leb-false, leb-true}
use Rattle.oam.specs.declared.Sprite.{Sprite}
use Rattle.oam.specs.declared.SpriteSize.{SpriteSize}
use Rattle.sprite_row.specs.SpriteRow.{size_in, line_of, lines_covered, meets_row, passes, in_range, x9}

-- its last column is below 512
pub ends_by : (a : ℕ) → leb a 512 ≡ ltb (a - 1) 512
ends_by a = by_cases (leb a 512) refl
  where
    by_cases : (t : Bool) → leb a 512 ≡ t → leb a 512 ≡ ltb (a - 1) 512
    by_cases true e = let h : a ≤ 512 = leb-true a 512 e in e ∙ sym (lt-ltb (a - 1) 512 (omega arith))
    by_cases false e = let h : 512 < a = leb-false a 512 e in e ∙ sym (le-ltb (a - 1) 512 (omega arith))

module _ (row objsel : ℕ) (interlace : Bool) (s : Sprite) {size : SpriteSize} {lines line : ℕ}
    (is-size : size ≡ size_in objsel s) (is-lines : lines ≡ lines_covered size interlace) (is-line : line ≡ line_of row s.y) where
  pub misses : lines ≤ line → ltb line lines ≡ in_range row objsel interlace s
  unfolding meets_row
  misses h = rw (← is-size, ← is-lines, ← is-line, le-ltb line lines h)

  pub meets : {x : ℕ} {p : Bool} → line < lines → x ≡ x9 s → p ≡ passes x size.width →
      not p ≡ in_range row objsel interlace s
  unfolding meets_row
  meets {x} h is_x is-p = rw (← is-size, ← is-lines, ← is-line, ← is_x, lt-ltb line lines h, is-p)
