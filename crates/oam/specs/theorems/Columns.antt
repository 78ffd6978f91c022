-- Nine bits as a signed column, and back: a sprite's x is -256 to 255, and its nine bits are those of its memory.
use Rattle.std.specs.Prelude.{ℕ, ◌<◌, ◌≤◌, ◌*◌, ◌≡◌, refl, Bool, true, false, List, ltb, get_or}
use Rattle.std.proofs.Common.{arith, lt-ltb, ltb-true, ltb-false}
use Rattle.std.specs.Int.Signed.{mag}
use Rattle.base_signed.specs.Remainder.{remainder}
use Rattle.oam.specs.Sprites.{signed9, x9_of, sprite_of}

module _ (n : ℕ) (h : n < 512) where
  pub nine_back : remainder (signed9 n) 512 ≡ n
  nine_back = by_cases (ltb n 256) refl
    where
      by_cases : (t : Bool) → ltb n 256 ≡ t → remainder (signed9 n) 512 ≡ n
      by_cases true e = rw e (omega arith)
      by_cases false e = let l : 256 ≤ n = ltb-false n 256 e in rw (e, lt-ltb n 512 h) (omega arith)

  -- mag is n of n, and n - 1 of -n
  pub column_range : mag (signed9 n) < 256
  column_range = by_cases (ltb n 256) refl
    where
      by_cases : (t : Bool) → ltb n 256 ≡ t → mag (signed9 n) < 256
      by_cases true e = let l : n < 256 = ltb-true n 256 e in rw e l
      by_cases false e = let l : 256 ≤ n = ltb-false n 256 e in rw (e, lt-ltb n 512 h) (omega arith)

-- of a memory of bytes
module _ (oam : List ℕ) (i objsel : ℕ) (b : get_or oam (i * 4) 0 < 256) where
  nine : x9_of oam i < 512
  nine = omega arith

  pub sprite_nine : remainder (sprite_of oam i objsel).x 512 ≡ x9_of oam i
  unfolding sprite_of
  sprite_nine = nine_back (x9_of oam i) nine

  pub sprite_range : mag (sprite_of oam i objsel).x < 256
  unfolding sprite_of
  sprite_range = column_range (x9_of oam i) nine
