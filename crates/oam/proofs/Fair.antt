-- A sprite is 8 to 64 wide and high, and whole tiles wide: one computed test of the table, and a law that turns it into the bounds at each
-- setting.
use Prim.Native.Nat.{ℕ, zero, suc, ◌/◌, ◌%◌, ◌<◌, ◌≤◌}
use mathlib.Core.Path.{◌≡◌}
use mathlib.Core.Bool.{Bool, true, false, ◌&&◌}
use mathlib.Core.List.{List, [], ◌∷◌}
use native.Mathlib.Omega.{arith}
use lib.Dec.{T, leb, eqb, leb→le, eqb→eq}
use lib.Ieee.Fits.{and_l, and_r}
use lib.ListN.{length, get_or}
use Rattle.oam.specs.declared.SpriteSize.{SpriteSize}
use Rattle.oam.specs.declared.inner.Sizes.{Sizes}
use Rattle.oam.specs.Sprites.{settings, no_sizes, sizes_of, size_of}
use Rattle.oam.specs.steps.Sprites.{Sized}

abbrev between : ℕ → Bool
between n = leb 8 n && leb n 64

abbrev fair : SpriteSize → Bool
fair s = between s.width && (between s.height && eqb (s.width % 8) 0)

abbrev all : List Sizes → Bool
all [] = true
all (p ∷ l) = (fair p.small && fair p.large) && all l

is_fair : (s : SpriteSize) → T (fair s) → Sized s
is_fair s t =
    let w = and_l (between s.width) (between s.height && eqb (s.width % 8) 0) t in
    let r = and_r (between s.width) (between s.height && eqb (s.width % 8) 0) t in
    let h = and_l (between s.height) (eqb (s.width % 8) 0) r in
    record {
      wide = leb→le 8 s.width (and_l (leb 8 s.width) (leb s.width 64) w);
      narrow = leb→le s.width 64 (and_r (leb 8 s.width) (leb s.width 64) w);
      high = leb→le 8 s.height (and_l (leb 8 s.height) (leb s.height 64) h);
      low = leb→le s.height 64 (and_r (leb 8 s.height) (leb s.height 64) h);
      whole = eqb→eq (s.width % 8) 0 (and_r (between s.height) (eqb (s.width % 8) 0) r);
    }

at : (l : List Sizes) → T (all l) → (i : ℕ) → i < length l →
    Sized (get_or l i no_sizes).small × Sized (get_or l i no_sizes).large
at [] t i h = absurd (omega arith)
at (p ∷ l) t zero h =
    let f = and_l (fair p.small && fair p.large) (all l) t in
    (is_fair p.small (and_l (fair p.small) (fair p.large) f), is_fair p.large (and_r (fair p.small) (fair p.large) f))
at (p ∷ l) t (suc i) h = at l (and_r (fair p.small && fair p.large) (all l) t) i (omega arith)

pub size_fair : (objsel : ℕ) (large : Bool) → objsel < 256 → Sized (size_of objsel large)
unfolding size_of sizes_of
size_fair objsel true h = (at settings tt (objsel / 32) (omega arith)).1
size_fair objsel false h = (at settings tt (objsel / 32) (omega arith)).0

-- what is below 8 and none of 0 to 6 is the last setting
up : (k n : ℕ) → k ≤ n → (n ≡ k → ⊥) → suc k ≤ n
up k n h e = omega (arith, e)

pub is_last : (n : ℕ) → n < 8 → (n ≡ 0 → ⊥) → (n ≡ 1 → ⊥) → (n ≡ 2 → ⊥) → (n ≡ 3 → ⊥) → (n ≡ 4 → ⊥) → (n ≡ 5 → ⊥) →
    (n ≡ 6 → ⊥) → n ≡ 7
is_last n h a b c d e f g =
    let l : 7 ≤ n = up 6 n (up 5 n (up 4 n (up 3 n (up 2 n (up 1 n (up 0 n (omega arith) a) b) c) d) e) f) g in
    below n h l
  where
    below : (n : ℕ) → n < 8 → 7 ≤ n → n ≡ 7
    below n h l = omega arith
