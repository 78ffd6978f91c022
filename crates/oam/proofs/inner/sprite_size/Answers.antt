use Rattle.oam.proofs.Fair.{size_fair}
use Rattle.oam.specs.Sprites.{size_of}
use Rattle.oam.specs.steps.Sprites.{Sized}
use Rattle.oam.specs.declared.SpriteSize.{SpriteSize}
use native.Mathlib.Omega.{arith}
use mathlib.Core.Bool.{Bool}
use mathlib.Core.Path.{◌≡◌, ◌∙◌, sym, subst}
use Prim.Native.Nat.{ℕ, ◌<◌}
use Rattle.oam.proofs.inner.sprite_size.Goals as goal

whole : (objsel : ℕ) (large : Bool) {s : SpriteSize} → objsel < 256 → s ≡ size_of objsel large → (s ≡ size_of objsel large) × Sized s
whole objsel large h e = (e, subst Sized (sym e) (size_fair objsel large h))

pub returns-then-large : goal.returns-then-large
unfolding size_of
returns-then-large c = let a = c.args in whole a.objsel a.large (omega arith) ((λ i. (c.sizes_of-sizes.ensures i).large) ∙ simp c.if-large.true)

pub returns-else-large : goal.returns-else-large
unfolding size_of
returns-else-large c = let a = c.args in whole a.objsel a.large (omega arith) ((λ i. (c.sizes_of-sizes.ensures i).small) ∙ simp c.if-large.false)
