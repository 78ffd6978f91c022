use mir.Syntax.{w16}
use Rattle.base_signed.proofs.Signed.{read_back}
use Rattle.oam.specs.Sprites.{sprite_of, sprite_with}
use Rattle.oam.proofs.inner.get_sprite.Goals as goal

pub returns : goal.returns
unfolding sprite_of
returns c = let back = read_back w16 c.signed_x-x.type_inv c.signed_x-x.ensures in
    let a = c.args in
    λ k. sprite_with (back k) (c.chr_base-base.ensures k) a.oam.now a.index
