use Rattle.sprite_choice.proofs.Search.{none_is}
use Rattle.sprite_choice.specs.Choice.{none_chosen}
use Rattle.sprite_choice.specs.declared.VisibleSprite.{VisibleSprite}
use mathlib.Core.List.{List}
use mathlib.Core.Bool.{false}
use mathlib.Core.Path.{ap}
use Rattle.sprite_choice.proofs.inner.none_chosen.Goals as goal

pub returns : goal.returns
unfolding none_chosen
returns c = ap (λ (l : List VisibleSprite). record { sprites = l; count = 0; tiles = 0; time_over = false; range_over = false }) (none_is c.blank.ensures)
