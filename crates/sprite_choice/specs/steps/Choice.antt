-- The sprite at a place of the search.
use Rattle.std.specs.Prelude.{ℕ, List}
use Rattle.sprite_choice.specs.declared.VisibleSprite.{VisibleSprite}
use Rattle.sprite_choice.specs.Choice.{search_at, visible}

-- the sprite at place k of a search from a start
abbrev pub placed_at : List ℕ → ℕ → ℕ → ℕ → VisibleSprite
placed_at oam objsel start k = visible oam objsel (search_at start k)
