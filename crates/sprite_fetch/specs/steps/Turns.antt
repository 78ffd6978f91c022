-- The fetched tiles, sprite by sprite: each sprite in its turn adds the first of its counting tiles, as many as the limit leaves.
use Rattle.std.specs.Prelude.{ℕ, ◌-◌, ◌≡◌, List, map, length, take}
use Rattle.base_lists.specs.theorems.Each.{take_map}
use Rattle.oam.specs.declared.Sprite.{Sprite}
use Rattle.sprite_fetch.specs.Fetch.{tile, counting_places, fetch_order, fetched_of}

module _ (limit objsel : ℕ) (s : Sprite) (later : List Sprite) where
  -- how many the limit leaves to the sprite
  abbrev pub leaves : ℕ
  leaves = limit - length (fetch_order objsel later)

  -- its own, by their places
  pub own_places : fetched_of limit objsel s later ≡ map (tile s) (take leaves (counting_places objsel s))
  unfolding fetched_of
  own_places = take_map (tile s) leaves (counting_places objsel s)
