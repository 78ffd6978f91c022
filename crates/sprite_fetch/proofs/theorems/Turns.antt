-- The fetched tiles are the later sprites' and then the sprite's own.
use Rattle.std.specs.Prelude.{ℕ, ◌≡◌, List, ◌∷◌, ◌++◌, length, drop}
use Rattle.std.proofs.Common.{sym, ap, ◌∙◌}
use Rattle.std.proofs.Math.Seq.{drop-append_seam}
use Rattle.base_lists.specs.theorems.Each.{take_append}
use Rattle.oam.specs.declared.Sprite.{Sprite}
use Rattle.sprite_fetch.specs.Fetch.{counting_tiles, fetch_order, fetched, fetched_of}

module _ (limit objsel : ℕ) (s : Sprite) (later : List Sprite) where
  -- the fetched tiles are those of the sprites that were chosen later, and then its own
  pub in_turn : fetched limit objsel (s ∷ later) ≡ fetched limit objsel later ++ fetched_of limit objsel s later
  unfolding fetch_order fetched_of
  in_turn = take_append limit (fetch_order objsel later) (counting_tiles objsel s)

  -- so its own are what it adds to theirs
  pub own_added : fetched_of limit objsel s later ≡ drop (length (fetched limit objsel later)) (fetched limit objsel (s ∷ later))
  own_added =
      sym
      (ap (drop (length (fetched limit objsel later))) in_turn
      ∙ drop-append_seam (fetched limit objsel later) (fetched_of limit objsel s later))
