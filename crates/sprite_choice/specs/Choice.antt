-- The sprites chosen for a row: of the search order, those that the row meets and that are not passed over; the first 32
-- of them; the sum of their counting tiles; the two flags.
use Rattle.std.specs.Prelude.{ℕ, ◌+◌, ◌/◌, ◌%◌, Bool, false, cond, List, [], ◌∷◌, map, length, take, ltb, eqb}
use Rattle.base_refusal.specs.Answer.{Outcome, outcome}
use Rattle.base_lists.specs.Tab.{tab}
use Rattle.base_lists.specs.Keep.{keep}
use Rattle.base_lists.specs.Places.{places}
use Rattle.row_tests.specs.Tests.{choice_tests}
use Rattle.oam.specs.Sprites.{sprite_of, blank_sprite}
use Rattle.sprite_row.specs.SpriteRow.{in_range, tiles_of}
use Rattle.sprite_choice.specs.declared.VisibleSprite.{VisibleSprite}
use Rattle.sprite_choice.specs.declared.Chosen.{Chosen}

-- the two limits of a row
abbrev pub sprite_limit : ℕ
sprite_limit = 32

abbrev pub tile_limit : ℕ
tile_limit = 34

-- where the search starts: at 0, or at the low byte of oamadd / 2 where its bit 15 is set
abbrev pub search_start : ℕ → ℕ
search_start oamadd = cond (eqb (oamadd / 32768) 1) (oamadd % 256 / 2) 0

-- the search order: the numbers of the 128 sprites from there on, which wrap at 128
abbrev pub search_at : ℕ → ℕ → ℕ
search_at start k = (start + k) % 128

unfoldable pub search_order : ℕ → List ℕ
search_order oamadd = tab 128 (search_at (search_start oamadd))

-- of a list of numbers, those whose sprite the row meets and that are not passed over
unfoldable pub found : List ℕ → ℕ → ℕ → Bool → List ℕ → List ℕ
found oam row objsel interlace = keep (λ (i : ℕ). in_range row objsel interlace (sprite_of oam i objsel))

-- the sum of the counting tiles of a list of sprites
unfoldable pub tile_sum : List ℕ → ℕ → List ℕ → ℕ
tile_sum oam objsel [] = 0
tile_sum oam objsel (i ∷ l) = tiles_of objsel (sprite_of oam i objsel) + tile_sum oam objsel l

-- sprite i with its number
abbrev pub visible : List ℕ → ℕ → ℕ → VisibleSprite
visible oam objsel i = record { index = i; sprite = sprite_of oam i objsel }

-- what stands in a place that holds no sprite
abbrev pub blank_place : VisibleSprite
blank_place = record { index = 0; sprite = blank_sprite }

-- the choice, from the sprites found
unfoldable pub choice_of : List ℕ → ℕ → List ℕ → Chosen
choice_of oam objsel l =
    record {
      sprites = places sprite_limit blank_place (map (visible oam objsel) (take sprite_limit l));
      count = length (take sprite_limit l);
      tiles = tile_sum oam objsel (take sprite_limit l);
      time_over = ltb tile_limit (tile_sum oam objsel (take sprite_limit l));
      range_over = ltb sprite_limit (length l);
    }

abbrev pub chosen_of : List ℕ → ℕ → ℕ → ℕ → Bool → Chosen
chosen_of oam row objsel oamadd interlace = choice_of oam objsel (found oam row objsel interlace (search_order oamadd))

-- nothing chosen
unfoldable pub none_chosen : Chosen
none_chosen = record { sprites = places sprite_limit blank_place []; count = 0; tiles = 0; time_over = false; range_over = false }

-- what choosing for row y leaves
abbrev pub choice_outcome : List ℕ → ℕ → ℕ → ℕ → Bool → Outcome Unit Chosen
choice_outcome oam y objsel oamadd interlace =
    outcome (choice_tests y (length oam)) tt (chosen_of oam y objsel oamadd interlace) none_chosen
