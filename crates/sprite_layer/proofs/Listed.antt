-- The sprites that `choose` lists are the definition's, and each has a palette of its eight.
use Prim.Native.Nat.{ℕ, zero, suc, ◌<◌, ◌≤◌}
use mathlib.Core.Path.{◌≡◌, sym, ap, ◌∙◌}
use mathlib.Core.List.{List, [], ◌∷◌, map, map-map}
use native.Mathlib.Omega.{arith}
use lib.ListN.{length, get_or, take, length-map, length-take}
use Rattle.base_lists.specs.Places.{places}
use Rattle.base_lists.specs.theorems.Places.{take_places, get_d_places}
use Rattle.registers.specs.declared.PPURegisters.{PPURegisters}
use Rattle.registers.specs.Screen.{sprite_interlace}
use Rattle.oam.specs.Sprites.{sprite_of}
use Rattle.sprite_choice.specs.declared.VisibleSprite.{VisibleSprite}
use Rattle.sprite_choice.specs.declared.Chosen.{Chosen}
use Rattle.sprite_choice.specs.Choice.{search_order, found, visible, blank_place, choice_of, chosen_of}
use Rattle.sprite_fetch.specs.steps.Walk.{AllFair, sprites_of}
use Rattle.sprite_layer.specs.Sprites.{chosen_sprites}

module _ (oam : List ℕ) (objsel : ℕ) where
  fair_at : (l : List ℕ) (k : ℕ) → (get_or (map (visible oam objsel) l) k blank_place).sprite.palette < 8
  unfolding sprite_of
  fair_at [] k = omega arith
  fair_at (i ∷ l) zero = omega arith
  fair_at (i ∷ l) (suc k) = fair_at l k

  module _ (all : List ℕ) where
    abbrev first : List ℕ
    first = take 32 all

    seen : length (map (visible oam objsel) first) ≡ length first
    seen = length-map first (visible oam objsel)

    listed : sprites_of (choice_of oam objsel all).count (choice_of oam objsel all).sprites ≡ map (λ (i : ℕ). sprite_of oam i objsel) first
    unfolding choice_of
    listed =
        ap (λ (n : ℕ). sprites_of n (places 32 blank_place (map (visible oam objsel) first))) (sym seen)
        ∙ (ap (map (λ (p : VisibleSprite). p.sprite)) (take_places 32 blank_place (map (visible oam objsel) first))
        ∙ map-map (λ (p : VisibleSprite). p.sprite) (visible oam objsel) first)

    few : (choice_of oam objsel all).count ≤ 32
    unfolding choice_of
    few = omega (arith, length-take 32 all)

    fair : AllFair (choice_of oam objsel all).count (choice_of oam objsel all).sprites
    unfolding choice_of
    fair k h =
        rw (get_d_places 32 blank_place (map (visible oam objsel) first) k blank_place (rw seen h)) (fair_at first k)

-- of what `choose` hands back
module _ (oam : List ℕ) (row : ℕ) (r : PPURegisters) {c : Chosen}
    (is : c ≡ chosen_of oam row r.objsel r.oamadd (sprite_interlace r)) where
  abbrev hits : List ℕ
  hits = found oam row r.objsel (sprite_interlace r) (search_order r.oamadd)

  pub chosen_few : c.count ≤ 32
  chosen_few = rw is (few oam r.objsel hits)

  pub chosen_fair : AllFair c.count c.sprites
  chosen_fair = rw is (fair oam r.objsel hits)

  pub chosen_listed : sprites_of c.count c.sprites ≡ chosen_sprites oam r row
  unfolding chosen_sprites
  chosen_listed = (λ i. sprites_of (is i).count (is i).sprites) ∙ listed oam r.objsel hits
