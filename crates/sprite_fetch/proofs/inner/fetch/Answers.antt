use mir.Syntax.{w16}
use Prim.Native.Nat.{ℕ, ◌+◌, ◌-◌, ◌/◌, ◌<◌}
use mathlib.Core.Path.{◌≡◌, sym, ap, subst, ◌∙◌}
use mathlib.Core.List.{List, [], ◌∷◌, ◌++◌, append_assoc, append-nil}
use native.Mathlib.Omega.{arith}
use borrow.Author.Rules.{rules}
use lib.ListN.{length, get_or, drop, drop_of_length-le}
use Rattle.base_lists.specs.steps.Filling.{long_field}
use Rattle.base_signed.proofs.Signed.{remainder_of}
use Rattle.oam.specs.declared.Sprite.{Sprite}
use Rattle.oam.specs.declared.SpriteSize.{SpriteSize}
use Rattle.oam.specs.Sprites.{blank_sprite}
use Rattle.sprite_row.specs.SpriteRow.{x9, size_in, counts}
use Rattle.sprite_choice.specs.Choice.{blank_place}
use Rattle.sprite_choice.specs.declared.VisibleSprite.{VisibleSprite}
use Rattle.sprite_tile.specs.Tile.{line_in}
use Rattle.sprite_tile.specs.steps.Placed.{placed_of}
use Rattle.sprite_fetch.specs.Fetch.{Tile, tile, fetch_order}
use Rattle.sprite_fetch.specs.steps.Walk.{sprites_of}
use Rattle.sprite_fetch.proofs.Order.{so_far_none, so_far_at, so_far_more, full, built, tiles_to, tiles_none, tiles_no, tiles_yes, order_none, order_more, sprites_long, sprite_at_lem}
use Rattle.sprite_fetch.proofs.inner.fetch.Goals as goal

-- the sprite of a turn
abbrev sprite : List VisibleSprite → ℕ → Sprite
sprite l k = (get_or l (k - 1) blank_place).sprite

-- those that were chosen after it
abbrev later : ℕ → List Sprite → ℕ → List Tile
later objsel l k = fetch_order objsel (drop (k - 1 + 1) l)

pub loop-k-init : goal.loop-k-init
loop-k-init c =
    let whole : length c.args.chosen.sprites ≡ 32 = search (rules, long_field) in
    let listed : length (sprites_of c.args.chosen.count c.args.chosen.sprites) ≡ c.args.chosen.count = sprites_long c.args.chosen.count c.args.chosen.sprites (omega arith) in
    let a = c.args in
    let l = sprites_of a.chosen.count a.chosen.sprites in
    let e = ap (fetch_order a.view.objsel) (drop_of_length-le l {i = a.chosen.count} (omega arith)) ∙ order_none a.view.objsel in
    (so_far_none a.view e c.blank-rows.ensures, omega arith)

pub bounds-chosen-k : goal.bounds-chosen-k
bounds-chosen-k c = let whole : length c.args.chosen.sprites ≡ 32 = search (rules, long_field) in omega arith

pub loop-t-init : goal.loop-t-init
loop-t-init c =
    let l = c.loop-k in
    let e : l.k ≡ l.k - 1 + 1 = omega arith in
    let order = fetch_order c.args.view.objsel in (
      so_far_at c.args.view
          ((λ i. order (drop (e i) (sprites_of c.args.chosen.count c.args.chosen.sprites))) ∙ (sym (append-nil (later c.args.view.objsel (sprites_of c.args.chosen.count c.args.chosen.sprites) c.loop-k.k)) ∙ (λ i. later c.args.view.objsel (sprites_of c.args.chosen.count c.args.chosen.sprites) c.loop-k.k ++ sym (tiles_none (sprite c.args.chosen.sprites c.loop-k.k)) i)))
          l.invariant.0,
      omega arith,
    )

pub loop-k-preserved : goal.loop-k-preserved
loop-k-preserved c =
    let whole : length c.args.chosen.sprites ≡ 32 = search (rules, long_field) in
    let listed : length (sprites_of c.args.chosen.count c.args.chosen.sprites) ≡ c.args.chosen.count = sprites_long c.args.chosen.count c.args.chosen.sprites (omega arith) in
    let in_list : sprite c.args.chosen.sprites c.loop-k.k ≡ get_or (sprites_of c.args.chosen.count c.args.chosen.sprites) (c.loop-k.k - 1) blank_sprite = sprite_at_lem c.args.chosen.count c.args.chosen.sprites (c.loop-k.k - 1) (omega arith) in
    let l = c.loop-t in
    let a = c.args in
    let n : l.t ≡ c.sprite_size-size.result.width / 8 = omega (arith, l.invariant.1, c.loop-t-test.false) in
    let w : l.t ≡ (size_in a.view.objsel (sprite c.args.chosen.sprites c.loop-k.k)).width / 8 = n ∙ (λ i. (c.sprite_size-size.ensures.0 i).width / 8) in
    let e =
    (λ i. later c.args.view.objsel (sprites_of c.args.chosen.count c.args.chosen.sprites) c.loop-k.k ++ tiles_to (sprite c.args.chosen.sprites c.loop-k.k) (w i))
    ∙ ((λ i. later c.args.view.objsel (sprites_of c.args.chosen.count c.args.chosen.sprites) c.loop-k.k ++ tiles_to (in_list i) ((size_in a.view.objsel (in_list i)).width / 8))
    ∙ order_more a.view.objsel (sprites_of c.args.chosen.count c.args.chosen.sprites) (c.loop-k.k - 1) (omega arith)) in
    (so_far_at a.view e l.invariant.0, omega arith)

pub loop-t-preserved-then-not-tile_counts : goal.loop-t-preserved-then-not-tile_counts
loop-t-preserved-then-not-tile_counts c =
    let counted : c.tile_counts.result ≡ counts (x9 (sprite c.args.chosen.sprites c.loop-k.k)) c.loop-t.t =
    c.tile_counts.ensures
    ∙ (λ i. counts (remainder_of w16 (sprite c.args.chosen.sprites c.loop-k.k).x 512 c.struct_told-1.given.0.1 c.nine_bits-x9.ensures.0 i) c.loop-t.t) in
    let l = c.loop-t in (
      so_far_at c.args.view
          (λ i. later c.args.view.objsel (sprites_of c.args.chosen.count c.args.chosen.sprites) c.loop-k.k ++ sym (tiles_no (sprite c.args.chosen.sprites c.loop-k.k) l.t (sym (counted) ∙ c.if-not-tile_counts.true)) i)
          l.invariant.0,
      omega arith,
    )

pub returns-then-count-eq-MAX_TILES : goal.returns-then-count-eq-MAX_TILES
returns-then-count-eq-MAX_TILES c =
    let whole : length c.args.chosen.sprites ≡ 32 = search (rules, long_field) in
    let listed : length (sprites_of c.args.chosen.count c.args.chosen.sprites) ≡ c.args.chosen.count = sprites_long c.args.chosen.count c.args.chosen.sprites (omega arith) in
    let in_list : sprite c.args.chosen.sprites c.loop-k.k ≡ get_or (sprites_of c.args.chosen.count c.args.chosen.sprites) (c.loop-k.k - 1) blank_sprite = sprite_at_lem c.args.chosen.count c.args.chosen.sprites (c.loop-k.k - 1) (omega arith) in
    let l = c.loop-t in
    let a = c.args in
    let w : l.t < (size_in a.view.objsel (get_or (sprites_of c.args.chosen.count c.args.chosen.sprites) (c.loop-k.k - 1) blank_sprite)).width / 8 =
    subst (λ (s : Sprite). l.t < (size_in a.view.objsel s).width / 8) in_list
    (subst (λ (s : SpriteSize). l.t < s.width / 8) c.sprite_size-size.ensures.0 c.loop-t-test.true) in
    built a.view
    (full a.view a.view.objsel (sprites_of c.args.chosen.count c.args.chosen.sprites) (c.loop-k.k - 1) l.t (omega arith) w
    (so_far_at a.view (λ i. later c.args.view.objsel (sprites_of c.args.chosen.count c.args.chosen.sprites) c.loop-k.k ++ tiles_to (in_list i) l.t) l.invariant.0) c.if-count-eq-MAX_TILES.true)

pub placed-requires : goal.placed-requires
placed-requires c =
    ((c.sprite_size-size.ensures.1, c.requires.1 (c.loop-k.k - 1) (omega arith)), (c.line_in-line.ensures.1, c.loop-t-test.true))

pub loop-t-preserved : goal.loop-t-preserved
loop-t-preserved c =
    let counted : c.tile_counts.result ≡ counts (x9 (sprite c.args.chosen.sprites c.loop-k.k)) c.loop-t.t =
    c.tile_counts.ensures
    ∙ (λ i. counts (remainder_of w16 (sprite c.args.chosen.sprites c.loop-k.k).x 512 c.struct_told-1.given.0.1 c.nine_bits-x9.ensures.0 i) c.loop-t.t) in
    let l = c.loop-t in
    let a = c.args in
    let s = sprite c.args.chosen.sprites c.loop-k.k in
    let width = c.sprite_size-size.ensures.0 in
    let line = c.line_in-line.ensures.0 ∙ (λ i. line_in a.view s (width i).width) in
    let is = c.placed.ensures.0 ∙ (λ i. placed_of s (width i).width (line i) l.t) in (
      so_far_at a.view
          (append_assoc (later c.args.view.objsel (sprites_of c.args.chosen.count c.args.chosen.sprites) c.loop-k.k) (tiles_to s l.t) (tile s l.t ∷ [])
          ∙ (λ i. later c.args.view.objsel (sprites_of c.args.chosen.count c.args.chosen.sprites) c.loop-k.k ++ sym (tiles_yes s l.t (sym (counted) ∙ c.if-not-tile_counts.false)) i))
          (so_far_more a.view (tile s l.t) l.invariant.0 c.if-count-eq-MAX_TILES.false is c.placed.ensures.1),
      omega arith,
    )

pub returns : goal.returns
returns c =
    let l = c.loop-k in
    let a = c.args in
    let z : l.k ≡ 0 = omega arith in
    built a.view
    (so_far_at a.view (λ i. fetch_order a.view.objsel (drop (z i) (sprites_of a.chosen.count a.chosen.sprites))) l.invariant.0)
