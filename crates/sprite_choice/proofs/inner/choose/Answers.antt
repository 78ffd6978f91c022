use Prim.Native.Nat.{◌≤◌}
use mathlib.Core.Path.{◌≡◌, sym, ap, ◌∙◌}
use native.Mathlib.Omega.{arith}
use borrow.Author.Tests.{le-ltb}
use lib.ListN.{length}
use lib.Seq.{take_all}
use Rattle.oam.specs.Sprites.{sprite_of}
use Rattle.sprite_row.specs.SpriteRow.{in_range}
use Rattle.sprite_choice.specs.declared.VisibleSprite.{VisibleSprite}
use Rattle.sprite_choice.specs.Choice.{search_at, search_order}
use Rattle.sprite_choice.proofs.Search.{so_far_none, so_far_more, found_to, found_none, found_yes, found_no, first_32, more_than_32, built}
use Rattle.sprite_choice.proofs.inner.choose.Goals as goal
use Rattle.sprite_choice.proofs.inner.choose.Goals.{After-counting_tiles-tiles, Then-count-eq-MAX_SPRITES, Then-not-in_range}

pub loop-k-init : goal.loop-k-init
loop-k-init c = (so_far_none _ _ (found_none _ _ _ _ _) c.blank-sprites.ensures, omega arith)

-- what `in_range` says of place k of the search
is-on-1 : (c : After-counting_tiles-tiles) →
    let a = c.args in
    c.in_range.result
    ≡ in_range a.row a.objsel a.obj_interlace
    (sprite_of a.oam.now (search_at c.search_start-start.result c.loop-k.k) a.objsel)
is-on-1 c =
    let a = c.args in
    c.in_range.ensures ∙ ap (λ (p : VisibleSprite). in_range a.row a.objsel a.obj_interlace p.sprite) c.placed_at-p.ensures

-- what `in_range` says of place k of the search
is-on-2 : (c : Then-count-eq-MAX_SPRITES) →
    let a = c.args in
    c.in_range.result
    ≡ in_range a.row a.objsel a.obj_interlace
    (sprite_of a.oam.now (search_at c.search_start-start.result c.loop-k.k) a.objsel)
is-on-2 c =
    let a = c.args in
    c.in_range.ensures ∙ ap (λ (p : VisibleSprite). in_range a.row a.objsel a.obj_interlace p.sprite) c.placed_at-p.ensures

-- what `in_range` says of place k of the search
is-on-3 : (c : Then-not-in_range) →
    let a = c.args in
    c.in_range.result
    ≡ in_range a.row a.objsel a.obj_interlace
    (sprite_of a.oam.now (search_at c.search_start-start.result c.loop-k.k) a.objsel)
is-on-3 c =
    let a = c.args in
    c.in_range.ensures ∙ ap (λ (p : VisibleSprite). in_range a.row a.objsel a.obj_interlace p.sprite) c.placed_at-p.ensures

pub loop-k-preserved-then-not-in_range : goal.loop-k-preserved-then-not-in_range
loop-k-preserved-then-not-in_range c = let a = c.args in
    let l = c.loop-k in
    (rw (found_no a.oam.now a.row a.objsel _ a.obj_interlace l.k (sym (is-on-3 c) ∙ c.if-not-in_range.true)) l.invariant.0, omega arith)

pub returns-then-count-eq-MAX_SPRITES : goal.returns-then-count-eq-MAX_SPRITES
unfolding search_order
returns-then-count-eq-MAX_SPRITES c = let a = c.args in
    let l = c.loop-k in
    let s = l.invariant.0 in
    let start = c.search_start-start in
    let on = sym (is-on-2 c) ∙ c.if-not-in_range.false in
    let full = sym s.is_count ∙ c.if-count-eq-MAX_SPRITES.true in
    let less = c.loop-k-test.true in
    rw (← start.ensures.0)
    (built a.oam.now a.objsel (found_to a.oam.now a.row a.objsel start.result a.obj_interlace 128) (found_to a.oam.now a.row a.objsel start.result a.obj_interlace l.k)
    (first_32 a.oam.now a.row a.objsel start.result a.obj_interlace l.k less full on)
    (more_than_32 a.oam.now a.row a.objsel start.result a.obj_interlace l.k less full on) s)

pub loop-k-preserved : goal.loop-k-preserved
loop-k-preserved c = let a = c.args in
    let l = c.loop-k in
    let on = sym (is-on-1 c) ∙ c.if-not-in_range.false in
    let p = c.placed_at-p in (
      so_far_more a.oam.now a.objsel _ l.invariant.0 (found_yes a.oam.now a.row a.objsel _ a.obj_interlace l.k on) c.if-count-eq-MAX_SPRITES.false p.ensures c.counting_tiles-tiles.ensures.0 c.counting_tiles-tiles.ensures.1,
      omega arith,
    )

pub returns : goal.returns
unfolding search_order
returns c = let a = c.args in
    let l = c.loop-k in
    let s = l.invariant.0 in
    let start = c.search_start-start in
    let k : l.k ≡ 128 = omega arith in
    let upto = found_to a.oam.now a.row a.objsel start.result a.obj_interlace in
    let few : length (upto l.k) ≤ 32 = omega (arith, s.is_count, s.few) in
    rw (← start.ensures.0, ← k)
    (built a.oam.now a.objsel (upto l.k) (upto l.k) (take_all 32 (upto l.k) few) (le-ltb 32 (length (upto l.k)) few) s)
