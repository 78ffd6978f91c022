use mathlib.Core.Path.{◌≡◌, ◌∙◌}
use Rattle.sprite_choice.specs.Choice.{chosen_of}
use Rattle.sprite_fetch.specs.Fetch.{fetched}
use Rattle.sprite_fetch.specs.steps.Walk.{fetched_list}
use Rattle.sprite_layer.specs.Sprites.{view_of}
use Rattle.sprite_layer.proofs.Listed.{chosen_few, chosen_fair, chosen_listed}
use Rattle.sprite_layer.proofs.inner.fetched_rows.Goals as goal
use Rattle.sprite_layer.proofs.inner.fetched_rows.Goals.{After-choose-chosen, After-fetch}

-- what `choose` hands back, by the registers
is-chosen-1 : (c : After-choose-chosen) →
    let a = c.args in
    c.choose-chosen.result ≡ chosen_of a.oam.now a.y.number a.r.objsel a.r.oamadd (view_of a.r a.y.number).obj_interlace
is-chosen-1 c =
    let a = c.args in
    let view = c.view-view.ensures in
    c.choose-chosen.ensures
    ∙ (λ i. chosen_of a.oam.now (view i).row (view i).objsel a.r.oamadd (view i).obj_interlace)

-- what `choose` hands back, by the registers
is-chosen-2 : (c : After-fetch) →
    let a = c.args in
    c.choose-chosen.result ≡ chosen_of a.oam.now a.y.number a.r.objsel a.r.oamadd (view_of a.r a.y.number).obj_interlace
is-chosen-2 c =
    let a = c.args in
    let view = c.view-view.ensures in
    c.choose-chosen.ensures
    ∙ (λ i. chosen_of a.oam.now (view i).row (view i).objsel a.r.oamadd (view i).obj_interlace)

pub fetch-requires : goal.fetch-requires
fetch-requires c =
    let a = c.args in
    (chosen_few a.oam.now a.y.number a.r (is-chosen-1 c), chosen_fair a.oam.now a.y.number a.r (is-chosen-1 c))

pub returns : goal.returns
returns c =
    let a = c.args in
    let view = c.view-view.ensures in (
      c.fetch.ensures.0
          ∙ (λ i. fetched_list (view i) (fetched 34 (view i).objsel (chosen_listed a.oam.now a.y.number a.r (is-chosen-2 c) i))),
      c.fetch.ensures.1,
    )
