use Rattle.std.proofs.Common.{◌≡◌, ◌∙◌, rules, tests, arith}
use Rattle.std.proofs.lemmas.Iterator.{YieldsList-from_range}
use Rattle.std.proofs.lemmas.Iterator.Consumers.{YieldsList-from_filter, count_from_yields_List}
use Rattle.sprite_row.proofs.Tiles.{count_le, kept_all}
use Rattle.sprite_row.specs.SpriteRow.{counts, count_to}
use Rattle.sprite_row.proofs.inner.count_to.Goals as goal

pub returns : goal.returns
returns c =
    let a = c.args in
    let is : c.count.result ≡ count_to a.x9 a.n =
    count_from_yields_List c.filter.result c.count.result c.count.ensures.ran
    (YieldsList-from_filter _ (counts a.x9) (YieldsList-from_range 0 a.n a.n (cc) (omega arith)) c.filter.ensures.closure (λ x r q k. search (rules, tests)))
    ∙ kept_all a.x9 a.n in
    (is, omega (arith, is, count_le a.x9 a.n))
