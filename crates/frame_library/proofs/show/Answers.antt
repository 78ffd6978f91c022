use mathlib.Core.Path.{◌≡◌, refl, ap}
use mathlib.Core.Logic.{inl, ⊎_elim}
use native.Mathlib.Omega.{arith}
use lib.ListN.{length}
use Rattle.frame_library.proofs.Walk.{header_part, taken_by}
use borrow.Author.Rules.{rules}
use Rattle.frame_library.proofs.show.Goals as goal

pub hand-at-requires : goal.hand-at-requires
hand-at-requires c = header_part _ c.header-first.ensures

pub returns-then-at-eq0 : goal.returns-then-at-eq0
returns-then-at-eq0 c = inl refl

pub walk-requires : goal.walk-requires
walk-requires c =
    let fifteen = ap length c.header-first.ensures in
    let at : c.hand-at.result ≡ 15 = ⊎_elim (λ e. omega arith) (λ e. absurd (c.if-at-eq0.false e)) c.hand-at.ensures.1 in
    at

pub returns : goal.returns
returns c =
    taken_by _ c.registers-r.ensures c.walk.ensures
