use Rattle.std.proofs.Common.{rules, add-one, ◌≡◌, ◌∙◌, ap, sym, ℕ, suc, [], ◌∷◌, ◌++◌, length, get_or, false}
use Rattle.std.proofs.lemmas.List.{length_push}
use Rattle.std.proofs.lemmas.Slice.Zip.{zip_turn}
use Rattle.packed_pixels.specs.steps.Packed.{held_unless, laid_to}
use Rattle.packed_pixels.proofs.inner.column.Goals as goal

pub loop-row-preserved : goal.loop-row-preserved
unfolding laid_to
loop-row-preserved c =
    let a = c.args in
    let l = c.loop-row in
    let n = length l.yielded in
    let t = zip_turn a.rows.now a.barred.now l.yielded c.into_iter-row-iterator.result l.row-iterator c.next.new.self c.next.result (search rules) (search rules) l.yielded_by (c.in-Some.row, c.in-Some.barred) c.in-Some.is c.next.ensures.steps in
    let turn : c.lay_unless-held.result ≡ laid_to a.back a.rows.now a.barred.now a.x (suc n) =
    c.lay_unless-held.ensures ∙ (λ i. held_unless (get_or (t.3 [] i) a.x false) (l.invariant i) (get_or (t.2 [] i) a.x 0)) in
    turn ∙ ap (λ (k : ℕ). laid_to a.back a.rows.now a.barred.now a.x k) (sym (length_push l.yielded _ ∙ add-one n))
