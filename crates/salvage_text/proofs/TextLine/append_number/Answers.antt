use mathlib.Core.Path.{◌∙◌}
use mathlib.Core.List.{◌++◌, append_assoc}
use native.Mathlib.Omega.{arith}
use Rattle.salvage_text.proofs.Decimal.{twenty_digits, decimal_spelt}
use Rattle.salvage_text.proofs.Spaced.{spaced_one}
use Rattle.salvage_text.proofs.TextLine.append_number.Goals as goal

pub returns : goal.returns
returns c =
    let n = c.args.n in
    let ensured = c.decimal-k.ensures in
    let few = twenty_digits c.decimal-k.result n (omega arith) ensured.len in
    let digits = ensured.digits ∙ decimal_spelt c.decimal-k.result n (omega arith) ensured.len in
    let joined = c.append-2.ensures.0 ∙ (λ i. c.append.ensures.0 i ++ digits i) in
    (joined ∙ simp (append_assoc, spaced_one), (omega (arith, few), c.append-2.ensures.1.1))
