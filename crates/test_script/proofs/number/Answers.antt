use mathlib.Core.Path.{◌∙◌}
use Rattle.test_script.proofs.Reading.{by_hexadecimal, by_decimal, no_word}
use Rattle.test_script.proofs.number.Goals as goal

pub returns-in_err-word : goal.returns-in_err-word
returns-in_err-word c = c.from_residual.ensures ∙ no_word _ _ _ c.in_err-word.ensures.lookup.0

pub returns-in-Some : goal.returns-in-Some
returns-in-Some c =
    let word = c.in_ok-word.ensures.lookup.0 in
    let rest = c.in-Some.ensures.cases in
    c.digits.ensures ∙ by_hexadecimal _ _ _ word.0 word.1 word.2 rest.0 rest.1

pub returns-in-None : goal.returns-in-None
returns-in-None c =
    let word = c.in_ok-word.ensures.lookup.0 in
    c.digits-in-None.ensures ∙ by_decimal _ _ _ word.0 word.1 word.2 c.in-None.ensures.cases
