use Rattle.salvage_text.specs.Text.{change_line, text_line}
use Rattle.salvage_text.specs.steps.Text.{written}
use Rattle.io.proofs.Counting.{prefix_len_of_le}
use native.Mathlib.Omega.{arith}
use Rattle.salvage_text.proofs.Lines.{clean_fits}
use mathlib.Core.Path.{ap, ◌∙◌}
use mathlib.Core.List.{◌++◌}
use Rattle.salvage_text.proofs.Spaced.{then_more, line_ended}
use Rattle.salvage_text.proofs.line_of.Goals as goal

pub returns : goal.returns
unfolding change_line
returns c =
    let t = written c.append.new.self in
    let place = then_more t _ _ c.append_number.ensures.0 c.append_number-2.ensures.0 in
    let numbers = then_more t _ _ place c.append_added.ensures.0 in
    let named = c.append.ensures.0 ∙ (λ i. c.empty-line.ensures.0 i ++ c.name.ensures.0 i) in
    record {
      fits = prefix_len_of_le _ _ (clean_fits _ c.append-2.ensures.1.1 (omega arith));
      is = c.append-2.ensures.1.1 ∙ ap text_line (line_ended _ _ named numbers c.append-2.ensures.0);
    }
