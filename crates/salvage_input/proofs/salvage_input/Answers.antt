use Rattle.std.specs.Prelude.{◌≡◌, ◌++◌, length}
use Rattle.std.proofs.Common.{sym, ap, ◌∙◌, eq-eqb}
use Rattle.base_refusal.specs.Answer.{value}
use Rattle.salvage_bytes.specs.Bytes.{mended}
use Rattle.salvage.specs.Salvage.{length_changes, place_changes, listed}
use Rattle.salvage_input.proofs.salvage_input.Goals as goal

pub returns : goal.returns
returns c =
    let before = c.args.out.now in
    let read = c.read_file-total.ensures in
    let long : length before ≡ 66656 = c.as_mut_array.ensures.variant.0 (sym c.in_ok-scene.ensures.variant) in
    let bytes = c.mend.ensures.0 ∙ ap mended read.is in
    let changes = c.mend.ensures.1 ∙ (λ i. listed (length_changes (sym read.long i) ++ place_changes (read.is i))) in
    record {
      file = read.file;
      is = rw (eq-eqb (length before) 66656 long) (λ i. record { said = value tt; left = record { bytes = bytes i; changes = changes i } });
    }
