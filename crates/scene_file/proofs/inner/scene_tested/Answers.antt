use Rattle.std.specs.Prelude.{ℕ, ◌-◌, ◌≡◌, List, length, get_or}
use Rattle.std.proofs.Common.{sym, ap, ◌∙◌, length-drop}
use Rattle.std.proofs.lemmas.Result.{err_from_is_err_and}
use Rattle.base_refusal.specs.Answer.{Answer, value, ◌and_then◌}
use Rattle.scene_file.specs.File.{section_tests, end_tests, value_tests, scene_tests}
use Rattle.scene_file.proofs.inner.scene_tested.Goals as goal

abbrev values_of : List ℕ → Answer Unit
values_of bytes = value_tests (get_or bytes 50 0) (get_or bytes 51 0)

-- what the tests leave where every section passes
after_sections : (bytes : List ℕ) →
    value tt ≡ section_tests bytes 0 48 → value tt ≡ section_tests bytes 52 544 →
    value tt ≡ section_tests bytes 600 512 → value tt ≡ section_tests bytes 1116 65536 →
    (end_tests (length bytes - 66656) and_then values_of bytes) ≡ scene_tests bytes
unfolding scene_tests
after_sections bytes a b c d = λ i.
    a i and_then b i and_then c i and_then d i and_then end_tests (sym (length-drop 66656 bytes) i) and_then values_of bytes

-- what follows tests that say t
followed : {s t : Answer Unit} (a : Answer Unit) → s ≡ t → (s and_then a) ≡ (t and_then a)
followed a e = ap (λ (t : Answer Unit). t and_then a) e

pub returns-in_err-end_tested : goal.returns-in_err-end_tested
returns-in_err-end_tested c =
    let r = err_from_is_err_and c.from_residual-in_err-end_tested.result c.from_residual-in_err-end_tested.ensures.1 in
    rw (r.1, r.2) (
      followed _ c.in_err-end_tested.ensures
          ∙ after_sections _ c.in_ok-section.ensures.0 c.in_ok-section-2.ensures.0 c.in_ok-section-3.ensures.0 c.in_ok-section-4.ensures.0,
      λ e. absurd e,
    )

pub returns : goal.returns
returns c = (
  c.values.ensures
      ∙ (followed _ c.in_ok-end_tested.ensures
      ∙ after_sections _ c.in_ok-section.ensures.0 c.in_ok-section-2.ensures.0 c.in_ok-section-3.ensures.0 c.in_ok-section-4.ensures.0),
  λ p. c.in_ok-section-4.ensures.1 tt,
)
