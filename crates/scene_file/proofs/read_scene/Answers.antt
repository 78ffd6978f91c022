use Rattle.std.specs.Prelude.{ℕ, ◌*◌, ◌≡◌, List, length, refl}
use Rattle.std.proofs.Common.{ap, ◌∙◌, eq-eqb, ne_eqb}
use Rattle.std.proofs.lemmas.Bool.{false≢true}
use Rattle.std.proofs.lemmas.Option.{MatchOption-at_some}
use Rattle.std.proofs.lemmas.Result.{err_from_is_err_and}
use Rattle.std.specs.Option.{ok_or}
use Rattle.base_refusal.specs.Answer.{Answer, value, refused, outcome}
use Rattle.base_refusal.specs.steps.Said.{said_of}
use Rattle.base_refusal.specs.declared.Refusal.TheVariants.{Oam}
use Rattle.registers.specs.Scene.{scene}
use Rattle.registers.specs.Screen.{cleared}
use Rattle.scene_bytes.specs.Bytes.{words_of}
use Rattle.scene_file.specs.File.{body_at, scene_of, scene_tests, read_outcome}
use Rattle.scene_file.proofs.read_scene.Goals as goal

module _ (bytes v g o : List ℕ) (vram : length v ≡ 32768) (cgram : length g ≡ 256) where
  -- what is left where the targets have their lengths
  right_targets : length o ≡ 544 → outcome (scene_tests bytes) tt (scene_of bytes) (scene cleared v g o) ≡ read_outcome bytes v g o
  right_targets oam = rw (eq-eqb (length v) 32768 vram, eq-eqb (length g) 256 cgram, eq-eqb (length o) 544 oam) refl

  -- and where only the last has another
  wrong_oam : (length o ≡ 544 → ⊥) → record { said = refused 4; left = scene cleared v g o } ≡ read_outcome bytes v g o
  wrong_oam oam = rw (eq-eqb (length v) 32768 vram, eq-eqb (length g) 256 cgram, ne_eqb (length o) 544 oam) refl

pub returns-in_err-oam : goal.returns-in_err-oam
returns-in_err-oam c =
    let a = c.args in
    let r = err_from_is_err_and c.from_residual-in_err-oam.result c.from_residual-in_err-oam.ensures.1 in
    let v = MatchOption-at_some _ _ _ c.in_ok-vram.ensures.ok_part c.as_mut_array.ensures.cases in
    let g = MatchOption-at_some _ _ _ c.in_ok-cgram.ensures.ok_part c.as_mut_array-2.ensures.cases in
    let none : length a.oam.now ≡ 544 → ⊥ = λ e. false≢true (c.in_err-oam.ensures.variant ∙ c.as_mut_array-3.ensures.variant.1 e) in
    let said = ap said_of (c.in_err-oam.ensures.value ∙ ap (λ o. ok_or o Oam) c.in_err-oam.ensures.ok_part) in
    rw (r.1, r.2, v.same, g.same)
    ((λ i. record { said = said i; left = scene cleared a.vram.now a.cgram.now a.oam.now })
    ∙ wrong_oam a.scene.now a.vram.now a.cgram.now a.oam.now v.long g.long none)

pub returns : goal.returns
returns c =
    let a = c.args in
    let bytes = a.scene.now in
    let v = MatchOption-at_some _ _ _ c.in_ok-vram.ensures.ok_part c.as_mut_array.ensures.cases in
    let g = MatchOption-at_some _ _ _ c.in_ok-cgram.ensures.ok_part c.as_mut_array-2.ensures.cases in
    let o = MatchOption-at_some _ _ _ c.in_ok-oam.ensures.ok_part c.as_mut_array-3.ensures.cases in
    let words = c.fill_words.ensures ∙ ap (λ (n : ℕ). words_of n (body_at bytes 1120 (n * 2))) (ap length v.same ∙ v.long) in
    let colours = c.fill_words-2.ensures ∙ ap (λ (n : ℕ). words_of n (body_at bytes 604 (n * 2))) (ap length g.same ∙ g.long) in
    let sprites = c.fill_bytes.ensures ∙ ap (λ (n : ℕ). body_at bytes 56 n) (ap length o.same ∙ o.long) in
    (λ i. record { said = value tt; left = scene (c.registers.ensures i) (words i) (colours i) (sprites i) })
    ∙ (ap (λ (t : Answer Unit). outcome t tt (scene_of bytes) (scene cleared a.vram.now a.cgram.now a.oam.now)) c.in_ok-scene_tested.ensures.0
    ∙ right_targets bytes a.vram.now a.cgram.now a.oam.now v.long g.long o.long)
