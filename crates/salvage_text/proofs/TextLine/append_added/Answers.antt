use Rattle.std.specs.Prelude.{ℕ, ◌≡◌, ◌⊎◌, List, [], ◌∷◌, refl}
use Rattle.std.proofs.Common.{rules}
use Rattle.std.proofs.Math.Logic.{⊎_elim}
use Rattle.salvage.specs.declared.Kind.{Kind}
use Rattle.salvage_text.specs.Text.{added_numbers}
use Rattle.salvage_text.specs.steps.Text.{written}
use Rattle.salvage_text.proofs.Spaced.{none_more, then_more}
use Rattle.salvage_text.proofs.TextLine.append_added.Goals as goal

-- what two kinds add is the same
either : {kind a b : Kind} (l : List ℕ) (old new : ℕ) → (kind ≡ a) ⊎ (kind ≡ b) →
    added_numbers a old new ≡ l → added_numbers b old new ≡ l → added_numbers kind old new ≡ l
either l old new e f g =
    ⊎_elim (λ s. rw s f) (λ s. rw s g) e

pub returns-in-Cut : goal.returns-in-Cut
returns-in-Cut c = (rw (either [] _ _ c.in-Cut.is refl refl) (none_more _), search rules)

pub returns-in-Count : goal.returns-in-Count
returns-in-Count c =
    let t = written c.args.self.now in
    let both = then_more t _ _ c.append_number.ensures.0 c.append_number-in-Count.ensures.0 in
    (rw (either (c.args.old ∷ c.args.new ∷ []) _ _ c.in-Count.is refl refl) both, search rules)
