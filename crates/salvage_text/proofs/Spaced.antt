-- Texts with numbers after spaces, one after another.
use Prim.Native.Nat.{ℕ}
use mathlib.Core.Path.{◌≡◌, refl, sym, ◌∙◌}
use mathlib.Core.List.{List, [], ◌∷◌, ◌++◌, append_assoc, append-nil}
use Rattle.salvage_text.specs.Text.{decimal, spaced}

pub spaced_one : (n : ℕ) → 32 ∷ decimal n ≡ spaced (n ∷ [])
unfolding spaced
spaced_one n = λ i. 32 ∷ sym (append-nil (decimal n)) i

spaced_append : (l m : List ℕ) → spaced l ++ spaced m ≡ spaced (l ++ m)
unfolding spaced
spaced_append [] m = refl
spaced_append (n ∷ l) m = λ i. 32 ∷ (append_assoc (decimal n) (spaced l) (spaced m) ∙ (λ j. decimal n ++ spaced_append l m j)) i

-- a text with no numbers after it
pub none_more : (t : List ℕ) → t ≡ t ++ spaced []
unfolding spaced
none_more t = sym (append-nil t)

-- with some, and then with others
pub then_more : (t l m : List ℕ) {u v : List ℕ} → u ≡ t ++ spaced l → v ≡ u ++ spaced m → v ≡ t ++ spaced (l ++ m)
then_more t l m e f =
    f ∙ ((λ i. e i ++ spaced m) ∙ (append_assoc t (spaced l) (spaced m) ∙ (λ i. t ++ spaced_append l m i)))

-- a name, numbers after it, and what ends the line
pub line_ended : (l e : List ℕ) {k t u v : List ℕ} → t ≡ k → u ≡ t ++ spaced l → v ≡ u ++ e → v ≡ k ++ spaced l ++ e
line_ended l e n f g = g ∙ ((λ i. f i ++ e) ∙ (λ i. n i ++ spaced l ++ e))
