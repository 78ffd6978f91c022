-- Kept elements of joined lists, and of lists by a rule.
use Rattle.std.specs.Prelude.{◌≡◌, Bool, cond, ◌⊎◌}
use Rattle.std.proofs.Math.Path.{refl, ap}
use Rattle.std.proofs.Common.{sym, ◌∙◌}
use Rattle.std.proofs.Math.Bool.{true, false}
use Rattle.std.proofs.lemmas.Bool.{false≢true}
use mathlib.Core.List.Memᴰ
use mathlib.Core.List.{List, [], ◌∷◌, ◌++◌, append-nil, Memᴰ}
use Rattle.std.proofs.Math.Logic.{⊎_elim}
use Rattle.base_lists.specs.Keep.{keep}

pull : {A : Type 0} (t : Bool) (a : A) (x y : List A) → cond t (a ∷ (x ++ y)) (x ++ y) ≡ cond t (a ∷ x) x ++ y
pull true a x y = refl
pull false a x y = refl

module _ {A : Type 0} (test : A → Bool) where
  pub keep_none : keep test [] ≡ []
  unfolding keep
  keep_none = refl

  pub keep_append : (l m : List A) → keep test (l ++ m) ≡ keep test l ++ keep test m
  unfolding keep
  keep_append [] m = refl
  keep_append (a ∷ l) m = rw (keep_append l m) (pull (test a) a (keep test l) (keep test m))

  -- one more at the end
  pub keep_yes : (l : List A) (a : A) → test a ≡ true → keep test (l ++ a ∷ []) ≡ keep test l ++ a ∷ []
  unfolding keep
  keep_yes l a e = rw (keep_append l (a ∷ []), e)

  pub keep_no : (l : List A) (a : A) → test a ≡ false → keep test (l ++ a ∷ []) ≡ keep test l
  unfolding keep
  keep_no l a e = rw (keep_append l (a ∷ []), e) (append-nil (keep test l))

  -- what is kept is in the list, and passes the test
  pub kept_in : (l : List A) {a : A} → Memᴰ a (keep test l) → Memᴰ a l × (test a ≡ true)
  unfolding keep
  kept_in [] m = absurd (Memᴰ.not-nil m)
  kept_in (b ∷ l) {a} m = by_test (test b) refl m (kept_in l)
    where
      by_test : (t : Bool) → test b ≡ t → Memᴰ a (cond t (b ∷ keep test l) (keep test l)) →
          (Memᴰ a (keep test l) → Memᴰ a l × (test a ≡ true)) → Memᴰ a (b ∷ l) × (test a ≡ true)
      by_test true e n k =
          ⊎_elim (λ s. (Memᴰ.head s, ap test s ∙ e)) (λ o. (Memᴰ.tail (k o).0, (k o).1)) (Memᴰ.cases_cons n)
      by_test false e n k = (Memᴰ.tail (k n).0, (k n).1)

  -- and what is in the list and passes is kept
  pub in_kept : (l : List A) {a : A} → test a ≡ true → Memᴰ a l → Memᴰ a (keep test l)
  unfolding keep
  in_kept [] h m = absurd (Memᴰ.not-nil m)
  in_kept (b ∷ l) {a} h m = by_test (test b) refl (Memᴰ.cases_cons m) (in_kept l h)
    where
      by_test : (t : Bool) → test b ≡ t → (a ≡ b) ⊎ Memᴰ a l → (Memᴰ a l → Memᴰ a (keep test l)) →
          Memᴰ a (cond t (b ∷ keep test l) (keep test l))
      by_test true e c k = ⊎_elim (λ s. Memᴰ.head s) (λ o. Memᴰ.tail (k o)) c
      by_test false e c k = ⊎_elim (λ s. absurd (false≢true (sym e ∙ (sym (ap test s) ∙ h)))) k c
