-- A list by a rule: its length, its elements, its parts, and when two are one.
use Prim.Native.Nat.{ℕ, zero, suc, ◌+◌, ◌<◌}
use Rattle.std.specs.Prelude.{◌≡◌, length, set, replicate, eqb, Bool, true, false}
use Rattle.std.proofs.Math.Path.{refl, ap}
use Rattle.std.proofs.Common.{sym, ◌∙◌, arith, add-zero, add-suc, eq-or-lt_of_le, add-one, length-append, length-set, ext_get_or, get_or-set_same, get_or-set_other, eqb-true}
use mathlib.Core.List.{List, [], ◌∷◌, ◌++◌, append_assoc, append-nil}
use Rattle.std.proofs.Math.Logic.{⊎_elim}
use Rattle.std.proofs.Math.ListN.{get_or, get_or-append}
use Rattle.std.proofs.lemmas.List.{length-replicate, get_or-replicate, get_or_at}
use Rattle.std.proofs.lemmas.Bool.{eqb-false}
use Rattle.base_lists.specs.Tab.{tab}

module _ {A : Type 0} (f : ℕ → A) where
  pub tab_none : tab 0 f ≡ []
  unfolding tab
  tab_none = refl

  pub tab_more : (n : ℕ) → tab (n + 1) f ≡ tab n f ++ f n ∷ []
  unfolding tab
  tab_more n = rw (add-one n)

  -- the first k, and the others
  pub tab_split : (k j : ℕ) → tab (k + j) f ≡ tab k f ++ tab j (λ (i : ℕ). f (k + i))
  unfolding tab
  tab_split k zero = rw (add-zero, append-nil)
  tab_split k (suc j) =
      rw (add-suc k j, tab_split k j) (append_assoc (tab k f) (tab j (λ (i : ℕ). f (k + i))) (f (k + j) ∷ []))

  pub length_tab : (n : ℕ) → length (tab n f) ≡ n
  unfolding tab
  length_tab zero = refl
  length_tab (suc n) = simp (length-append, length_tab n) (omega arith)

  -- its elements are the rule's
  pub get_d_tab : (n i : ℕ) (d : A) → i < n → get_or (tab n f) i d ≡ f i
  unfolding tab
  get_d_tab zero i d h = absurd (omega arith)
  get_d_tab (suc n) i d h =
      ⊎_elim
      (λ e. ap (λ (k : ℕ). get_or (tab n f ++ (f n ∷ [])) k d) e ∙ (get_or_at (tab n f) (f n) [] d n (length_tab n) ∙ ap f (sym e)))
      (λ b. get_or-append (tab n f) (f n ∷ []) d i (rw (length_tab n) b) ∙ get_d_tab n i d b)
      (eq-or-lt_of_le {n = i} {m = n} (omega arith))

-- two rules that agree below n give one list
pub tab_ext : {A : Type 0} (n : ℕ) (f g : ℕ → A) → ((x : ℕ) → x < n → f x ≡ g x) → tab n f ≡ tab n g
unfolding tab
tab_ext zero f g h = refl
tab_ext (suc n) f g h = λ i. tab_ext n f g (λ x b. h x (omega arith)) i ++ (h n (omega arith) i ∷ [])

-- a list of n elements that are the rule's is the list by that rule
pub by_get_d : {A : Type 0} (n : ℕ) (f : ℕ → A) (l : List A) (d : A) → length l ≡ n →
    ((x : ℕ) → x < n → get_or l x d ≡ f x) → l ≡ tab n f
by_get_d n f l d e h =
    ext_get_or d l (tab n f) (e ∙ sym (length_tab f n)) (λ x b. let c : x < n = omega arith in h x c ∙ sym (get_d_tab f n x d c))

-- an array filled with one element
pub tab_same : {A : Type 0} (n : ℕ) {a b : A} → a ≡ b → replicate n a ≡ tab n (λ x. b)
tab_same n {a} {b} e = by_get_d n (λ x. b) (replicate n a) b (length-replicate n a) (λ x h. get_or-replicate n x a b h ∙ e)

-- one element of the list by a rule is set: the list by another rule that has it there and agrees elsewhere
pub tab_set : {A : Type 0} (n : ℕ) (f g : ℕ → A) (j : ℕ) (a : A) → j < n → a ≡ g j →
    ((x : ℕ) → x < n → (x ≡ j → ⊥) → f x ≡ g x) → set (tab n f) j a ≡ tab n g
tab_set n f g j a h e o =
    by_get_d n g (set (tab n f) j a) a (length-set (tab n f) j a ∙ length_tab f n)
    (λ x b. by_cases x b (eqb x j) refl)
  where
    by_cases : (x : ℕ) → x < n → (t : Bool) → eqb x j ≡ t → get_or (set (tab n f) j a) x a ≡ g x
    by_cases x b true d =
        let same : x ≡ j = eqb-true x j d in
        let long : j < length (tab n f) = rw (length_tab f n) h in
        ap (λ (i : ℕ). get_or (set (tab n f) j a) i a) same
        ∙ (get_or-set_same (tab n f) j a a long ∙ (e ∙ ap g (sym same)))
    by_cases x b false d =
        let apart : x ≡ j → ⊥ = eqb-false x j d in
        get_or-set_other (tab n f) j x a a apart ∙ (get_d_tab f n x a b ∙ o x b apart)
