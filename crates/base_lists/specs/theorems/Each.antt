-- What holds of each element of a list holds of each of a part, and of lists made by a rule.
use Prim.Native.Nat.{ℕ, zero, suc, ◌-◌, ◌<◌}
use Rattle.std.specs.Prelude.{◌≡◌, refl, Bool, true, false, cond, length, get_or, take, drop}
use mathlib.Core.List.{List, [], ◌∷◌, ◌++◌, map}
use Rattle.std.proofs.Common.{arith}
use Rattle.std.proofs.Math.Nat.{zero-sub, sub-zero, suc-sub-suc}
use Rattle.base_lists.specs.Tab.{tab}
use Rattle.base_lists.specs.Keep.{keep}
use Rattle.base_lists.specs.Each.{Each}

module _ {A : Type 0} (P : A → Type 0) where
  pub each_append : (l m : List A) → Each P l → Each P m → Each P (l ++ m)
  each_append [] m h k = k
  each_append (a ∷ l) m h k = (h.0, each_append l m h.1 k)

  -- and the other way
  pub each_first : (l m : List A) → Each P (l ++ m) → Each P l
  each_first [] m h = tt
  each_first (a ∷ l) m h = (h.0, each_first l m h.1)

  pub each_then : (l m : List A) → Each P (l ++ m) → Each P m
  each_then [] m h = h
  each_then (a ∷ l) m h = each_then l m h.1

  pub each_tab : (n : ℕ) (f : ℕ → A) → ((i : ℕ) → i < n → P (f i)) → Each P (tab n f)
  unfolding tab
  each_tab zero f h = tt
  each_tab (suc n) f h = each_append (tab n f) (f n ∷ []) (each_tab n f (λ i b. h i (omega arith))) (h n (omega arith), tt)

  pub each_take : (n : ℕ) (l : List A) → Each P l → Each P (take n l)
  each_take zero l h = tt
  each_take (suc n) [] h = tt
  each_take (suc n) (a ∷ l) h = (h.0, each_take n l h.1)

  -- what is read is an element or the default
  pub each_get_d : (l : List A) → Each P l → (d : A) → P d → (i : ℕ) → P (get_or l i d)
  each_get_d [] h d p i = p
  each_get_d (a ∷ l) h d p zero = h.0
  each_get_d (a ∷ l) h d p (suc i) = each_get_d l h.1 d p i

  module _ (test : A → Bool) where
    kept : (t : Bool) (a : A) (l : List A) → P a → Each P l → Each P (cond t (a ∷ l) l)
    kept true a l h k = (h, k)
    kept false a l h k = k

    pub each_keep : (l : List A) → Each P l → Each P (keep test l)
    unfolding keep
    each_keep [] h = tt
    each_keep (a ∷ l) h = kept (test a) a (keep test l) h.0 (each_keep l h.1)

-- the first of two lists, one after the other
pub take_append : {A : Type 0} (n : ℕ) (l m : List A) → take n (l ++ m) ≡ take n l ++ take (n - length l) m
take_append zero l m = rw (zero-sub (length l))
take_append (suc n) [] m = rw (sub-zero (suc n))
take_append (suc n) (a ∷ l) m = rw (suc-sub-suc n (length l)) (λ i. a ∷ take_append n l m i)

pub take_map : {A B : Type 0} (f : A → B) (n : ℕ) (l : List A) → take n (map f l) ≡ map f (take n l)
take_map f zero l = refl
take_map f (suc n) [] = refl
take_map f (suc n) (a ∷ l) = λ i. f a ∷ take_map f n l i

pub drop_map : {A B : Type 0} (f : A → B) (n : ℕ) (l : List A) → drop n (map f l) ≡ map f (drop n l)
drop_map f zero l = refl
drop_map f (suc n) [] = refl
drop_map f (suc n) (a ∷ l) = drop_map f n l

pub get_d_map : {A B : Type 0} (f : A → B) (l : List A) (i : ℕ) (d : A) → get_or (map f l) i (f d) ≡ f (get_or l i d)
get_d_map f [] i d = refl
get_d_map f (a ∷ l) zero d = refl
get_d_map f (a ∷ l) (suc i) d = get_d_map f l i d
