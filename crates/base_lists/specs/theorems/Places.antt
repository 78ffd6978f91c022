-- A list in an array: what the array holds before and after one more.
use Prim.Native.Nat.{ℕ, suc, ◌+◌, ◌-◌, ◌<◌, ◌≤◌}
use Rattle.std.specs.Prelude.{◌≡◌, List, [], ◌∷◌, ◌++◌, get_or, set, take}
use Rattle.std.proofs.Math.Path.{sym}
use Rattle.std.proofs.Common.{◌∙◌, append_assoc}
use Rattle.std.proofs.Math.Nat.{sub-zero}
use native.Mathlib.Omega.{arith}
use Rattle.std.proofs.Math.ListN.{length, replicate, length-append, get_or-append}
use Rattle.std.proofs.lemmas.List.{length-replicate}
use Rattle.std.proofs.Math.Seq.{set-append_seam, take-append_seam}
use Rattle.base_lists.specs.Places.{places}

module _ {A : Type 0} (n : ℕ) (blank : A) where
  pub places_none : replicate n blank ≡ places n blank []
  unfolding places
  places_none = rw (sub-zero n)

  -- one more is set at the length
  pub places_more : (l : List A) (a : A) → length l < n → set (places n blank l) (length l) a ≡ places n blank (l ++ a ∷ [])
  unfolding places
  places_more l a h =
      let e : n - length l ≡ suc (n - (length l + 1)) = omega arith in
      let f : length (l ++ a ∷ []) ≡ length l + 1 = length-append l (a ∷ []) in
      let rest = replicate (n - (length l + 1)) blank in
      rw (f, e) (set-append_seam l blank rest a ∙ sym (append_assoc l (a ∷ []) rest))

  pub length_places : (l : List A) → length l ≤ n → length (places n blank l) ≡ n
  unfolding places
  length_places l h = simp (length-append, length-replicate) (omega arith)

  -- up to its length the list stands there
  pub take_places : (l : List A) → take (length l) (places n blank l) ≡ l
  unfolding places
  take_places l = take-append_seam l (replicate (n - length l) blank)

  pub get_d_places : (l : List A) (i : ℕ) (d : A) → i < length l → get_or (places n blank l) i d ≡ get_or l i d
  unfolding places
  get_d_places l i d h = get_or-append l (replicate (n - length l) blank) d i h
