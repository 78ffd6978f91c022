-- A part of a list, by its elements.
use Prim.Native.Nat.{ℕ, ◌+◌, ◌-◌, ◌≤◌, min}
use mathlib.Core.Path.{◌≡◌, ap, ◌∙◌}
use mathlib.Core.List.{List}
use native.Mathlib.Omega.{arith}
use lib.ListN.{length, get_or, take, drop, length-take, length-drop}
use lib.Seq.{get_or-take, get_or-drop}
use Rattle.base_lists.specs.Tab.{tab}
use Rattle.base_lists.specs.theorems.Tab.{by_get_d}

pub part_is : {A : Type 0} (l : List A) (k n : ℕ) (d : A) → k + n ≤ length l → take (k + n - k) (drop k l) ≡ tab n (λ x. get_or l (x + k) d)
part_is l k n d h =
    let e : k + n - k ≡ n = omega arith in
    ap (λ (j : ℕ). take j (drop k l)) e
    ∙ by_get_d n (λ x. get_or l (x + k) d) (take n (drop k l)) d
    (length-take n (drop k l) ∙ (ap (min n) (length-drop k l) ∙ omega (arith, h)))
    (λ x b. get_or-take n (drop k l) x d b ∙ (get_or-drop k l x d ∙ ap (λ (j : ℕ). get_or l j d) (omega arith)))
