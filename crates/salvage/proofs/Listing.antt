-- A list of changes in its places, as it grows.
use Prim.Native.Nat.{ℕ, ◌+◌, ◌<◌}
use mathlib.Core.Path.{◌≡◌, sym, ap, ◌∙◌}
use mathlib.Core.List.{List, [], ◌∷◌, ◌++◌, append_assoc}
use native.Mathlib.Omega.{arith}
use lib.ListN.{length, set, replicate, length-append}
use Rattle.base_lists.specs.theorems.Places.{places_none, places_more}
use Rattle.salvage.specs.declared.Change.{Change}
use Rattle.salvage.specs.declared.Changes.{Changes}
use Rattle.salvage_bytes.specs.Bytes.{right_counter, right_field}
use Rattle.salvage.specs.Salvage.{count_changes, value_changes, place_changes, blank_change, listed}
use Rattle.salvage.specs.steps.Salvage.{Adds}

-- none
pub listed_none : record { list = replicate 7 blank_change; count = 0 } ≡ listed []
unfolding listed
listed_none = λ i. record { list = places_none 7 blank_change i; count = 0 }

-- one more
pub adds_one : (held : Changes) (c : Change) → held.count < 7 →
    Adds held (c ∷ []) (record { list = set held.list held.count c; count = held.count + 1 })
unfolding listed
adds_one held c h l e =
    let n : held.count ≡ length l = λ i. (e i).count in
    let few : length l < 7 = omega arith in
    λ i.
    record {
      list = ((λ j. set (e j).list (n j) c) ∙ places_more 7 blank_change l c few) i;
      count = (ap (λ (k : ℕ). k + 1) n ∙ sym (length-append l (c ∷ []))) i;
    }

-- the changes one after another are those of all places
pub placed : (l : List Change) (bytes : List ℕ) {counter : ℕ} → counter ≡ right_counter bytes →
    listed
    (l
    ++ count_changes bytes 0 48
    ++ count_changes bytes 52 544
    ++ count_changes bytes 600 512
    ++ count_changes bytes 1116 65536
    ++ value_changes bytes 50 counter
    ++ value_changes bytes 51 (right_field bytes))
    ≡ listed (l ++ place_changes bytes)
unfolding place_changes
placed l bytes e = rw e (ap listed (simp append_assoc))
