-- Loops that fill an array from the front by a rule: what such a loop holds where it has come to x.
use Rattle.std.specs.Prelude.{ℕ, suc, ◌+◌, ◌<◌, ◌≤◌, ◌≡◌, List, ◌++◌, map, get_or, set, take, drop}
use Rattle.std.proofs.Math.Path.{refl}
use Rattle.std.proofs.Common.{sym, ap, subst, ◌∙◌, append_assoc, append-nil, take_all}
use native.Mathlib.Omega.{arith}
use Rattle.std.proofs.Math.Numerals.{add-one}
use Rattle.std.proofs.Math.ListN.{length, length-set}
use Rattle.std.proofs.lemmas.List.{length-map, get_or_at}
use Rattle.std.proofs.Math.Seq.{take-suc-set, drop-cons, set_at, drop-length}
use Rattle.base_lists.specs.Tab.{tab}
use Rattle.base_lists.specs.theorems.Tab.{length_tab}

module _ {A : Type 0} where
  -- the length of an array that is a field of a struct: `search (rules, long_field)`
  pub long_field : {B : Type 0} (g : A → B) (l : List A) (n : ℕ) → length (map g l) ≡ n → length l ≡ n
  long_field g l n e = rw length-map at e

  -- The loop writes over the list l that it reads: it holds the rule's first x elements, and from there on l's.
  pub record Filled (n : ℕ) (f : ℕ → A) (l out : List A) (x : ℕ) : Type 0 where
    pub long : length l ≡ n
    pub within : x ≤ n
    pub is : out ≡ tab x f ++ drop x l

  module _ {n : ℕ} {f : ℕ → A} {l : List A} where
    pub filled_none : length l ≡ n → Filled n f l l 0
    unfolding tab
    filled_none e = record { long = e; within = omega arith; is = refl }

    -- what the loop reads at x, before it writes there
    pub filled_read : {out : List A} {x : ℕ} → Filled n f l out x → x < n → (d : A) → get_or out x d ≡ get_or l x d
    filled_read {out} {x} i h d =
        let below : x < length l = omega arith in
        rw (i.is, drop-cons l x d, get_or_at (tab x f) (get_or l x d) (drop (suc x) l) d x (length_tab f x))

    -- a turn
    pub filled_more : {out : List A} {x : ℕ} → Filled n f l out x → x < n → (a : A) → a ≡ f x → Filled n f l (set out x a) (x + 1)
    unfolding tab
    filled_more {out} {x} i h a e =
        let below : x < length l = omega arith in
        record {
          long = i.long;
          within = omega arith;
          is =
              rw (i.is, add-one x, drop-cons l x a, set_at (tab x f) (get_or l x a) (drop (suc x) l) a x (length_tab f x), e, append_assoc);
        }

    -- a turn that writes nothing, where the element is the rule's already
    pub filled_kept : {out : List A} {x : ℕ} → Filled n f l out x → x < n → (d : A) → get_or l x d ≡ f x → Filled n f l out (x + 1)
    unfolding tab
    filled_kept {out} {x} i h d e =
        let below : x < length l = omega arith in
        record {
          long = i.long;
          within = omega arith;
          is = i.is ∙ rw (add-one x, drop-cons l x d, e, append_assoc);
        }

    -- the end
    pub filled_all : {out : List A} {x : ℕ} → Filled n f l out x → n ≤ x → out ≡ tab n f
    filled_all {out} {x} i h =
        let e : x ≡ length l = omega arith in
        i.is ∙ rw (e, drop-length, append-nil, i.long)

  -- The loop reads nothing of what it writes: the first x elements are the rule's. For nested loops, whose inner one knows
  -- the array only as it found it.
  pub record Front (n : ℕ) (f : ℕ → A) (out : List A) (x : ℕ) : Type 0 where
    pub long : length out ≡ n
    pub within : x ≤ n
    pub is : take x out ≡ tab x f

  module _ {n : ℕ} {f : ℕ → A} where
    pub front_none : {out : List A} → length out ≡ n → Front n f out 0
    unfolding tab
    front_none e = record { long = e; within = omega arith; is = refl }

    pub front_more : {out : List A} {x : ℕ} → Front n f out x → x < n → (a : A) → a ≡ f x → Front n f (set out x a) (x + 1)
    unfolding tab
    front_more {out} {x} i h a e =
        let below : x < length out = omega arith in
        record {
          long = simp length-set i.long;
          within = omega arith;
          is = rw (add-one x, take-suc-set out x a below, i.is, e);
        }

    -- the place, counted in another way
    pub front_at : {out : List A} {x y : ℕ} → x ≡ y → Front n f out x → Front n f out y
    front_at {out} e i = subst (λ (k : ℕ). Front n f out k) e i

    pub front_all : {out : List A} {x : ℕ} → Front n f out x → n ≤ x → out ≡ tab n f
    front_all {out} {x} i h =
        let e : x ≡ n = omega arith in
        sym (take_all x out (omega arith)) ∙ i.is ∙ ap (λ (k : ℕ). tab k f) e
