-- Counting tiles.
use Rattle.std.proofs.Common.{◌≡◌, ℕ, zero, suc, ◌+◌, ◌*◌, ◌%◌, ◌≤◌, ◌<◌, Bool, true, false, cond, not, ltb, leb, sym, refl, ap, ◌∙◌, add-one, arith, le-ltb, lt-ltb, ne_eqb, le-leb, leb-false, leb-true, take, length, take_all}
use Rattle.std.specs.List.{filter, range_with_len}
use Rattle.std.proofs.lemmas.List.Filters.{length-filter_more}
use Rattle.std.proofs.lemmas.List.FromFn.{length-range_with_len, get_or-range_with_len}
use native.Mathlib.Nat.{zero-add}
use Rattle.sprite_row.specs.SpriteRow.{counts, count_to}

-- of two tests that exclude each other, one from the other
not_leb : (a b : ℕ) → ltb b a ≡ not (leb a b)
not_leb a b = by_cases (leb a b) refl
  where
    by_cases : (t : Bool) → leb a b ≡ t → ltb b a ≡ not (leb a b)
    by_cases true e = le-ltb b a (leb-true a b e) ∙ sym (ap not e)
    by_cases false e = lt-ltb b a (leb-false a b e) ∙ sym (ap not e)

pub beyond : (x t : ℕ) → (x ≡ 256 → ⊥) → 256 ≤ (x + t * 8) % 512 → ltb 504 ((x + t * 8) % 512) ≡ counts x t
unfolding counts
beyond x t h l = simp (ne_eqb x 256 h, le-leb 256 _ l) (not_leb ((x + t * 8) % 512) 504)

one_or_none : (b : Bool) → cond b 1 0 ≤ 1
one_or_none true = omega arith
one_or_none false = omega arith

pub count_le : (x n : ℕ) → count_to x n ≤ n
unfolding count_to
count_le x zero = omega arith
count_le x (suc n) = omega (arith, count_le x n, one_or_none (counts x n))

-- the first i of n tiles, and those of them that count
kept : (x n i : ℕ) → i ≤ n → length (filter (counts x) (take i (range_with_len 0 n))) ≡ count_to x i
unfolding count_to
kept x n zero h = refl
kept x n (suc i) h =
    let l = range_with_len 0 n in
    let low : i < length l = omega (arith, length-range_with_len 0 n) in
    ap (λ (k : ℕ). length (filter (counts x) (take k l))) (sym (add-one i))
    ∙ (length-filter_more (counts x) l i 0 low
    ∙ (λ j. kept x n i (omega arith) j + cond (counts x ((get_or-range_with_len 0 n i 0 (omega arith) ∙ zero-add i) j)) 1 0))

pub kept_all : (x n : ℕ) → length (filter (counts x) (range_with_len 0 n)) ≡ count_to x n
kept_all x n =
    let l = range_with_len 0 n in
    ap (λ m. length (filter (counts x) m)) (sym (take_all n l (omega (arith, length-range_with_len 0 n)))) ∙ kept x n n (omega arith)
