-- A word's digits, one by one, and its beginning.
use Prim.Native.Nat.{ℕ, suc, ◌+◌, ◌-◌, ◌*◌, ◌^◌, ◌<◌, ◌≤◌}
use mathlib.Core.Path.{◌≡◌, refl, sym, ap, ◌∙◌}
use mathlib.Core.Logic.{◌⊎◌, inl, inr}
use mathlib.Core.Bool.{Bool, true, false, cond, ◌&&◌, and-false, and-true}
use mathlib.Core.List.{List, [], ◌∷◌}
use native.Mathlib.Omega.{arith}
use native.Mathlib.Nat.{le-mul_of_pos_right}
use native.Mathlib.Numerals.{add-one}
use lib.Dec.{ltb, leb, eqb}
use lib.ListN.{length, get_or, take, drop, length-take, drop_of_length-le}
use lib.Pointwise.{pointwise}
use Rattle.std.specs.Prelude.{Option, Some, None}
use Rattle.std.proofs.lemmas.Option.{none-some, cond_some}
use Rattle.std.proofs.lemmas.List.{drop-take}
use lib.Seq.{slice, drop-cons}
use borrow.Author.Tests.{eqb-true, eqb-false, ltb-true, ltb-false, lt-ltb, le-ltb, le-leb, lt-leb}
use Rattle.test_script.specs.Number.{digit_of, are_digits, behind, number_where, digits_of, is_hex, word_number, number_between}
use Rattle.test_script.specs.steps.Number.{digit_if, more_of}

-- what the digits l say behind the number n
unfoldable pub read_on : ℕ → List ℕ → ℕ → Option ℕ
read_on base l n = number_where (are_digits base l) (behind base n l)

-- and behind what was read before them
abbrev pub onward : ℕ → List ℕ → Option ℕ → Option ℕ
onward base l (Some n) = read_on base l n
onward base l None = None

-- digits only make a number larger
grows : (base : ℕ) (l : List ℕ) (n : ℕ) → 0 < base → n ≤ behind base n l
unfolding behind
grows base [] n h = omega arith
grows base (b ∷ l) n h =
    let here = grows base l (n * base + digit_of b) h in
    omega (arith, le-mul_of_pos_right n h)

module _ (base b : ℕ) (l : List ℕ) (n : ℕ) where
  by_tests : (t u : Bool) → ltb (digit_of b) base ≡ t → ltb (n * base + digit_of b) (2 ^ 64) ≡ u →
      number_where (t && are_digits base l) (behind base (n * base + digit_of b) l)
      ≡ onward base l (cond (t && u) (Some (n * base + digit_of b)) None)
  unfolding read_on
  by_tests true true e f = refl
  by_tests true false e f =
      let d : digit_of b < base = ltb-true _ _ e in
      let large : 2 ^ 64 ≤ n * base + digit_of b = ltb-false _ _ f in
      let more = grows base l (n * base + digit_of b) (omega arith) in
      let over = le-ltb (behind base (n * base + digit_of b) l) (2 ^ 64) (omega arith) in
      rw (over, and-false)
  by_tests false u e f = refl

  pub one_digit : read_on base (b ∷ l) n ≡ onward base l (more_of n (digit_of b) base)
  unfolding are_digits behind read_on
  one_digit = by_tests (ltb (digit_of b) base) (ltb (n * base + digit_of b) (2 ^ 64)) refl refl

module _ (base : ℕ) where
  pub no_digit : (w : List ℕ) → eqb (length w) 0 ≡ true → None ≡ digits_of base w
  unfolding digits_of
  no_digit [] e = refl
  no_digit (b ∷ w) e = absurd (omega (arith, eqb-true _ _ e))

  pub first_digit : (w : List ℕ) → eqb (length w) 0 ≡ false → read_on base w 0 ≡ digits_of base w
  unfolding digits_of read_on
  first_digit [] e = absurd (eqb-false 0 0 e refl)
  first_digit (b ∷ w) e = refl

  pub last_digit : (w : List ℕ) (i n : ℕ) → length w ≤ i → n < 2 ^ 64 → read_on base (drop i w) n ≡ Some n
  unfolding are_digits behind read_on
  last_digit w i n e h = rw (drop_of_length-le w e, lt-ltb _ _ h)

  module _ (small : base ≤ 16) (b n : ℕ) where
    -- a byte that is no digit in any base is none in this one
    no_more : (t : Bool) → ltb (digit_of b) 16 ≡ t → cond t (Some (digit_of b)) None ≡ None → more_of n (digit_of b) base ≡ None
    no_more true e f = absurd (none-some _ (sym f))
    no_more false e f =
        let large : 16 ≤ digit_of b = ltb-false _ _ e in
        rw (le-ltb (digit_of b) base (omega arith))

    pub no_other : digit_if b ≡ None → more_of n (digit_of b) base ≡ None
    no_other f = no_more (ltb (digit_of b) 16) refl f

    pub the_digit : (d : ℕ) → digit_if b ≡ Some d → more_of n d base ≡ more_of n (digit_of b) base
    the_digit d f = ap (λ (k : ℕ). more_of n k base) (sym (cond_some _ _ _ f).1)

  pub next_digit : (w : List ℕ) (i n : ℕ) → i < length w →
      read_on base (drop i w) n ≡ onward base (drop (i + 1) w) (more_of n (digit_of (get_or w i 0)) base)
  next_digit w i n h = rw (drop-cons w i 0 h, add-one i) (one_digit base (get_or w i 0) (drop (suc i) w) n)

-- a word begins with `0x`
hex_front : (w : List ℕ) → pointwise eqb (take 2 w) (48 ∷ 120 ∷ []) ≡ is_hex w
hex_front [] = refl
hex_front (a ∷ []) = refl
hex_front (a ∷ b ∷ w) = rw and-true refl

module _ (s : List ℕ) (from to : ℕ) (h : from ≤ to) (within : to ≤ length s) {w : List ℕ} (e : w ≡ take (to - from) (drop from s)) where
  by_word : word_number w ≡ number_between s from to
  unfolding number_between
  by_word =
      let all : from + (to - from) ≡ to = omega arith in
      let word : w ≡ slice from to s = e ∙ (sym (drop-take from (to - from) s) ∙ ap (λ (k : ℕ). drop from (take k s)) all) in
      rw (le-leb _ _ within, word)

  pub by_hexadecimal : {x : List ℕ} → pointwise eqb (take 2 w) (48 ∷ 120 ∷ []) ≡ true → x ≡ drop 2 w →
      digits_of 16 x ≡ number_between s from to
  unfolding word_number
  by_hexadecimal t f =
      let hex : is_hex w ≡ true = sym (hex_front w) ∙ t in
      let here : digits_of 16 (drop 2 w) ≡ word_number w = rw hex in
      ap (digits_of 16) f ∙ (here ∙ by_word)

  pub by_decimal : pointwise eqb (take 2 w) (48 ∷ 120 ∷ []) ≡ false → digits_of 10 w ≡ number_between s from to
  unfolding word_number
  by_decimal t =
      let plain : is_hex w ≡ false = sym (hex_front w) ∙ t in
      let here : digits_of 10 w ≡ word_number w = rw plain in
      here ∙ by_word

pub no_word : (s : List ℕ) (from to : ℕ) → (to < from) ⊎ (length s < to) → None ≡ number_between s from to
unfolding digits_of word_number number_between
no_word s from to (inr h) = rw (lt-leb _ _ h)
no_word s from to (inl h) = by_test (leb to (length s))
  where
    short : length (take to s) ≤ from
    short = rw length-take (omega arith)

    by_test : (t : Bool) → None ≡ cond t (word_number (slice from to s)) None
    by_test true = rw (drop_of_length-le (take to s) short)
    by_test false = refl
