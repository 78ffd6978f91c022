-- A number in some bytes of a list: what stands there, what stands elsewhere, and where nothing changes.
use Rattle.std.specs.Prelude.{ℕ, ◌+◌, ◌-◌, ◌/◌, ◌%◌, ◌^◌, ◌<◌, ◌≤◌, ◌≡◌, refl, Bool, List, length, get_or, leb, ltb}
use Rattle.std.proofs.Common.{sym, ◌∙◌, arith, add-zero, ext_get_or, leb-true, ltb-true, ltb-false, le-leb, lt-ltb, le-ltb}
use Rattle.std.proofs.Math.Bool.{true, false, cond, and-eq-true_iff}
use Rattle.std.proofs.Math.Nat.{add-sub_cancel_left, mod-lt}
use Rattle.std.proofs.Math.ListN.{get_or-eq_default}
use Rattle.std.proofs.lemmas.Bool.{lt-leb}
use Rattle.base_lists.specs.Each.{Each}
use Rattle.base_lists.specs.theorems.Each.{each_tab, each_get_d}
use Rattle.base_lists.specs.theorems.Tab.{length_tab, get_d_tab}
use Rattle.salvage_bytes.specs.Bytes.{is_in, with_number}

-- byte j of a place is in it, and what lies before it or after it is not
pub is_in_lem : (k n j : ℕ) → j < n → is_in k n (k + j) ≡ true
is_in_lem k n j h = rw (le-leb k (k + j) (omega arith), lt-ltb (k + j) (k + n) (omega arith))

pub is_before : (k n i : ℕ) → i < k → is_in k n i ≡ false
is_before k n i h = rw (lt-leb k i h)

pub is_after : (k n i : ℕ) → k + n ≤ i → is_in k n i ≡ false
is_after k n i h = rw (le-leb k i (omega arith), le-ltb i (k + n) h)

-- a byte that is in a place, counted from the place's first
in_place : (k n i : ℕ) → is_in k n i ≡ true → (k + (i - k) ≡ i) × (i - k < n)
in_place k n i d =
    let both = (and-eq-true_iff (leb k i) (ltb i (k + n))).0 d in
    let least = leb-true k i both.0 in
    let most = ltb-true i (k + n) both.1 in
    (omega arith, omega arith)

module _ (k n number : ℕ) (bytes : List ℕ) where
  abbrev rule : ℕ → ℕ
  rule i = cond (is_in k n i) (number / 256 ^ (i - k) % 256) (get_or bytes i 0)

  -- the list keeps its length
  pub number_length : length (with_number k n number bytes) ≡ length bytes
  unfolding with_number
  number_length = length_tab rule (length bytes)

  -- byte j of the place is byte j of the number
  pub number_inside : (j : ℕ) → j < n → k + j < length bytes →
      get_or (with_number k n number bytes) (k + j) 0 ≡ number / 256 ^ j % 256
  unfolding with_number
  number_inside j h b = get_d_tab rule (length bytes) (k + j) 0 b ∙ rw (is_in_lem k n j h, add-sub_cancel_left k j)

  -- past the end both read as 0
  number_past : (i : ℕ) → length bytes ≤ i → get_or (with_number k n number bytes) i 0 ≡ get_or bytes i 0
  number_past i past =
      get_or-eq_default (with_number k n number bytes) 0 (rw number_length past) ∙ sym (get_or-eq_default bytes 0 past)

  -- a byte outside the place is kept
  outside_within : (i : ℕ) → is_in k n i ≡ false → i < length bytes → get_or (with_number k n number bytes) i 0 ≡ get_or bytes i 0
  unfolding with_number
  outside_within i e b = get_d_tab rule (length bytes) i 0 b ∙ rw e

  pub number_outside : (i : ℕ) → is_in k n i ≡ false → get_or (with_number k n number bytes) i 0 ≡ get_or bytes i 0
  number_outside i e = by_cases (ltb i (length bytes)) refl
    where
      by_cases : (t : Bool) → ltb i (length bytes) ≡ t → get_or (with_number k n number bytes) i 0 ≡ get_or bytes i 0
      by_cases true d = outside_within i e (ltb-true i (length bytes) d)
      by_cases false d = number_past i (ltb-false i (length bytes) d)

  -- and so is a byte inside that is the number's already
  pub number_kept : (i x : ℕ) → get_or bytes i 0 ≡ x → (is_in k n i ≡ true → x ≡ number / 256 ^ (i - k) % 256) →
      get_or (with_number k n number bytes) i 0 ≡ x
  number_kept i x e h = by_cases (is_in k n i) (ltb i (length bytes)) refl refl
    where
      by_cases : (s t : Bool) → is_in k n i ≡ s → ltb i (length bytes) ≡ t → get_or (with_number k n number bytes) i 0 ≡ x
      by_cases true true d c =
          let p = in_place k n i d in
          rw p.0 at (number_inside (i - k) p.1 (rw p.0 (ltb-true i (length bytes) c))) ∙ sym (h d)
      by_cases true false d c = number_past i (ltb-false i (length bytes) c) ∙ e
      by_cases false t d c = number_outside i d ∙ e

  -- where the number stands there already, byte i of the place is the number's, and nothing changes
  pub number_byte : ((j : ℕ) → j < n → get_or bytes (k + j) 0 ≡ number / 256 ^ j % 256) → (i : ℕ) → is_in k n i ≡ true →
      get_or bytes i 0 ≡ number / 256 ^ (i - k) % 256
  number_byte h i d = let p = in_place k n i d in rw p.0 at (h (i - k) p.1)

  pub number_same : ((j : ℕ) → j < n → get_or bytes (k + j) 0 ≡ number / 256 ^ j % 256) → with_number k n number bytes ≡ bytes
  number_same h =
      ext_get_or 0 (with_number k n number bytes) bytes number_length (λ i b. number_kept i (get_or bytes i 0) refl (number_byte h i))

  -- bytes stay bytes
  pub number_bytes : Each (λ b. b < 256) bytes → Each (λ b. b < 256) (with_number k n number bytes)
  unfolding with_number
  number_bytes h = each_tab (λ b. b < 256) (length bytes) rule (λ i b. by_cases i (is_in k n i))
    where
      by_cases : (i : ℕ) (t : Bool) → cond t (number / 256 ^ (i - k) % 256) (get_or bytes i 0) < 256
      by_cases i true = mod-lt (number / 256 ^ (i - k)) (omega arith)
      by_cases i false = each_get_d (λ b. b < 256) bytes h 0 (omega arith) i

-- a value below 256 stands in one byte, and where it stands already, nothing changes
pub value_byte : (k number : ℕ) (bytes : List ℕ) → number < 256 → get_or bytes k 0 ≡ number → (j : ℕ) → j < 1 →
    get_or bytes (k + j) 0 ≡ number / 256 ^ j % 256
value_byte k number bytes b e j h = let z : j ≡ 0 = omega arith in rw (z, add-zero k, e) (omega arith)

pub value_same : (k number : ℕ) (bytes : List ℕ) → number < 256 → get_or bytes k 0 ≡ number → with_number k 1 number bytes ≡ bytes
value_same k number bytes b e = number_same k 1 number bytes (value_byte k number bytes b e)
