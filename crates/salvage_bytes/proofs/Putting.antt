-- A number that is put over bytes, and a file that is cut or filled.
use Rattle.std.specs.Prelude.{ℕ, zero, suc, ◌+◌, ◌-◌, ◌/◌, ◌%◌, ◌^◌, ◌<◌, ◌≤◌, min, ◌≡◌, refl, Bool, true, false, List, ◌++◌, length, get_or, take, drop, replicate, ltb}
use Rattle.std.specs.Int.{w32, to_le_bytes}
use Rattle.std.proofs.Common.{sym, ◌∙◌, arith, rules, ltb-true, ltb-false, ext_get_or}
use Rattle.std.proofs.lemmas.List.{places}
use borrow.Rule.Slice.PartMut.{put_mid, post_of, mid_of}
use Rattle.base_lists.specs.theorems.Tab.{by_get_d}
use Rattle.salvage_bytes.specs.Bytes.{with_number, resized}
use Rattle.salvage_bytes.specs.theorems.Numbers.{number_length, number_inside, number_outside, is_before, is_after}

-- byte j of a number
low_byte : (number j : ℕ) → j < 4 → get_or (to_le_bytes w32 number) j 0 ≡ number / 256 ^ j % 256
low_byte number zero h = omega arith
low_byte number (suc zero) h = omega arith
low_byte number (suc (suc zero)) h = omega arith
low_byte number (suc (suc (suc zero))) h = omega arith
low_byte number (suc (suc (suc (suc j)))) h = absurd (omega arith)

-- some bytes over those from byte k on
module _ (k n : ℕ) (bytes l : List ℕ) (few : n ≤ length bytes) (fits : k + n ≤ length l) where
  abbrev over : List ℕ
  over = take k l ++ (take n bytes ++ drop n (drop k l))

  over_length : length over ≡ length l
  over_length = search (rules, places)

  over_before : (i : ℕ) → i < k → get_or over i 0 ≡ get_or l i 0
  over_before i h = grind (arith, places)

  over_inside : (i : ℕ) → k ≤ i → i < k + n → get_or over i 0 ≡ get_or bytes (i - k) 0
  over_inside i h g = grind (arith, places)

  over_after : (i : ℕ) → k + n ≤ i → get_or over i 0 ≡ get_or l i 0
  over_after i h = grind (arith, places)

-- the first n bytes of a number over those from byte k on
module _ (k n number : ℕ) (l : List ℕ) (few : n ≤ 4) (fits : k + n ≤ length l) where
  put_byte : (i : ℕ) (s t : Bool) → ltb i k ≡ s → ltb i (k + n) ≡ t →
      get_or (over k n (to_le_bytes w32 number) l few fits) i 0 ≡ get_or (with_number k n number l) i 0
  put_byte i true t d c =
      let below = ltb-true i k d in
      over_before _ _ _ _ few fits i below ∙ sym (number_outside k n number l i (is_before k n i below))
  put_byte i false true d c =
      let least = ltb-false i k d in
      let most = ltb-true i (k + n) c in
      let place : k + (i - k) ≡ i = omega arith in
      over_inside _ _ _ _ few fits i least most
      ∙ low_byte number (i - k) (omega arith)
      ∙ sym (rw place at (number_inside k n number l (i - k) (omega arith) (omega arith)))
  put_byte i false false d c =
      let past = ltb-false i (k + n) c in
      over_after _ _ _ _ few fits i past ∙ sym (number_outside k n number l i (is_after k n i past))

  pub put_number : over k n (to_le_bytes w32 number) l few fits ≡ with_number k n number l
  put_number =
      ext_get_or 0 _ (with_number k n number l) (over_length _ _ _ _ few fits ∙ sym (number_length k n number l))
      (λ i b. put_byte i (ltb i k) (ltb i (k + n)) refl refl)

-- the bytes of a file that there is room for, and zeros after them
pub cut_or_filled : (file out : List ℕ) (kept : ℕ) → kept ≡ min (length file) 66656 → length out ≡ 66656 →
    let front = take kept file ++ post_of 0 kept out in
    put_mid kept (66656 - kept) front (replicate (length (mid_of kept (66656 - kept) front)) 0) ≡ resized file
unfolding resized
cut_or_filled file out kept e h =
    by_get_d 66656 (λ (i : ℕ). get_or file i 0) _ 0 (search (rules, places)) (λ x b. grind (arith, places))
