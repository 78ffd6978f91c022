-- A count and its four bytes.
use Rattle.std.specs.Prelude.{ℕ, zero, suc, ◌+◌, ◌*◌, ◌/◌, ◌%◌, ◌^◌, ◌<◌, ◌≡◌, List, get_or}
use Rattle.std.proofs.Common.{sym, arith, add_assoc, add-zero}
use Rattle.std.proofs.Math.Nat.{div-div-eq-div-mul}
use Rattle.scene_file.specs.File.{count_at}

-- what holds of 0, 1, 2 and 3 holds below 4
below_4 : (P : ℕ → Type 0) → P 0 → P 1 → P 2 → P 3 → (j : ℕ) → j < 4 → P j
below_4 P a b c d zero h = a
below_4 P a b c d (suc zero) h = b
below_4 P a b c d (suc (suc zero)) h = c
below_4 P a b c d (suc (suc (suc zero))) h = d
below_4 P a b c d (suc (suc (suc (suc j)))) h = absurd (omega arith)

-- a number below 2 ^ 32 by its four bytes
four_bytes : (n : ℕ) → n < 4294967296 →
    n / 1 % 256 + n / 256 % 256 * 256 + (n / 65536 % 256 + n / 16777216 % 256 * 256) * 65536 ≡ n
four_bytes n h =
    let two : n / 65536 ≡ n / 256 / 256 = sym (div-div-eq-div-mul n 256 256) in
    let three : n / 16777216 ≡ n / 65536 / 256 = sym (div-div-eq-div-mul n 65536 256) in
    let small : n / 16777216 % 256 ≡ n / 16777216 = omega arith in
    let third : n / 65536 % 256 + n / 16777216 * 256 ≡ n / 65536 = omega arith in
    let second : n / 256 % 256 + n / 65536 * 256 ≡ n / 256 = omega arith in
    let first : n / 1 % 256 + n / 256 * 256 ≡ n = omega arith in
    rw (small, third) (omega arith)

module _ (bytes : List ℕ) (k : ℕ) where
  -- a count whose bytes are those of a number below 2 ^ 32 is that number
  pub count_is : (number : ℕ) → number < 4294967296 → ((j : ℕ) → j < 4 → get_or bytes (k + j) 0 ≡ number / 256 ^ j % 256) →
      count_at bytes k ≡ number
  count_is number b h =
      let zeroth : get_or bytes k 0 ≡ number / 1 % 256 = rw add-zero at (h 0 (omega arith)) in
      let first : get_or bytes (k + 1) 0 ≡ number / 256 % 256 = h 1 (omega arith) in
      let second : get_or bytes (k + 2) 0 ≡ number / 65536 % 256 = h 2 (omega arith) in
      let third : get_or bytes (k + 2 + 1) 0 ≡ number / 16777216 % 256 = rw (add_assoc k 2 1) (h 3 (omega arith)) in
      rw (zeroth, first, second, third) (four_bytes number b)

  -- the bytes of a count are the count's
  pub count_bytes : ((i : ℕ) → get_or bytes i 0 < 256) → (j : ℕ) → j < 4 → get_or bytes (k + j) 0 ≡ count_at bytes k / 256 ^ j % 256
  count_bytes low =
      let a = low k in
      let b = low (k + 1) in
      let c = low (k + 2) in
      let d = low (k + 2 + 1) in
      below_4 (λ j. get_or bytes (k + j) 0 ≡ count_at bytes k / 256 ^ j % 256) (rw add-zero (omega arith)) (omega arith) (omega arith)
      (rw (← (add_assoc k 2 1)) (omega arith))
