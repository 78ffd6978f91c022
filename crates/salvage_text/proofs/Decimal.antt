-- The digits that the library spells are the decimal ones.
use Prim.Native.Nat.{ℕ, zero, suc, ◌-◌, ◌*◌, ◌/◌, ◌%◌, ◌^◌, ◌≤◌, ◌<◌}
use mathlib.Core.Path.{◌≡◌}
use native.Mathlib.Omega.{arith}
use native.Mathlib.Nat.{one-le-pow, pow-le-pow_right, lt_of_not-le, le_of_suc-le-suc}
use native.Mathlib.Numerals.{unary_clauses}
use borrow.Author.Tests.{lt-ltb, le-ltb}
use Rattle.io.specs.Digits.{last_digits, IsDigitCount}
use Rattle.salvage_text.specs.Text.{digits_by, decimal}

-- where f digits hold a number, the fewest are no more
not_more : (f k n : ℕ) → 1 ≤ f → n < 10 ^ f → IsDigitCount 10 1 n k → f < k → ⊥
not_more f k n some holds h more =
    let least : 10 ^ (k - 1) ≤ n = h.2 (omega arith) in
    let past : 10 ^ f ≤ 10 ^ (k - 1) = pow-le-pow_right (omega arith) (omega arith) in
    omega arith

at_most : (f k n : ℕ) → 1 ≤ f → n < 10 ^ f → IsDigitCount 10 1 n k → k ≤ f
at_most f k n some holds h = le_of_suc-le-suc (lt_of_not-le (not_more f k n some holds h))

-- the fewest digits settle where the recursion stops
digits_by_lem : (f k n : ℕ) → IsDigitCount 10 1 n k → k ≤ f → last_digits 10 k n ≡ digits_by f n
unfolding digits_by
digits_by_lem f zero n h b = absurd (omega arith)
digits_by_lem zero (suc k) n h b = absurd (omega arith)
digits_by_lem (suc f) (suc zero) n h b =
    let small : n < 10 = h.1 in
    let same : n % 10 ≡ n = omega arith in
    rw (same, lt-ltb n 10 small)
digits_by_lem (suc f) (suc (suc j)) n h b =
    let least : 10 ^ j * 10 ≤ n = simp unary_clauses at (h.2 (omega arith)) in
    let most : n < 10 ^ j * 10 * 10 = simp unary_clauses at h.1 in
    let one : 1 ≤ 10 ^ j = one-le-pow j 10 (omega arith) in
    let large : 10 ≤ n = omega arith in
    let below : n % 10 < 10 = omega arith in
    let holds : n / 10 < 10 ^ suc j = simp unary_clauses (omega arith) in
    let rest = digits_by_lem f (suc j) (n / 10) (omega arith, holds, λ o. simp unary_clauses (omega arith)) (omega arith) in
    rw (le-ltb n 10 large, lt-ltb (n % 10) 10 below, rest)

pub twenty_digits : (k n : ℕ) → n < 2 ^ 64 → IsDigitCount 10 1 n k → k ≤ 20
twenty_digits k n b h = at_most 20 k n (omega arith) (omega arith) h

pub decimal_spelt : (k n : ℕ) → n < 2 ^ 64 → IsDigitCount 10 1 n k → last_digits 10 k n ≡ decimal n
unfolding decimal
decimal_spelt k n b h = digits_by_lem 20 k n h (twenty_digits k n b h)
