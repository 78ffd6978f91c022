-- Numbers drawn one after another.
use Rattle.std.specs.Prelude.{ℕ, ◌+◌, ◌*◌, ◌≡◌, refl}
use Rattle.std.proofs.Common.{ap, ◌∙◌, arith, add-one}
use Rattle.test_numbers.specs.Generator.{next_of}
use Rattle.test_replay.specs.Drawing.{after_of}

pub after_none : (x : ℕ) → after_of 0 x ≡ x
unfolding after_of
after_none x = refl

-- one number more
pub after_next : (x n : ℕ) {y z : ℕ} → y ≡ after_of n x → z ≡ next_of y → z ≡ after_of (n + 1) x
unfolding after_of
after_next x n e f = rw (add-one n) (f ∙ (λ i. next_of (e i)))

-- a turn that draws two
pub record Twice (x n y z : ℕ) : Type 0 where
  pub first : y ≡ after_of (n * 2 + 1) x
  pub second : z ≡ after_of (n * 2 + 2) x
  pub on : z ≡ after_of ((n + 1) * 2) x

pub after_twice : (x n : ℕ) {w y z : ℕ} → w ≡ after_of (n * 2) x → y ≡ next_of w → z ≡ next_of y → Twice x n y z
after_twice x n {w} {y} {z} e f g =
    let first = after_next x (n * 2) e f in
    let both = after_next x (n * 2 + 1) first g in
    let at : (k : ℕ) → n * 2 + 1 + 1 ≡ k → z ≡ after_of k x = λ k h. both ∙ ap (λ (m : ℕ). after_of m x) h in
    record { first = first; second = at (n * 2 + 2) (omega arith); on = at ((n + 1) * 2) (omega arith) }
