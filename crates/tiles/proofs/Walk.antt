-- The walk over n plane pairs from the highest to the lowest, for every n.
use Prim.Native.Nat.{ℕ, ◌+◌, ◌*◌, ◌^◌, ◌<◌, ◌≤◌}
use mathlib.Core.Path.{◌≡◌}
use mathlib.Core.List.{List}
use native.Mathlib.Omega.{arith}
use native.Mathlib.Numerals.{add-one}
use native.Mathlib.Nat.{mul-le-mul_right, mul_comm, mul_assoc, mul-add, one-le-pow, pow-suc}
use lib.Dec.{lit<}
use Rattle.tiles.specs.Tiles.{pair_at, index_of}
use Rattle.tiles.specs.theorems.PlanePairs.{index_more, index_small}

-- the first k of n pairs are left to walk, and what was walked, m, stands above them
abbrev pub Left : List ℕ → ℕ → ℕ → ℕ → ℕ → ℕ → ℕ → Type 0
Left v base x y n k m = index_of v base x y k + 4 ^ k * m ≡ index_of v base x y n

module _ (v : List ℕ) (base x y n : ℕ) where
  -- at the start all are left;
  pub none_walked : Left v base x y n n 0
  none_walked = omega arith

  -- a turn walks pair k;
  pub walk_more : (k m : ℕ) → Left v base x y n (k + 1) m → Left v base x y n k (m * 4 + pair_at v base x y k)
  walk_more k m e =
      let a = pair_at v base x y k in
      let w = 4 ^ k in
      let d : w * (m * 4 + a) ≡ w * (m * 4) + w * a = mul-add w (m * 4) a in
      let f : 4 ^ (k + 1) * m ≡ w * (m * 4) = rw (add-one k, pow-suc 4 k, mul_assoc, mul_comm 4 m) in
      omega (arith, e, d, f, index_more v base x y k)

  -- at the end none is left;
  pub all_walked : (m : ℕ) → Left v base x y n 0 m → m ≡ index_of v base x y n
  unfolding index_of
  all_walked m e = omega (arith, e)

  -- and what was walked is never more than 2n bits
  pub walked_small : (k m : ℕ) → Left v base x y n k m → m < 4 ^ n
  walked_small k m e =
      let one : 1 ≤ 4 ^ k = one-le-pow k 4 (lit< tt) in
      let q : 1 * m ≤ 4 ^ k * m = mul-le-mul_right m one in
      omega (arith, q, e, index_small v base x y n)
