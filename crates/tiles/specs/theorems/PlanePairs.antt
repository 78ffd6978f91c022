-- The laws of plane pairs, once over the depth: they hold for every number n of pairs.
use Prim.Native.Nat.{ℕ, zero, suc, ◌+◌, ◌*◌, ◌^◌, ◌<◌, ◌≤◌}
use Rattle.std.specs.Prelude.{◌≡◌, refl, List}
use Rattle.std.proofs.Common.{arith, add-one, pow-suc}
use Rattle.std.proofs.Math.Nat.{mul-le-mul_left}
use Rattle.std.proofs.Math.Dec.{lit<}
use Rattle.tiles.specs.declared.BitDepth.{BitDepth}
use Rattle.tiles.specs.declared.BitDepth.TheVariants.{Two, Four, Eight}
use Rattle.tiles.specs.Tiles.{plane_word, two_bits, pair_at, index_of, pairs_of, tile_words}

-- a pair is two bits
pub pair_small : (w x : ℕ) → two_bits w x < 4
pair_small w x = omega arith

module _ (v : List ℕ) (base x y : ℕ) where
  -- one pair more
  pub index_more : (n : ℕ) → index_of v base x y (n + 1) ≡ index_of v base x y n + 4 ^ n * pair_at v base x y n
  unfolding index_of
  index_more n = rw (add-one n)

  -- n pairs are 2n bits
  pub index_small : (n : ℕ) → index_of v base x y n < 4 ^ n
  unfolding index_of
  index_small zero = lit< tt
  index_small (suc n) =
      let h : index_of v base x y n < 4 ^ n = index_small n in
      let p : pair_at v base x y n ≤ 3 = omega (arith, pair_small (plane_word v base y n) x) in
      let q : 4 ^ n * pair_at v base x y n ≤ 4 ^ n * 3 = mul-le-mul_left (4 ^ n) p in
      rw (pow-suc 4 n) (omega arith)

-- a tile has 8 words for each pair
pub words_by_pairs : (d : BitDepth) → tile_words d ≡ 8 * pairs_of d
words_by_pairs Two = refl
words_by_pairs Four = refl
words_by_pairs Eight = refl
