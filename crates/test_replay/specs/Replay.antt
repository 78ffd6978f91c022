-- The seed of a list, and a digest of bytes.
use Rattle.std.specs.Prelude.{ℕ, ◌≡◌, List, [], ◌∷◌}
use Rattle.test_numbers.specs.Generator.{seed_of}
use Rattle.test_digest.specs.Digest.{folded}

-- r is the seed that some bytes give: which were read is in no contract
pub record Seeded (own r : ℕ) : Type 0 where
  pub bytes : List ℕ
  pub is : r ≡ seed_of bytes own

-- each byte in turn is folded into the digest
unfoldable pub digest_of : ℕ → List ℕ → ℕ
digest_of d [] = d
digest_of d (b ∷ l) = digest_of (folded d b) l
