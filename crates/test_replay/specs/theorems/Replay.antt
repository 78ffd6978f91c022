-- A digest grows byte by byte.
use Rattle.std.specs.Prelude.{ℕ, ◌+◌, ◌<◌, ◌≡◌, refl, List, [], ◌∷◌, ◌++◌, length, get_or, drop}
use Rattle.std.proofs.Common.{add-one}
use Rattle.std.proofs.Math.Seq.{drop-cons, drop-length}
use Rattle.test_digest.specs.Digest.{folded}
use Rattle.test_replay.specs.Replay.{digest_of}

module _ (l : List ℕ) (d : ℕ) where
  pub digest_more : (i : ℕ) → i < length l → digest_of (folded d (get_or l i 0)) (drop (i + 1) l) ≡ digest_of d (drop i l)
  unfolding digest_of
  digest_more i h = rw (add-one, drop-cons l i 0)

  pub digest_all : digest_of d (drop (length l) l) ≡ d
  unfolding digest_of
  digest_all = rw drop-length

-- of no bytes, and of one byte more behind the others
pub digest_none : (d : ℕ) → d ≡ digest_of d []
unfolding digest_of
digest_none d = refl

pub digest_push : (l : List ℕ) (d b : ℕ) → digest_of d (l ++ (b ∷ [])) ≡ folded (digest_of d l) b
unfolding digest_of
digest_push [] d b = refl
digest_push (x ∷ l) d b = digest_push l (folded d x) b
