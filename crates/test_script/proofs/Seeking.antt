-- One step of a search.
use Prim.Native.Nat.{ℕ, ◌+◌, ◌<◌, ◌≤◌}
use mathlib.Core.Path.{◌≡◌}
use mathlib.Core.Bool.{true, false}
use mathlib.Core.List.{List}
use native.Mathlib.Omega.{arith}
use native.Mathlib.Numerals.{add-one}
use lib.ListN.{length, get_or, drop_of_length-le}
use lib.Seq.{drop-cons}
use Rattle.test_script.specs.Seek.{stops_at, lead, seek_of}
use Rattle.test_script.specs.declared.Stop.{Stop}

module _ (s : List ℕ) (i : ℕ) (stop : Stop) where
  pub at_the_end : length s ≤ i → seek_of s i stop ≡ length s
  unfolding lead seek_of
  at_the_end h = rw (drop_of_length-le s h) (omega arith)

  pub stopped : i < length s → stops_at stop (get_or s i 0) ≡ true → seek_of s i stop ≡ i
  unfolding lead seek_of
  stopped h e = rw (drop-cons s i 0 h, e) (omega arith)

  pub passed : i < length s → stops_at stop (get_or s i 0) ≡ false → seek_of s (i + 1) stop ≡ seek_of s i stop
  unfolding lead seek_of
  passed h e = rw (drop-cons s i 0 h, e, add-one i) (omega arith)
