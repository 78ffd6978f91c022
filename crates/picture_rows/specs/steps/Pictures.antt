-- What the tests leave for the work.
use Rattle.std.specs.Prelude.{ℕ, ◌<◌, ◌≡◌}

-- what is known once they are passed
pub record PicturesTested (first second choice : ℕ) : Type 0 where
  pub whole : first ≡ 172032
  pub whole_2 : second ≡ 172032
  pub either : choice < 2
