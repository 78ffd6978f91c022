-- A pixel that is opaque only where a test holds too.
use Rattle.std.specs.Prelude.{Bool, ◌&&◌}
use Rattle.line_pixels.specs.declared.Candidate.{Candidate}

-- the same pixel, opaque only where t holds too
abbrev pub marked : Bool → Candidate → Candidate
marked t c = record { opaque = c.opaque && t; pixel = c.pixel }
