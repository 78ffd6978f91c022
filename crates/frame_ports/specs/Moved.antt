-- What can be said of bytes that are moved: how many, and that those that are handed on stay as they are.
use Rattle.std.specs.Prelude.{ℕ, ◌≡◌, ◌⊎◌, List, length}
use Rattle.io.specs.Counts.{IsPrefixLen}
use Rattle.frame_ports.specs.declared.Way.{Way}
use Rattle.frame_ports.specs.declared.Way.TheVariants.{Scene, Plate, Trouble}

-- r is n or nothing
abbrev pub AllOrNone : ℕ → ℕ → Type 0
AllOrNone n r = (r ≡ n) ⊎ (r ≡ 0)

-- handed on: all of them or none, and they stay
abbrev pub Handed : List ℕ → List ℕ → ℕ → Type 0
Handed before after n = (after ≡ before) × AllOrNone (length before) n

-- by what is done with them
abbrev pub Moved : Way → List ℕ → List ℕ → ℕ → Type 0
Moved Scene before after n = IsPrefixLen n after
Moved Plate before after n = Handed before after n
Moved Trouble before after n = Handed before after n
