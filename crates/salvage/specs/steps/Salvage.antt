-- The changes as the code lists them, one after another.
use Rattle.std.specs.Prelude.{◌≡◌, List, ◌++◌}
use Rattle.salvage.specs.declared.Change.{Change}
use Rattle.salvage.specs.declared.Changes.{Changes}
use Rattle.salvage.specs.Salvage.{listed}

-- whatever list was held, it is held with these after it
abbrev pub Adds : Changes → List Change → Changes → Type 0
Adds held more r = (l : List Change) → held ≡ listed l → r ≡ listed (l ++ more)
