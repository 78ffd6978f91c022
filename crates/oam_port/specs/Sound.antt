-- A machine that the port can be in, and replies that are no refusals.
use Rattle.std.specs.Prelude.{◌<◌, ◌≡◌, List, [], ◌∷◌, length}
use Rattle.base_refusal.specs.Answer.{value, refused}
use Rattle.oam_port.specs.Port.{Machine}
use Rattle.oam_port.specs.Sequences.{Reply, written, byte}

-- sprite memory of 544 bytes, and an address of the port
pub record PortSound (m : Machine) : Type 0 where
  pub long : length m.memory ≡ 544
  pub within : m.port.address < 1024

-- a reply that is no refusal
abbrev pub Spoken : Reply → Type 0
Spoken (written (value _)) = Unit
Spoken (written (refused n)) = ⊥
Spoken (byte (value _)) = Unit
Spoken (byte (refused n)) = ⊥

abbrev pub AllSpoken : List Reply → Type 0
AllSpoken [] = Unit
AllSpoken (r ∷ l) = Spoken r × AllSpoken l
