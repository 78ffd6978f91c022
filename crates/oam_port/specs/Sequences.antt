-- Calls one after another, and what a machine of one memory, one address and one latch does and says of them.
use Rattle.std.specs.Prelude.{ℕ, ◌≡◌, List, [], ◌∷◌, Result}
use Rattle.base_refusal.specs.Answer.{Answer, Outcome}
use Rattle.base_refusal.specs.Results.{means}
use Rattle.base_refusal.specs.declared.Refusal.{Refusal}
use Rattle.oam_port.specs.declared.OamPort.{OamPort}
use Rattle.oam_port.specs.Port.{Machine, machine, addressed, wrote, read_out}

-- what is asked of the port
pub data Access : Type 0 where
  address_write : ℕ → Access
  data_write : ℕ → Access
  data_read : Access

-- what it says
pub data Reply : Type 0 where
  written : Answer Unit → Reply
  byte : Answer ℕ → Reply

-- the machine after an access, and its reply
abbrev pub step : Access → Machine → Machine
step (address_write v) m = (addressed v m).left
step (data_write v) m = (wrote v m).left
step data_read m = (read_out m).left

abbrev pub reply : Access → Machine → Reply
reply (address_write v) m = written (addressed v m).said
reply (data_write v) m = written (wrote v m).said
reply data_read m = byte (read_out m).said

-- a call that was made, between the memory and port that it was given and those that it left: all that is known of it is
-- its contract
pub data Called : Access → Machine → Reply → Machine → Type 0 where
  wrote_address : (p q : OamPort) (v : ℕ) (oam : List ℕ) (r : Result Unit Refusal) →
      ◌≡◌ {A = Outcome Unit Machine} (record { said = means r; left = machine oam q }) (addressed v (machine oam p)) →
      Called (address_write v) (machine oam p) (written (means r)) (machine oam q)
  wrote_data : (p q : OamPort) (v : ℕ) (before after : List ℕ) (r : Result Unit Refusal) →
      ◌≡◌ {A = Outcome Unit Machine} (record { said = means r; left = machine after q }) (wrote v (machine before p)) →
      Called (data_write v) (machine before p) (written (means r)) (machine after q)
  read_data : (p q : OamPort) (oam : List ℕ) (r : Result ℕ Refusal) →
      ◌≡◌ {A = Outcome ℕ Machine} (record { said = means r; left = machine oam q }) (read_out (machine oam p)) →
      Called data_read (machine oam p) (byte (means r)) (machine oam q)

-- calls made one after another, each on what the one before left
pub data PortCalls : List Access → Machine → List Reply → Machine → Type 0 where
  no_call : (m : Machine) → PortCalls [] m [] m
  then_calls : (a : Access) (l : List Access) (m n o : Machine) (r : Reply) (rs : List Reply) →
      Called a m r n → PortCalls l n rs o → PortCalls (a ∷ l) m (r ∷ rs) o
