-- The data port of sprite memory: a machine of one memory, one address and one latch.
use Rattle.std.specs.Prelude.{ℕ, ◌+◌, ◌-◌, ◌*◌, ◌%◌, cond, List, get_or, set, length, ltb, eqb}
use Rattle.base_refusal.specs.Answer.{Answer, value, provided, Outcome, outcome}
use Rattle.oam_port.specs.declared.OamPort.{OamPort}

-- the lent memory, and the port by value
pub record Machine : Type 0 where
  pub memory : List ℕ
  pub port : OamPort

abbrev pub machine : List ℕ → OamPort → Machine
machine oam p = record { memory = oam; port = p }

abbrev pub rest_port : OamPort
rest_port = record { address = 0; write_latch = 0 }

-- the byte that an address means: from 512 on it is 512 + address mod 32
abbrev pub memory_place : ℕ → ℕ
memory_place a = cond (ltb a 512) a (512 + a % 32)

abbrev pub memory_byte : List ℕ → ℕ → ℕ
memory_byte oam a = get_or oam (memory_place a) 0

-- the address write sets (value mod 512) x 2 and keeps the latch
abbrev pub set_address : ℕ → OamPort → OamPort
set_address v p = record { address = v % 512 * 2; write_latch = p.write_latch }

-- each access adds 1, mod 1,024
abbrev pub next : ℕ → ℕ
next a = (a + 1) % 1024

abbrev pub move : OamPort → OamPort
move p = record { address = next p.address; write_latch = p.write_latch }

-- a write below 512 at an even address only fills the latch
abbrev pub latch : ℕ → Machine → Machine
latch v m = machine m.memory (record { address = next m.port.address; write_latch = v })

-- at an odd one it stores the latch, then the value
abbrev pub commit : ℕ → Machine → Machine
commit v m =
    machine (set (set m.memory (m.port.address - 1) m.port.write_latch) m.port.address v) (move m.port)

-- from 512 on the byte is stored at once, and the latch is kept
abbrev pub store_high : ℕ → Machine → Machine
store_high v m = machine (set m.memory (memory_place m.port.address) v) (move m.port)

unfoldable pub store : ℕ → Machine → Machine
store v m =
    cond (ltb m.port.address 512) (cond (eqb (m.port.address % 2) 0) (latch v m) (commit v m)) (store_high v m)

-- an address above 1,023 is refused 7; sprite memory of another length is refused 4, before that
abbrev pub address_tests : ℕ → Answer Unit
address_tests a = provided (ltb a 1024) 7 (value tt)

abbrev pub data_tests : ℕ → ℕ → Answer Unit
data_tests bytes a = provided (eqb bytes 544) 4 (address_tests a)

-- the three calls
unfoldable pub addressed : ℕ → Machine → Outcome Unit Machine
addressed v m = outcome (address_tests m.port.address) tt (machine m.memory (set_address v m.port)) m

unfoldable pub wrote : ℕ → Machine → Outcome Unit Machine
wrote v m = outcome (data_tests (length m.memory) m.port.address) tt (store v m) m

unfoldable pub read_out : Machine → Outcome ℕ Machine
read_out m =
    outcome (data_tests (length m.memory) m.port.address) (memory_byte m.memory m.port.address)
    (machine m.memory (move m.port)) m
