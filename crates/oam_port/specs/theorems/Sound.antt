-- What every sequence of accesses keeps: a machine that is sound stays sound and refuses nothing; one whose address is out
-- of range refuses everything and stays as it was.
use Rattle.std.specs.Prelude.{ℕ, ◌+◌, ◌-◌, ◌%◌, ◌<◌, ◌≤◌, ◌≡◌, refl, Bool, true, false, cond, List, [], ◌∷◌, ltb, eqb, get_or, length, set}
use Rattle.std.proofs.Common.{sym, subst, ◌∙◌, arith, length-set, get_or-set_same}
use Rattle.std.proofs.Math.Path.{ap}
use borrow.Author.Tests.{lt-ltb, le-ltb, eq-eqb, ne_eqb}
use Rattle.base_refusal.specs.Answer.{Answer, value, refused, provided, Outcome, outcome}
use Rattle.base_lists.specs.Runs.{run, replies}
use Rattle.base_lists.specs.theorems.Runs.{run_keeps}
use Rattle.oam_port.specs.Port.{Machine, machine, address_tests, memory_place, memory_byte, next, move, latch, commit, store_high, set_address, store, addressed, wrote, read_out}
use Rattle.oam_port.specs.Sequences.{Access, address_write, data_write, data_read, written, byte, step, reply}
use Rattle.oam_port.specs.Sound.{PortSound, Spoken, AllSpoken}

-- what the calls do to a sound machine
module _ {m : Machine} (s : PortSound m) where
  pub addressed_sound : (v : ℕ) →
      addressed v m ≡ record { said = value tt; left = machine m.memory (set_address v m.port) }
  unfolding addressed
  addressed_sound v = simp (lt-ltb _ 1024 s.within)

  pub wrote_sound : (v : ℕ) → wrote v m ≡ record { said = value tt; left = store v m }
  unfolding wrote
  wrote_sound v = simp (eq-eqb _ 544 s.long, lt-ltb _ 1024 s.within)

  pub read_sound : read_out m ≡ record { said = value (memory_byte m.memory m.port.address); left = machine m.memory (move m.port) }
  unfolding read_out
  read_sound = simp (eq-eqb _ 544 s.long, lt-ltb _ 1024 s.within)

-- a write below 512, by its address
pub store_even : (v : ℕ) (m : Machine) → m.port.address < 512 → m.port.address % 2 ≡ 0 → store v m ≡ latch v m
unfolding store
store_even v m h e = simp (lt-ltb _ 512 h, eq-eqb _ 0 e)

pub store_odd : (v : ℕ) (m : Machine) → m.port.address < 512 → (m.port.address % 2 ≡ 0 → ⊥) → store v m ≡ commit v m
unfolding store
store_odd v m h e = simp (lt-ltb _ 512 h, ne_eqb _ 0 e)

pub store_high_lem : (v : ℕ) (m : Machine) → 512 ≤ m.port.address → store v m ≡ store_high v m
unfolding store
store_high_lem v m h = simp (le-ltb _ 512 h)

-- what a write does is one of three
pick : {A : Type 0} (P : A → Type 0) (t u : Bool) {a b c : A} → P a → P b → P c → P (cond t (cond u a b) c)
pick P true true p q r = p
pick P true false p q r = q
pick P false u p q r = r

by_store : (P : Machine → Type 0) (v : ℕ) (m : Machine) → P (latch v m) → P (commit v m) → P (store_high v m) → P (store v m)
unfolding store
by_store P v m = pick P (ltb m.port.address 512) (eqb (m.port.address % 2) 0)

store_sound : (v : ℕ) (m : Machine) → PortSound m → PortSound (store v m)
store_sound v m s =
    by_store PortSound v m (record { long = s.long; within = near }) (record { long = twice; within = near })
    (record { long = length-set m.memory (memory_place m.port.address) v ∙ s.long; within = near })
  where
    near : next m.port.address < 1024
    near = omega arith

    twice : length (set (set m.memory (m.port.address - 1) m.port.write_latch) m.port.address v) ≡ 544
    twice =
        length-set (set m.memory (m.port.address - 1) m.port.write_latch) m.port.address v
        ∙ (length-set m.memory (m.port.address - 1) m.port.write_latch ∙ s.long)

-- each access keeps a machine sound, and is not refused
sound_step : (a : Access) (m : Machine) → PortSound m → PortSound (step a m)
sound_step (address_write v) m s =
    subst (λ (o : Outcome Unit Machine). PortSound o.left) (sym (addressed_sound s v))
    (record { long = s.long; within = omega arith })
sound_step (data_write v) m s =
    subst (λ (o : Outcome Unit Machine). PortSound o.left) (sym (wrote_sound s v)) (store_sound v m s)
sound_step data_read m s =
    subst (λ (o : Outcome ℕ Machine). PortSound o.left) (sym (read_sound s))
    (record { long = s.long; within = omega arith })

sound_spoken : (a : Access) (m : Machine) → PortSound m → Spoken (reply a m)
sound_spoken (address_write v) m s =
    subst (λ (o : Outcome Unit Machine). Spoken (written o.said)) (sym (addressed_sound s v)) tt
sound_spoken (data_write v) m s =
    subst (λ (o : Outcome Unit Machine). Spoken (written o.said)) (sym (wrote_sound s v)) tt
sound_spoken data_read m s = subst (λ (o : Outcome ℕ Machine). Spoken (byte o.said)) (sym (read_sound s)) tt

-- the same for every sequence
pub sound_run : (l : List Access) (m : Machine) → PortSound m → PortSound (run step l m)
sound_run = run_keeps step PortSound sound_step

pub sound_replies : (l : List Access) (m : Machine) → PortSound m → AllSpoken (replies step reply l m)
unfolding replies
sound_replies [] m s = tt
sound_replies (a ∷ l) m s = (sound_spoken a m s, sound_replies l (step a m) (sound_step a m s))

-- an address out of range: every sequence is refused, and leaves the machine as it was
stays : {A : Type 0} (t : Bool) (a : A) (d m : Machine) → (outcome (provided t 4 (refused 7)) a d m).left ≡ m
stays true a d m = refl
stays false a d m = refl

module _ (m : Machine) (h : 1024 ≤ m.port.address) where
  out : address_tests m.port.address ≡ refused 7
  out = simp (le-ltb m.port.address 1024 h)

  bad_step : (a : Access) → step a m ≡ m
  unfolding addressed wrote read_out
  bad_step (address_write v) =
      ap (λ (t : Answer Unit). (outcome t tt (machine m.memory (set_address v m.port)) m).left) out
  bad_step (data_write v) =
      ap (λ (t : Answer Unit). (outcome (provided (eqb (length m.memory) 544) 4 t) tt (store v m) m).left) out
      ∙ stays (eqb (length m.memory) 544) tt (store v m) m
  bad_step data_read =
      let b = memory_byte m.memory m.port.address in
      let n = machine m.memory (move m.port) in
      ap (λ (t : Answer Unit). (outcome (provided (eqb (length m.memory) 544) 4 t) b n m).left) out
      ∙ stays (eqb (length m.memory) 544) b n m

pub bad_run : (l : List Access) (m : Machine) → 1024 ≤ m.port.address → run step l m ≡ m
unfolding run
bad_run [] m h = refl
bad_run (a ∷ l) m h = ap (run step l) (bad_step m h a) ∙ bad_run l m h

-- a pair: two writes from an even address below 512 store both bytes, in their order
pub pair_stored : (x y : ℕ) (m : Machine) → PortSound m → m.port.address < 512 → m.port.address % 2 ≡ 0 →
    (run step (data_write x ∷ data_write y ∷ []) m).memory
    ≡ set (set m.memory m.port.address x) (m.port.address + 1) y
unfolding run
pair_stored x y m s h e =
    let a = m.port.address in
    let k = latch x m in
    let first : (wrote x m).left ≡ k = ap (λ (o : Outcome Unit Machine). o.left) (wrote_sound s x) ∙ store_even x m h e in
    let near : k.port.address < 512 = omega arith in
    let second : (wrote y k).left ≡ commit y k =
    ap (λ (o : Outcome Unit Machine). o.left) (wrote_sound {m = k} (record { long = s.long; within = omega arith }) y)
    ∙ store_odd y k near (λ z. omega arith) in
    let n : next a ≡ a + 1 = omega arith in
    let d : next a - 1 ≡ a = omega arith in
    ap (λ (o : Machine). (wrote y o).left.memory) first
    ∙ ap (λ (o : Machine). o.memory) second
    ∙ (λ i. set (set m.memory (d i) x) (n i) y)

-- the mirror: a byte written from 512 on is read at every address from 512 on that is the same mod 32
pub mirrored : (v b : ℕ) (m : Machine) → PortSound m → 512 ≤ m.port.address → 512 ≤ b → b % 32 ≡ m.port.address % 32 →
    memory_byte (run step (data_write v ∷ []) m).memory b ≡ v
unfolding run
mirrored v b m s h g e =
    let a = m.port.address in
    let stored : (wrote v m).left ≡ store_high v m =
    ap (λ (o : Outcome Unit Machine). o.left) (wrote_sound s v) ∙ store_high_lem v m h in
    let there : memory_place b ≡ memory_place a = simp (le-ltb b 512 g, le-ltb a 512 h) (ap (λ (n : ℕ). 512 + n) e) in
    let within : memory_place a < length m.memory = simp (le-ltb a 512 h) (omega (arith, s.long)) in
    ap (λ (o : Machine). memory_byte o.memory b) stored
    ∙ ap (λ (n : ℕ). get_or (set m.memory (memory_place a) v) n 0) there
    ∙ get_or-set_same m.memory (memory_place a) v 0 within
