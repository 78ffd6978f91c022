-- What a call of the port says and leaves settles its result and the port: two calls of one meaning are one.
use Rattle.std.specs.Prelude.{ℕ, ◌≡◌, List, Result}
use Rattle.base_refusal.specs.Answer.{Outcome}
use Rattle.base_refusal.specs.Results.{means}
use Rattle.base_refusal.specs.theorems.Settled.{one_left}
use Rattle.base_refusal.specs.declared.Refusal.{Refusal}
use Rattle.oam_port.specs.declared.OamPort.{OamPort}
use Rattle.oam_port.specs.Port.{Machine, machine}

module _ {oam : List ℕ} where
  -- of the writes
  pub one_port : (a b : Result Unit Refusal) (p q : OamPort) →
      ◌≡◌ {A = Outcome Unit Machine} (record { said = means a; left = machine oam p }) (record { said = means b; left = machine oam q }) →
      (a ≡ b) × (p ≡ q)
  one_port a b p q e = let t = one_left a b _ _ e in (t.0, λ i. (t.1 i).port)

  -- and of the read
  pub one_read : (a b : Result ℕ Refusal) (p q : OamPort) →
      ◌≡◌ {A = Outcome ℕ Machine} (record { said = means a; left = machine oam p }) (record { said = means b; left = machine oam q }) →
      (a ≡ b) × (p ≡ q)
  one_read a b p q e = let t = one_left a b _ _ e in (t.0, λ i. (t.1 i).port)
