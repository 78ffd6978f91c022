-- What a call that lays says and leaves settles its result and both lines: two calls of one meaning are one.
use Rattle.std.specs.Prelude.{◌≡◌, Result}
use Rattle.base_refusal.specs.Answer.{Outcome}
use Rattle.base_refusal.specs.Results.{means}
use Rattle.base_refusal.specs.theorems.Settled.{one_left}
use Rattle.base_refusal.specs.declared.Refusal.{Refusal}
use Rattle.line_pixels.specs.declared.Lines.{Lines}

pub one_lines : (a b : Result Unit Refusal) (l m : Lines) →
    ◌≡◌ {A = Outcome Unit Lines} (record { said = means a; left = l }) (record { said = means b; left = m }) →
    (a ≡ b) × (l ≡ m)
one_lines = one_left
