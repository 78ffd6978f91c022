-- Each call does and says what the machine does and says, so a sequence of calls is the run of a machine of one memory, one
-- address and one latch.
use Rattle.std.specs.Prelude.{◌≡◌, refl, List, ◌∷◌}
use Rattle.std.proofs.Common.{ap, ap₂, ◌∙◌}
use Rattle.base_lists.specs.Runs.{run, replies}
use Rattle.oam_port.specs.Port.{Machine}
use Rattle.oam_port.specs.Sequences.{Access, Reply, step, reply, Called, PortCalls, written, byte, wrote_address, wrote_data, read_data, no_call, then_calls}

-- a call does and says what the machine does and says
pub one_call : (a : Access) (m n : Machine) (r : Reply) → Called a m r n → (n ≡ step a m) × (r ≡ reply a m)
one_call a m n r (wrote_address p q v oam b e) = (λ i. (e i).left, λ i. written (e i).said)
one_call a m n r (wrote_data p q v before after b e) = (λ i. (e i).left, λ i. written (e i).said)
one_call a m n r (read_data p q oam b e) = (λ i. (e i).left, λ i. byte (e i).said)

-- every sequence of calls ends where the machine's run ends, and heard what the machine says
pub one_machine : (l : List Access) (m n : Machine) (rs : List Reply) → PortCalls l m rs n →
    (n ≡ run step l m) × (rs ≡ replies step reply l m)
unfolding run replies
one_machine l m n rs (no_call k) = (refl, refl)
one_machine l m n rs (then_calls a t k j o r s c d) =
    let e = one_call a k j r c in
    let f = one_machine t j o s d in
    (f.0 ∙ ap (run step t) e.0, ap₂ (λ (x : Reply) (y : List Reply). x ∷ y) e.1 (f.1 ∙ ap (replies step reply t) e.0))
