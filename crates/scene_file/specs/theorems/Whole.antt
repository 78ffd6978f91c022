-- What is accepted is whole: 66,656 bytes in all.
use Rattle.std.specs.Prelude.{ℕ, ◌+◌, ◌-◌, ◌≤◌, ◌≡◌, refl, Bool, true, false, List, length, get_or, drop, eqb, leb}
use Rattle.std.proofs.Common.{arith, length-drop, leb-true, eqb-true}
use Rattle.base_refusal.specs.Answer.{Answer, value, refused, provided, ◌and_then◌}
use Rattle.scene_file.specs.File.{count_at, section_tests, end_tests, value_tests, scene_tests}

-- no refusal is a pass
pub no_pass : {n : ℕ} → ◌≡◌ {A = Answer Unit} (refused n) (value tt) → ⊥
no_pass e = let z : ◌≡◌ {A = ℕ} 0 1 = cc in omega arith

-- where tests after one another pass, each does
pub first_passes : (a b : Answer Unit) → (a and_then b) ≡ value tt → a ≡ value tt
first_passes (value tt) b e = refl
first_passes (refused n) b e = absurd (no_pass e)

pub then_passes : (a b : Answer Unit) → (a and_then b) ≡ value tt → b ≡ value tt
then_passes (value tt) b e = e
then_passes (refused n) b e = absurd (no_pass e)

pub held : (t : Bool) (n : ℕ) (a : Answer Unit) → provided t n a ≡ value tt → t ≡ true
held true n a e = refl
held false n a e = absurd (no_pass e)

pub after : (t : Bool) (n : ℕ) (a : Answer Unit) → provided t n a ≡ value tt → a ≡ value tt
after true n a e = e
after false n a e = absurd (no_pass e)

-- a section that passes lies in the file
section_within : (bytes : List ℕ) (k n : ℕ) → section_tests bytes k n ≡ value tt → leb (k + 4 + n) (length bytes) ≡ true
section_within bytes k n e =
    let last = provided (leb (k + 4 + n) (length bytes)) 9 (value tt) in
    let count = eqb (count_at bytes k) n in
    held (leb (k + 4 + n) (length bytes)) 9 (value tt)
    (after count 8 last (after (leb (k + 4) (length bytes)) 9 (provided count 8 last) e))

pub whole : (bytes : List ℕ) → scene_tests bytes ≡ value tt → length bytes ≡ 66656
unfolding scene_tests end_tests
whole bytes e =
    let more = length (drop 66656 bytes) in
    let values = value_tests (get_or bytes 50 0) (get_or bytes 51 0) in
    let end = provided (eqb more 0) 10 (value tt) and_then values in
    let fourth = section_tests bytes 1116 65536 and_then end in
    let third = section_tests bytes 600 512 and_then fourth in
    let second = section_tests bytes 52 544 and_then third in
    let e2 = then_passes (section_tests bytes 0 48) second e in
    let e3 = then_passes (section_tests bytes 52 544) third e2 in
    let e4 = then_passes (section_tests bytes 600 512) fourth e3 in
    let least : 66656 ≤ length bytes = leb-true 66656 (length bytes) (section_within bytes 1116 65536 (first_passes (section_tests bytes 1116 65536) end e4)) in
    let e5 = then_passes (section_tests bytes 1116 65536) end e4 in
    let none : more ≡ 0 = eqb-true more 0 (held (eqb more 0) 10 (value tt) (first_passes (provided (eqb more 0) 10 (value tt)) values e5)) in
    let past : more ≡ length bytes - 66656 = length-drop 66656 bytes in
    omega arith
