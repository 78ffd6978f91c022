-- What stands in the lent bytes as a file of them.
use Rattle.std.specs.Prelude.{ℕ, ◌+◌, ◌-◌, ◌≤◌, ◌≡◌, List, ◌++◌, length, get_or, take, replicate}
use Rattle.std.proofs.Common.{sym, ◌∙◌, arith, rules, length-append}
use Rattle.std.proofs.Math.ListN.{get_or-append}
use Rattle.std.proofs.lemmas.List.{places, length-take-le, length-replicate}
use borrow.Rule.Slice.PartMut.{put_mid, mid_of}
use Rattle.base_lists.specs.theorems.Tab.{by_get_d, tab_ext}
use Rattle.salvage_bytes.specs.Bytes.{resized}
use Rattle.salvage_input.specs.steps.Input.{Held}

-- the bytes that were read, with zeros after them
pub filled : (got : ℕ) (read : List ℕ) → length read ≡ 66656 → got ≤ 66656 →
    put_mid got (66656 - got) read (replicate (length (mid_of got (66656 - got) read)) 0) ≡ resized (take got read)
unfolding resized
filled got read e h = by_get_d 66656 (λ (i : ℕ). get_or (take got read) i 0) _ 0 (search (rules, places)) (λ x b. grind (arith, places))

-- a short file
pub held_short : {bytes : List ℕ} (got : ℕ) (read : List ℕ) → got ≤ length read → bytes ≡ resized (take got read) → Held got bytes
held_short got read h e = record { file = take got read; long = length-take-le got read h; is = e }

-- what follows a whole scene does not show
cut_off : (l m : List ℕ) → length l ≡ 66656 → resized l ≡ resized (l ++ m)
unfolding resized
cut_off l m e =
    tab_ext 66656 (λ (i : ℕ). get_or l i 0) (λ (i : ℕ). get_or (l ++ m) i 0)
    (λ x h. sym (get_or-append l m 0 x (omega arith)))

pub held_long : {bytes : List ℕ} (got more : ℕ) (read : List ℕ) → got ≤ length read → got ≡ 66656 →
    bytes ≡ resized (take got read) → Held (got + more) bytes
held_long got more read h g e =
    let long : length (take got read) ≡ got = length-take-le got read h in
    record {
      file = take got read ++ replicate more 0;
      long = length-append (take got read) (replicate more 0) ∙ (λ i. long i + length-replicate {A = ℕ} more 0 i);
      is = e ∙ cut_off (take got read) (replicate more 0) (long ∙ g);
    }
