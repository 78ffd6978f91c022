-- A line that grows by bytes: what stands in its text.
use Prim.Native.Nat.{ℕ, ◌+◌, ◌-◌, ◌≤◌}
use mathlib.Core.Path.{◌≡◌, sym, ap, ◌∙◌}
use mathlib.Core.List.{List, [], ◌++◌, append_assoc}
use native.Mathlib.Omega.{arith}
use lib.ListN.{length, replicate, length-append}
use Rattle.std.proofs.Math.Seq.{take-append_seam, drop-append_seam}
use Rattle.std.proofs.lemmas.List.{drop-replicate}
use borrow.Rule.Slice.PartMut.{put_mid}
use Rattle.base_lists.specs.Places.{places}
use Rattle.base_lists.specs.theorems.Places.{take_places, places_none, length_places}
use Rattle.salvage_text.specs.declared.TextLine.{TextLine}
use Rattle.salvage_text.specs.Text.{text_line}
use Rattle.salvage_text.specs.steps.Text.{written, Clean}

-- a line of these bytes: they are written, and nothing stands after them
pub line_made : {line : TextLine} (l : List ℕ) → line ≡ text_line l → (written line ≡ l) × Clean line
unfolding text_line
line_made l e = let w = (λ i. written (e i)) ∙ take_places 90 0 l in (w, e ∙ ap text_line (sym w))

-- a text of zeros
pub line_none : record { text = replicate 90 0; size = 0 } ≡ text_line []
unfolding text_line
line_none = λ i. record { text = places_none 90 0 i; size = 0 }

-- a clean line's size
pub clean_size : (line : TextLine) → Clean line → line.size ≡ length (written line)
unfolding text_line
clean_size line e = λ i. (e i).size

-- it is within the text
pub clean_fits : (line : TextLine) → Clean line → line.size ≤ 90 → line.size ≤ length line.text
unfolding text_line
clean_fits line e h =
    let size : line.size ≡ length (written line) = clean_size line e in
    let long : length line.text ≡ 90 = (λ i. length (e i).text) ∙ length_places 90 0 (written line) (omega arith) in
    omega arith

-- bytes over the places after a list
over_places : (n blank : ℕ) (l bytes : List ℕ) → length l + length bytes ≤ n →
    put_mid (length l) (length bytes) (places n blank l) bytes ≡ places n blank (l ++ bytes)
unfolding places
over_places n blank l bytes h =
    let blanks = replicate (n - length l) blank in
    let rest : n - length l - length bytes ≡ n - length (l ++ bytes) = omega (arith, length-append l bytes) in
    rw (take-append_seam l blanks, drop-append_seam l blanks, drop-replicate (length bytes) (n - length l) blank, rest)
    (sym (append_assoc l bytes (replicate (n - length (l ++ bytes)) blank)))

-- a clean line with some bytes after it
pub line_longer : (line : TextLine) (bytes : List ℕ) → Clean line → line.size + length bytes ≤ 90 →
    record { text = put_mid line.size (length bytes) line.text bytes; size = line.size + length bytes } ≡ text_line (written line ++ bytes)
unfolding text_line
line_longer line bytes clean room =
    let l = written line in
    let size : line.size ≡ length l = clean_size line clean in
    let few : length l + length bytes ≤ 90 = omega arith in
    λ i. record {
      text = ((λ j. put_mid (size j) (length bytes) (clean j).text bytes) ∙ over_places 90 0 l bytes few) i;
      size = ((λ j. size j + length bytes) ∙ sym (length-append l bytes)) i;
    }
