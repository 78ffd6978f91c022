-- What salvage makes of a file, whatever the file: a scene that the reader accepts, which keeps every other byte; and what the
-- list of changes says.
use Rattle.std.specs.Prelude.{ℕ, ◌+◌, ◌-◌, ◌/◌, ◌%◌, ◌^◌, ◌<◌, ◌≤◌, min, ◌≡◌, refl, Bool, true, false, cond, ◌||◌, length, get_or, drop, eqb, leb, ltb}
use Rattle.std.proofs.Common.{sym, ap, ◌∙◌, arith, length-append, length-drop, leb-true, ltb-true, ltb-false, eqb-true, le-leb, eq-eqb}
use Rattle.std.proofs.lemmas.Bool.{false≢true}
use mathlib.Core.List.{List, [], ◌∷◌, ◌++◌, append-eq-nil_iff, cons-ne-nil}
use Rattle.base_refusal.specs.Answer.{value, provided, ◌and_then◌}
use Rattle.base_lists.specs.Each.{Each}
use Rattle.base_lists.specs.theorems.Each.{each_tab, each_first, each_then, each_get_d}
use Rattle.base_lists.specs.theorems.Tab.{length_tab, get_d_tab, by_get_d}
use Rattle.scene_file.specs.File.{count_at, section_tests, end_tests, value_tests, scene_tests}
use Rattle.scene_file.specs.theorems.Whole.{whole, first_passes, then_passes, held, after}
use Rattle.salvage.specs.declared.Kind.{Kind}
use Rattle.salvage.specs.declared.Kind.TheVariants.{Count, Value}
use Rattle.salvage.specs.declared.Change.{Change}
use Rattle.salvage_bytes.specs.Bytes.{resized, is_in, with_number, right_counter, right_field, with_counts, mended, salvaged}
use Rattle.salvage.specs.Salvage.{length_changes, number_changes, count_changes, value_changes, place_changes, changes_of}
use Rattle.salvage_bytes.specs.theorems.Numbers.{is_in_lem, is_before, is_after}
use Rattle.salvage_bytes.specs.theorems.Numbers.{number_length, number_inside, number_outside, number_kept, number_byte}
use Rattle.salvage_bytes.specs.theorems.Numbers.{number_same, value_byte, value_same, number_bytes}
use Rattle.salvage.specs.theorems.Counts.{count_is, count_bytes}

-- The length, and the bytes that are kept.

-- the file, cut or filled: its length and its bytes
resized_length : (f : List ℕ) → length (resized f) ≡ 66656
unfolding resized
resized_length f = length_tab (λ (i : ℕ). get_or f i 0) 66656

resized_byte : (f : List ℕ) (i : ℕ) → i < 66656 → get_or (resized f) i 0 ≡ get_or f i 0
unfolding resized
resized_byte f i b = get_d_tab (λ (i : ℕ). get_or f i 0) 66656 i 0 b

-- a file of that length is neither cut nor filled
resized_same : (f : List ℕ) → length f ≡ 66656 → resized f ≡ f
unfolding resized
resized_same f e = sym (by_get_d 66656 (λ (i : ℕ). get_or f i 0) f 0 e (λ x b. refl))

-- mending keeps the length
mended_length : (bytes : List ℕ) → length (mended bytes) ≡ length bytes
unfolding mended with_counts
mended_length bytes = simp number_length

-- What comes out has the length of a scene.
pub salvaged_length : (f : List ℕ) → length (salvaged f) ≡ 66656
salvaged_length f = mended_length (resized f) ∙ resized_length f

-- a byte in none of the places is kept
mended_outside : (bytes : List ℕ) (i : ℕ) →
    is_in 0 4 i ≡ false → is_in 52 4 i ≡ false → is_in 600 4 i ≡ false → is_in 1116 4 i ≡ false →
    is_in 50 1 i ≡ false → is_in 51 1 i ≡ false → get_or (mended bytes) i 0 ≡ get_or bytes i 0
unfolding mended with_counts
mended_outside bytes i a b c d e g =
    number_outside 51 1 _ _ i g
    ∙ (number_outside 50 1 _ _ i e
    ∙ (number_outside 1116 4 _ _ i d
    ∙ (number_outside 600 4 _ _ i c ∙ (number_outside 52 4 _ _ i b ∙ number_outside 0 4 48 bytes i a))))

-- Each byte outside the four counts, the counter and the field is the file's, or 0 past the file's end.
pub outside : (f : List ℕ) (i : ℕ) → i < 66656 →
    is_in 0 4 i ≡ false → is_in 52 4 i ≡ false → is_in 600 4 i ≡ false → is_in 1116 4 i ≡ false →
    is_in 50 1 i ≡ false → is_in 51 1 i ≡ false → get_or (salvaged f) i 0 ≡ get_or f i 0
outside f i h a b c d e g = mended_outside (resized f) i a b c d e g ∙ resized_byte f i h

-- a file of bytes stays one, cut or filled
resized_bytes : (f : List ℕ) → Each (λ b. b < 256) f → Each (λ b. b < 256) (resized f)
unfolding resized
resized_bytes f h =
    each_tab (λ b. b < 256) 66656 (λ (i : ℕ). get_or f i 0) (λ i b. each_get_d (λ b. b < 256) f h 0 (omega arith) i)

-- What comes out of a file of bytes is bytes.
pub stays_bytes : (f : List ℕ) → Each (λ b. b < 256) f → Each (λ b. b < 256) (salvaged f)
unfolding mended with_counts
stays_bytes f h =
    number_bytes _ _ _ _
    (number_bytes _ _ _ _
    (number_bytes _ _ _ _
    (number_bytes _ _ _ _
    (number_bytes _ _ _ _
    (number_bytes _ _ _ _
    (resized_bytes f h))))))

-- The places of a scene.

-- a number stands in the n bytes from byte k on
record Holds (bytes : List ℕ) (k n number : ℕ) : Type 0 where
  at : (j : ℕ) → j < n → get_or bytes (k + j) 0 ≡ number / 256 ^ j % 256

-- where one place lies before or after another, no byte of it is in the other
elsewhere : (k n l m : ℕ) → leb (l + m) k || leb (k + n) l ≡ true → (j : ℕ) → j < m → is_in k n (l + j) ≡ false
elsewhere k n l m e j h = by_cases (leb (l + m) k) (leb (k + n) l) refl refl e
  where
    by_cases : (s t : Bool) → leb (l + m) k ≡ s → leb (k + n) l ≡ t → s || t ≡ true → is_in k n (l + j) ≡ false
    by_cases true t d c _ = let b = leb-true (l + m) k d in is_before k n (l + j) (omega arith)
    by_cases false true d c _ = let b = leb-true (k + n) l c in is_after k n (l + j) (omega arith)
    by_cases false false d c e = absurd (false≢true e)

-- a number that was put there stands there, and one in another place still does
stands : (k n number : ℕ) (bytes : List ℕ) → k + n ≤ length bytes → Holds (with_number k n number bytes) k n number
stands k n number bytes h = record { at = λ j b. number_inside k n number bytes j b (omega arith) }

stays : (k n number : ℕ) {bytes : List ℕ} {l m other : ℕ} → leb (l + m) k || leb (k + n) l ≡ true →
    Holds bytes l m other → Holds (with_number k n number bytes) l m other
stays k n number {bytes} {l} {m} e h =
    record { at = λ j b. number_outside k n number bytes (l + j) (elsewhere k n l m e j b) ∙ h.at j b }

-- all places as they have to be, byte by byte
record Right (bytes : List ℕ) : Type 0 where
  long : length bytes ≡ 66656
  registers : Holds bytes 0 4 48
  sprites : Holds bytes 52 4 544
  colours : Holds bytes 600 4 512
  tiles : Holds bytes 1116 4 65536
  counter : get_or bytes 50 0 ≤ 16
  field : get_or bytes 51 0 ≤ 1

-- mending puts the right counter and the right field there
mended_values : (bytes : List ℕ) → length bytes ≡ 66656 →
    (get_or (mended bytes) 50 0 ≡ right_counter bytes) × (get_or (mended bytes) 51 0 ≡ right_field bytes)
unfolding mended with_counts
mended_values bytes e =
    let counter = right_counter bytes in
    let field = right_field bytes in
    let four = with_counts bytes in
    let five = with_number 50 1 counter four in
    let long4 : length four ≡ 66656 = simp (number_length, e) in
    let long5 : length five ≡ 66656 = number_length 50 1 counter four ∙ long4 in
    let counted : Holds (mended bytes) 50 1 counter = stays 51 1 field refl (stands 50 1 counter four (omega arith)) in
    let fielded : Holds (mended bytes) 51 1 field = stands 51 1 field five (omega arith) in
    let at50 : get_or (mended bytes) 50 0 ≡ counter / 1 % 256 = counted.at 0 (omega arith) in
    let at51 : get_or (mended bytes) 51 0 ≡ field / 1 % 256 = fielded.at 0 (omega arith) in
    (omega arith, omega arith)

-- and all places become right
mended_right : (bytes : List ℕ) → length bytes ≡ 66656 → Right (mended bytes)
unfolding mended with_counts
mended_right bytes e =
    let counter = right_counter bytes in
    let field = right_field bytes in
    let one = with_number 0 4 48 bytes in
    let two = with_number 52 4 544 one in
    let three = with_number 600 4 512 two in
    let four = with_number 1116 4 65536 three in
    let five = with_number 50 1 counter four in
    let long1 : length one ≡ 66656 = number_length 0 4 48 bytes ∙ e in
    let long2 : length two ≡ 66656 = number_length 52 4 544 one ∙ long1 in
    let long3 : length three ≡ 66656 = number_length 600 4 512 two ∙ long2 in
    let long4 : length four ≡ 66656 = number_length 1116 4 65536 three ∙ long3 in
    let long5 : length five ≡ 66656 = number_length 50 1 counter four ∙ long4 in
    let at50 : get_or (with_number 51 1 field five) 50 0 ≡ counter = (mended_values bytes e).0 in
    let at51 : get_or (with_number 51 1 field five) 51 0 ≡ field = (mended_values bytes e).1 in
    record {
      long = number_length 51 1 field five ∙ long5;
      registers =
          stays 51 1 field refl
          (stays 50 1 counter refl
          (stays 1116 4 65536 refl (stays 600 4 512 refl (stays 52 4 544 refl (stands 0 4 48 bytes (omega arith))))));
      sprites =
          stays 51 1 field refl
          (stays 50 1 counter refl (stays 1116 4 65536 refl (stays 600 4 512 refl (stands 52 4 544 one (omega arith)))));
      colours =
          stays 51 1 field refl (stays 50 1 counter refl (stays 1116 4 65536 refl (stands 600 4 512 two (omega arith))));
      tiles = stays 51 1 field refl (stays 50 1 counter refl (stands 1116 4 65536 three (omega arith)));
      counter = omega arith;
      field = omega arith;
    }

-- and so they are in what comes out
salvaged_right : (f : List ℕ) → Right (salvaged f)
salvaged_right f = mended_right (resized f) (resized_length f)

-- where they are right, mending changes nothing
right_mended : (bytes : List ℕ) → Right bytes → mended bytes ≡ bytes
unfolding mended with_counts
right_mended bytes r =
    let counter = r.counter in
    let field = r.field in
    rw (
      number_same 0 4 48 bytes r.registers.at,
      number_same 52 4 544 bytes r.sprites.at,
      number_same 600 4 512 bytes r.colours.at,
      number_same 1116 4 65536 bytes r.tiles.at,
      value_same 50 (right_counter bytes) bytes (omega arith) (omega arith),
      value_same 51 (right_field bytes) bytes (omega arith) (omega arith),
    )

-- What the reader tests.

-- the length, the counts by their numbers, and both values
record Sound (bytes : List ℕ) : Type 0 where
  long : length bytes ≡ 66656
  registers : count_at bytes 0 ≡ 48
  sprites : count_at bytes 52 ≡ 544
  colours : count_at bytes 600 ≡ 512
  tiles : count_at bytes 1116 ≡ 65536
  counter : get_or bytes 50 0 ≤ 16
  field : get_or bytes 51 0 ≤ 1

-- right bytes make right numbers
right_sound : (bytes : List ℕ) → Right bytes → Sound bytes
right_sound bytes r = record {
  long = r.long;
  registers = count_is bytes 0 48 (omega arith) r.registers.at;
  sprites = count_is bytes 52 544 (omega arith) r.sprites.at;
  colours = count_is bytes 600 512 (omega arith) r.colours.at;
  tiles = count_is bytes 1116 65536 (omega arith) r.tiles.at;
  counter = r.counter;
  field = r.field;
}

-- four bytes spell a count in one way
spelt : (bytes : List ℕ) → ((i : ℕ) → get_or bytes i 0 < 256) → (k number : ℕ) → count_at bytes k ≡ number → Holds bytes k 4 number
spelt bytes low k number e = record { at = λ j b. count_bytes bytes k low j b ∙ ap (λ (c : ℕ). c / 256 ^ j % 256) e }

-- so right numbers come from right bytes only
sound_right : (bytes : List ℕ) → Each (λ b. b < 256) bytes → Sound bytes → Right bytes
sound_right bytes h s =
    let low = each_get_d (λ b. b < 256) bytes h 0 (omega arith) in
    record {
      long = s.long;
      registers = spelt bytes low 0 48 s.registers;
      sprites = spelt bytes low 52 544 s.sprites;
      colours = spelt bytes low 600 512 s.colours;
      tiles = spelt bytes low 1116 65536 s.tiles;
      counter = s.counter;
      field = s.field;
    }

-- the tests pass
section_passes : (bytes : List ℕ) (k n : ℕ) → k + 4 + n ≤ length bytes → count_at bytes k ≡ n → section_tests bytes k n ≡ value tt
section_passes bytes k n h e =
    rw (
      le-leb (k + 4) (length bytes) (omega arith),
      eq-eqb (count_at bytes k) n e,
      le-leb (k + 4 + n) (length bytes) h,
    )

sound_passes : (bytes : List ℕ) → Sound bytes → scene_tests bytes ≡ value tt
unfolding scene_tests end_tests value_tests
sound_passes bytes s =
    let long = s.long in
    let past : length (drop 66656 bytes) ≡ 0 = length-drop 66656 bytes ∙ rw long in
    rw (
      section_passes bytes 0 48 (omega arith) s.registers,
      section_passes bytes 52 544 (omega arith) s.sprites,
      section_passes bytes 600 512 (omega arith) s.colours,
      section_passes bytes 1116 65536 (omega arith) s.tiles,
      past,
      le-leb (get_or bytes 50 0) 16 s.counter,
      le-leb (get_or bytes 51 0) 1 s.field,
    )

-- a section that passes has its count
section_count : (bytes : List ℕ) (k n : ℕ) → section_tests bytes k n ≡ value tt → count_at bytes k ≡ n
section_count bytes k n e =
    let last = provided (leb (k + 4 + n) (length bytes)) 9 (value tt) in
    let count = eqb (count_at bytes k) n in
    eqb-true (count_at bytes k) n (held count 8 last (after (leb (k + 4) (length bytes)) 9 (provided count 8 last) e))

-- and where they pass, the numbers are right
passes_sound : (bytes : List ℕ) → scene_tests bytes ≡ value tt → Sound bytes
unfolding scene_tests value_tests
passes_sound bytes e =
    let counter = get_or bytes 50 0 in
    let field = get_or bytes 51 0 in
    let low = provided (leb field 1) 11 (value tt) in
    let values = provided (leb counter 16) 6 low in
    let end = end_tests (length (drop 66656 bytes)) and_then values in
    let fourth = section_tests bytes 1116 65536 and_then end in
    let third = section_tests bytes 600 512 and_then fourth in
    let second = section_tests bytes 52 544 and_then third in
    let e2 = then_passes (section_tests bytes 0 48) second e in
    let e3 = then_passes (section_tests bytes 52 544) third e2 in
    let e4 = then_passes (section_tests bytes 600 512) fourth e3 in
    let e5 = then_passes (section_tests bytes 1116 65536) end e4 in
    let e6 = then_passes (end_tests (length (drop 66656 bytes))) values e5 in
    record {
      long = whole bytes e;
      registers = section_count bytes 0 48 (first_passes (section_tests bytes 0 48) second e);
      sprites = section_count bytes 52 544 (first_passes (section_tests bytes 52 544) third e2);
      colours = section_count bytes 600 512 (first_passes (section_tests bytes 600 512) fourth e3);
      tiles = section_count bytes 1116 65536 (first_passes (section_tests bytes 1116 65536) end e4);
      counter = leb-true counter 16 (held (leb counter 16) 6 low e6);
      field = leb-true field 1 (held (leb field 1) 11 (value tt) (after (leb counter 16) 6 low e6));
    }

-- The reader accepts what comes out, whatever the file.
pub accepted : (f : List ℕ) → scene_tests (salvaged f) ≡ value tt
accepted f = sound_passes (salvaged f) (right_sound (salvaged f) (salvaged_right f))

-- The four counts of what comes out are a scene's, whatever the file.
pub right_counts : (f : List ℕ) →
    (count_at (salvaged f) 0 ≡ 48) × (count_at (salvaged f) 52 ≡ 544) ×
    (count_at (salvaged f) 600 ≡ 512) × (count_at (salvaged f) 1116 ≡ 65536)
right_counts f =
    let s = right_sound (salvaged f) (salvaged_right f) in
    (s.registers, s.sprites, s.colours, s.tiles)

-- The counter that comes out is the file's, but 16 at most, and the field is the remainder of the file's by 2. Past the file's
-- end both are read as 0.
pub right_values : (f : List ℕ) →
    (get_or (salvaged f) 50 0 ≡ min (get_or f 50 0) 16) × (get_or (salvaged f) 51 0 ≡ get_or f 51 0 % 2)
right_values f =
    let values = mended_values (resized f) (resized_length f) in (
      values.0 ∙ ap (λ (c : ℕ). min c 16) (resized_byte f 50 (omega arith)),
      values.1 ∙ ap (λ (c : ℕ). c % 2) (resized_byte f 51 (omega arith)),
    )

-- The list of changes.

-- nothing is said of a place exactly where it holds its number
same_unsaid : (kind : Kind) (k n old new : ℕ) → old ≡ new → number_changes kind k n old new ≡ []
same_unsaid kind k n old new e = rw (eq-eqb old new e)

unsaid_same : (kind : Kind) (k n old new : ℕ) → number_changes kind k n old new ≡ [] → old ≡ new
unsaid_same kind k n old new e = by_cases (eqb old new) refl
  where
    by_cases : (t : Bool) → eqb old new ≡ t → old ≡ new
    by_cases true d = eqb-true old new d
    by_cases false d = absurd (cons-ne-nil _ _ (rw d at e))

-- where nothing is said of the length, it is a scene's
unsaid_length : (n : ℕ) → length_changes n ≡ [] → n ≡ 66656
unsaid_length n e = by_cases (ltb n 66656) (ltb 66656 n) refl refl
  where
    by_cases : (s t : Bool) → ltb n 66656 ≡ s → ltb 66656 n ≡ t → n ≡ 66656
    by_cases true t d c = absurd (cons-ne-nil _ _ (rw d at e))
    by_cases false true d c = absurd (cons-ne-nil _ _ (rw (d, c) at e))
    by_cases false false d c =
        let least = ltb-false n 66656 d in
        let most = ltb-false 66656 n c in
        omega arith

-- nothing is said of a file with right numbers
places_unsaid : (bytes : List ℕ) → Sound bytes → place_changes bytes ≡ []
unfolding place_changes
places_unsaid bytes s =
    let counter = s.counter in
    let field = s.field in
    let registers = same_unsaid Count 0 4 (count_at bytes 0) 48 s.registers in
    let sprites = same_unsaid Count 52 4 (count_at bytes 52) 544 s.sprites in
    let colours = same_unsaid Count 600 4 (count_at bytes 600) 512 s.colours in
    let tiles = same_unsaid Count 1116 4 (count_at bytes 1116) 65536 s.tiles in
    let at50 = same_unsaid Value 50 1 (get_or bytes 50 0) (right_counter bytes) (omega arith) in
    let at51 = same_unsaid Value 51 1 (get_or bytes 51 0) (right_field bytes) (omega arith) in
    λ i. registers i ++ sprites i ++ colours i ++ tiles i ++ at50 i ++ at51 i

sound_unsaid : (f : List ℕ) → Sound f → changes_of f ≡ []
sound_unsaid f s = rw (s.long, resized_same f s.long) (places_unsaid f s)

-- where lists after one another are empty, each is
first_empty : (l m : List Change) → l ++ m ≡ [] → l ≡ []
first_empty l m e = ((append-eq-nil_iff {p = l} {q = m}).0 e).0

then_empty : (l m : List Change) → l ++ m ≡ [] → m ≡ []
then_empty l m e = ((append-eq-nil_iff {p = l} {q = m}).0 e).1

-- and a file of which nothing is said has them
unsaid_places : (bytes : List ℕ) → length bytes ≡ 66656 → place_changes bytes ≡ [] → Sound bytes
unfolding place_changes
unsaid_places bytes long e =
    let counter = get_or bytes 50 0 in
    let field = get_or bytes 51 0 in
    let registers = count_changes bytes 0 48 in
    let sprites = count_changes bytes 52 544 in
    let colours = count_changes bytes 600 512 in
    let tiles = count_changes bytes 1116 65536 in
    let at50 = value_changes bytes 50 (right_counter bytes) in
    let at51 = value_changes bytes 51 (right_field bytes) in
    let two = registers ++ sprites in
    let three = two ++ colours in
    let four = three ++ tiles in
    let e5 = first_empty (four ++ at50) at51 e in
    let e4 = first_empty four at50 e5 in
    let e3 = first_empty three tiles e4 in
    let e2 = first_empty two colours e3 in
    let low : counter ≡ min counter 16 = unsaid_same Value 50 1 counter (right_counter bytes) (then_empty four at50 e5) in
    let bit : field ≡ field % 2 = unsaid_same Value 51 1 field (right_field bytes) (then_empty (four ++ at50) at51 e) in
    record {
      long = long;
      registers = unsaid_same Count 0 4 (count_at bytes 0) 48 (first_empty registers sprites e2);
      sprites = unsaid_same Count 52 4 (count_at bytes 52) 544 (then_empty registers sprites e2);
      colours = unsaid_same Count 600 4 (count_at bytes 600) 512 (then_empty two colours e3);
      tiles = unsaid_same Count 1116 4 (count_at bytes 1116) 65536 (then_empty three tiles e4);
      counter = omega arith;
      field = omega arith;
    }

unsaid_sound : (f : List ℕ) → changes_of f ≡ [] → Sound f
unsaid_sound f e =
    let long = unsaid_length (length f) (first_empty (length_changes (length f)) (place_changes (resized f)) e) in
    unsaid_places f long
    (rw (resized_same f long) at (then_empty (length_changes (length f)) (place_changes (resized f)) e))

-- A file of bytes that the reader accepts comes out as it is, and the list is empty.
pub sound : (f : List ℕ) → Each (λ b. b < 256) f → scene_tests f ≡ value tt → (salvaged f ≡ f) × (changes_of f ≡ [])
sound f h e =
    let s = passes_sound f e in
    (ap mended (resized_same f s.long) ∙ right_mended f (sound_right f h s), sound_unsaid f s)

-- If the list is empty, the reader accepts the file as it is.
pub none_means_sound : (f : List ℕ) → changes_of f ≡ [] → scene_tests f ≡ value tt
none_means_sound f e = sound_passes f (unsaid_sound f e)

-- What has come out once comes out again as it is, and the list is empty.
pub again : (f : List ℕ) → (salvaged (salvaged f) ≡ salvaged f) × (changes_of (salvaged f) ≡ [])
again f =
    let r = salvaged_right f in (
      ap mended (resized_same (salvaged f) r.long) ∙ right_mended (salvaged f) r,
      sound_unsaid (salvaged f) (right_sound (salvaged f) r),
    )

-- a list of at most n changes
record AtMost (n : ℕ) (l : List Change) : Type 0 where
  are : length l ≤ n

together : {a b : ℕ} {l m : List Change} → AtMost a l → AtMost b m → AtMost (a + b) (l ++ m)
together {a} {b} {l} {m} p q =
    let first = p.are in
    let second = q.are in
    record { are = rw (length-append l m) (omega arith) }

-- at most one thing is said of the length, and of each place
one_length : (n : ℕ) → AtMost 1 (length_changes n)
one_length n = by_cases _ _ (ltb n 66656) (ltb 66656 n)
  where
    by_cases : (a b : Change) (s t : Bool) → AtMost 1 (cond s (a ∷ []) (cond t (b ∷ []) []))
    by_cases a b true t = record { are = omega arith }
    by_cases a b false true = record { are = omega arith }
    by_cases a b false false = record { are = omega arith }

one_said : (kind : Kind) (k n old new : ℕ) → AtMost 1 (number_changes kind k n old new)
one_said kind k n old new = by_cases _ (eqb old new)
  where
    by_cases : (a : Change) (t : Bool) → AtMost 1 (cond t [] (a ∷ []))
    by_cases a true = record { are = omega arith }
    by_cases a false = record { are = omega arith }

places_said : (bytes : List ℕ) → AtMost 6 (place_changes bytes)
unfolding place_changes
places_said bytes =
    let registers = one_said Count 0 4 (count_at bytes 0) 48 in
    let sprites = one_said Count 52 4 (count_at bytes 52) 544 in
    let colours = one_said Count 600 4 (count_at bytes 600) 512 in
    let tiles = one_said Count 1116 4 (count_at bytes 1116) 65536 in
    let counter = one_said Value 50 1 (get_or bytes 50 0) (right_counter bytes) in
    let field = one_said Value 51 1 (get_or bytes 51 0) (right_field bytes) in
    together (together (together (together (together registers sprites) colours) tiles) counter) field

-- The list has at most 7 changes.
pub at_most_7 : (f : List ℕ) → length (changes_of f) ≤ 7
at_most_7 f = (together (one_length (length f)) (places_said (resized f))).are

-- a change that does not cover byte i
abbrev Beside : ℕ → Change → Type 0
Beside i c = is_in c.first c.bytes i ≡ false

-- where a byte of a place is covered by nothing that is said of the place, nothing is said: it holds its number
beside_same : (kind : Kind) (k n old new i : ℕ) → Each (Beside i) (number_changes kind k n old new) → is_in k n i ≡ true → old ≡ new
beside_same kind k n old new i h e = by_cases (eqb old new) refl
  where
    by_cases : (t : Bool) → eqb old new ≡ t → old ≡ new
    by_cases true d = eqb-true old new d
    by_cases false d = absurd (false≢true (sym (rw d at h).0 ∙ e))

-- then the byte is that of the right count, or of the right value
beside_count : (bytes : List ℕ) → ((i : ℕ) → get_or bytes i 0 < 256) → (k new i : ℕ) →
    Each (Beside i) (count_changes bytes k new) → is_in k 4 i ≡ true → get_or bytes i 0 ≡ new / 256 ^ (i - k) % 256
beside_count bytes low k new i h e =
    number_byte k 4 new bytes (spelt bytes low k new (beside_same Count k 4 (count_at bytes k) new i h e)).at i e

beside_value : (bytes : List ℕ) → (k new i : ℕ) → new < 256 →
    Each (Beside i) (value_changes bytes k new) → is_in k 1 i ≡ true → get_or bytes i 0 ≡ new / 256 ^ (i - k) % 256
beside_value bytes k new i b h e =
    number_byte k 1 new bytes (value_byte k new bytes b (beside_same Value k 1 (get_or bytes k 0) new i h e)) i e

-- so mending keeps a byte that nothing covers
mended_beside : (bytes : List ℕ) → ((i : ℕ) → get_or bytes i 0 < 256) → (i : ℕ) → Each (Beside i) (place_changes bytes) →
    get_or (mended bytes) i 0 ≡ get_or bytes i 0
unfolding mended with_counts place_changes
mended_beside bytes low i h =
    let x = get_or bytes i 0 in
    let counter = right_counter bytes in
    let field = right_field bytes in
    let registers = count_changes bytes 0 48 in
    let sprites = count_changes bytes 52 544 in
    let colours = count_changes bytes 600 512 in
    let tiles = count_changes bytes 1116 65536 in
    let at50 = value_changes bytes 50 counter in
    let at51 = value_changes bytes 51 field in
    let two = registers ++ sprites in
    let three = two ++ colours in
    let four = three ++ tiles in
    let h5 = each_first (Beside i) (four ++ at50) at51 h in
    let h4 = each_first (Beside i) four at50 h5 in
    let h3 = each_first (Beside i) three tiles h4 in
    let h2 = each_first (Beside i) two colours h3 in
    let counter-low : counter < 256 = omega arith in
    let field-low : field < 256 = omega arith in
    number_kept 51 1 field _ i x
    (number_kept 50 1 counter _ i x
    (number_kept 1116 4 65536 _ i x
    (number_kept 600 4 512 _ i x
    (number_kept 52 4 544 _ i x
    (number_kept 0 4 48 bytes i x refl (beside_count bytes low 0 48 i (each_first (Beside i) registers sprites h2)))
    (beside_count bytes low 52 544 i (each_then (Beside i) registers sprites h2)))
    (beside_count bytes low 600 512 i (each_then (Beside i) two colours h3)))
    (beside_count bytes low 1116 65536 i (each_then (Beside i) three tiles h4)))
    (beside_value bytes 50 counter i counter-low (each_then (Beside i) four at50 h5)))
    (beside_value bytes 51 field i field-low (each_then (Beside i) (four ++ at50) at51 h))

-- and a byte of the scene that no fill covers lies before the file's end
beside_end : (n i : ℕ) → i < 66656 → Each (Beside i) (length_changes n) → i < n
beside_end n i b h = by_cases (ltb n 66656) (ltb i n) refl refl
  where
    by_cases : (s t : Bool) → ltb n 66656 ≡ s → ltb i n ≡ t → i < n
    by_cases s true d c = ltb-true i n c
    by_cases false false d c = let least = ltb-false n 66656 d in omega arith
    by_cases true false d c =
        let less = ltb-true n 66656 d in
        let past = ltb-false i n c in
        let j : i - n < 66656 - n = omega arith in
        let e : n + (i - n) ≡ i = omega arith in
        absurd (false≢true (sym (rw d at h).0 ∙ rw e at (is_in_lem n (66656 - n) (i - n) j)))

-- The list leaves nothing out: a byte that no listed change covers is a byte of the file, and comes out as it is.
pub unlisted : (f : List ℕ) (i : ℕ) → Each (λ b. b < 256) f → i < 66656 →
    Each (λ (c : Change). is_in c.first c.bytes i ≡ false) (changes_of f) →
    (i < length f) × (get_or (salvaged f) i 0 ≡ get_or f i 0)
unlisted f i bytes b h =
    let of_length = length_changes (length f) in
    let of_places = place_changes (resized f) in
    let low = each_get_d (λ b. b < 256) (resized f) (resized_bytes f bytes) 0 (omega arith) in (
      beside_end (length f) i b (each_first (Beside i) of_length of_places h),
      mended_beside (resized f) low i (each_then (Beside i) of_length of_places h) ∙ resized_byte f i b,
    )
