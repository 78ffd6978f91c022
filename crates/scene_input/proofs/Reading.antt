-- The bytes that were read, one after another: what the tests of the pieces say of them all.
use Rattle.std.specs.Prelude.{Result, Ok, Err}
use Prim.Native.Nat.{ℕ, ◌+◌, ◌*◌, ◌≤◌, ◌<◌}
use mathlib.Core.Path.{◌≡◌, refl, sym, ap, subst, ◌∙◌}
use mathlib.Core.Bool.{Bool, true, false}
use mathlib.Core.List.{List, [], ◌++◌, append_assoc, append-nil}
use native.Mathlib.Omega.{arith}
use lib.ListN.{length, get_or, take, drop, length-append, length-take, length-drop, get_or-append}
use lib.Seq.{take_all, take_at, drop_at, drop-append-le, drop-drop, get_or-take, get_or-drop}
use lib.Dec.{eqb, leb, ltb}
use borrow.Author.Tests.{leb-true, leb-false, le-leb, lt-leb, ltb-false, eqb-false, ne_eqb}
use Rattle.base_refusal.specs.Answer.{Answer, value, refused, provided, ◌and_then◌}
use Rattle.base_refusal.specs.Results.{means, Passed}
use Rattle.base_refusal.specs.theorems.Results.{passed}
use Rattle.base_refusal.specs.declared.Refusal.{Refusal}
use Rattle.scene_file.specs.File.{count_at, section_tests, end_tests, value_tests, scene_tests}
use Rattle.scene_bytes.specs.Bytes.{registers_of, words_of}
use Rattle.scene_file.specs.steps.Pieces.{count_tests, body_tests, values_in}
use Rattle.scene_file.specs.theorems.Whole.{no_pass, held, after}
use Rattle.scene_input.specs.Input.{Follows, ReadAs, SceneRead}
use Rattle.scene_input.specs.steps.Input.{SectionRead, first_section, section_then, held_then, end_on, registers_on, HeldRegisters}

-- the same on both sides of a comparison
shifted : (k n m : ℕ) → leb (k + n) (k + m) ≡ leb n m
shifted k n m = by_cases (leb n m) refl
  where
    by_cases : (t : Bool) → leb n m ≡ t → leb (k + n) (k + m) ≡ leb n m
    by_cases true e = let b = leb-true n m e in le-leb (k + n) (k + m) (omega arith) ∙ sym e
    by_cases false e = let b = leb-false n m e in lt-leb (k + n) (k + m) (omega arith) ∙ sym e

-- a section's two tests after one another are its three
chained : (a b c : Bool) → ◌≡◌ {A = Answer Unit}
    (provided a 9 (provided b 8 (value tt)) and_then provided c 9 (value tt)) (provided a 9 (provided b 8 (provided c 9 (value tt))))
chained true true c = refl
chained true false c = refl
chained false b c = refl

-- a test that is refused says so whatever comes after it
wrong : (t : Bool) (k : ℕ) (a : Answer Unit) {r : ℕ} → ◌≡◌ {A = Answer Unit} (provided t k (value tt)) (refused r) →
    provided t k a ≡ refused r
wrong true k a e = absurd (no_pass (sym e))
wrong false k a e = e

module _ (n : ℕ) where
  -- what follows a count does not change it
  count_before : (b rest : List ℕ) → 4 ≤ length b → count_at (b ++ rest) 0 ≡ count_at b 0
  count_before b rest h = λ i. at 0 (omega arith) i + at 1 (omega arith) i * 256 + (at 2 (omega arith) i + at 3 (omega arith) i * 256) * 65536
    where
      at : (j : ℕ) → j < length b → get_or (b ++ rest) j 0 ≡ get_or b j 0
      at j l = get_or-append b rest 0 j l

  -- a section whose count is whole and right is tested by its length alone
  counted : (b : List ℕ) → leb 4 (length b) ≡ true → eqb (count_at b 0) n ≡ true →
      first_section n b ≡ provided (leb (4 + n) (length b)) 9 (value tt)
  counted b l e = λ i. provided (l i) 9 (provided (e i) 8 (provided (leb (4 + n) (length b)) 9 (value tt)))

  -- a count, and the body that came
  pub section_of : (c b : List ℕ) → length c ≡ 4 → count_tests n c ≡ value tt → body_tests n (length b) ≡ first_section n (c ++ b)
  unfolding count_tests body_tests
  section_of c b l e =
      let long : length (c ++ b) ≡ 4 + length b = length-append c b ∙ ap (λ (k : ℕ). k + length b) l in
      let right : eqb (count_at c 0) n ≡ true = held (eqb (count_at c 0) n) 8 (value tt) (after (leb 4 (length c)) 9 (provided (eqb (count_at c 0) n) 8 (value tt)) e) in
      sym
      (counted (c ++ b) (le-leb 4 (length (c ++ b)) (omega arith)) (ap (λ (k : ℕ). eqb k n) (count_before c b (omega arith)) ∙ right)
      ∙ ap (λ (t : Bool). provided t 9 (value tt)) (ap (leb (4 + n)) long ∙ shifted 4 n (length b)))

  -- a count that is refused, whatever follows it
  pub section_stopped : (c more : List ℕ) {r : ℕ} → Follows (ltb (length c) 4) more → count_tests n c ≡ refused r →
      first_section n (c ++ more) ≡ refused r
  unfolding count_tests
  section_stopped c more {r} f e = by_length (ltb (length c) 4) refl
    where
      by_length : (t : Bool) → ltb (length c) 4 ≡ t → first_section n (c ++ more) ≡ refused r
      by_length true l =
          ap (first_section n) (ap (λ (m : List ℕ). c ++ m) (f l) ∙ append-nil c)
          ∙ (sym (chained (leb 4 (length c)) (eqb (count_at c 0) n) (leb (4 + n) (length c)))
          ∙ ap (λ (a : Answer Unit). a and_then provided (leb (4 + n) (length c)) 9 (value tt)) e)
      by_length false l =
          let four = ltb-false (length c) 4 l in
          let whole = le-leb 4 (length c) four in
          let long = le-leb 4 (length (c ++ more)) (omega (arith, length-append c more)) in
          let rest = provided (leb (4 + n) (length (c ++ more))) 9 (value tt) in
          (λ i. provided (long i) 9 (provided (eqb (count_before c more four i) n) 8 rest))
          ∙ wrong (eqb (count_at c 0) n) 8 rest (ap (λ (t : Bool). provided t 9 (provided (eqb (count_at c 0) n) 8 (value tt))) (sym whole) ∙ e)

  -- what follows a section that passes does not change it
  section_before : (b rest : List ℕ) → length b ≡ 4 + n → first_section n b ≡ value tt → first_section n (b ++ rest) ≡ value tt
  section_before b rest l e =
      let long : length (b ++ rest) ≡ 4 + n + length rest = length-append b rest ∙ ap (λ (k : ℕ). k + length rest) l in
      let body = provided (leb (4 + n) (length b)) 9 (value tt) in
      let right = held (eqb (count_at b 0) n) 8 body (after (leb 4 (length b)) 9 (provided (eqb (count_at b 0) n) 8 body) e) in
      counted (b ++ rest) (le-leb 4 (length (b ++ rest)) (omega arith)) (ap (λ (k : ℕ). eqb k n) (count_before b rest (omega arith)) ∙ right)
      ∙ ap (λ (t : Bool). provided t 9 (value tt)) (le-leb (4 + n) (length (b ++ rest)) (omega arith))

said_ok : (w : Result Unit Refusal) → Passed w → means w ≡ value tt
said_ok (Ok tt) p = refl
said_ok (Err r) p = absurd p

-- A section, read as a count and then a body.
module _ (n : ℕ) {v : Result Unit Refusal} (c : List ℕ) (counted-as : means v ≡ count_tests n c) where
  -- its count is refused, and nothing more is read
  pub read_count : {P : List ℕ → Type 0} {r : Refusal} → v ≡ Err r → SectionRead n P (Err r)
  read_count e = record {
    bytes = c;
    ended = ltb (length c) 4;
    said = λ more f. sym (section_stopped n c more f (sym counted-as ∙ ap means e));
    long = λ p. absurd p;
    holds = λ p. absurd p;
  }

  -- its count passes: then the body is read, as far as there is any
  pub read_body : (body : List ℕ) (got : ℕ) {w : Result Unit Refusal} → v ≡ Ok tt → length c ≤ 4 → length body ≡ n → got ≤ n →
      means w ≡ body_tests n got → SectionRead n (λ l. l ≡ body) w
  unfolding count_tests body_tests
  read_body body got {w} e short long most said = record {
    bytes = c ++ take got body;
    ended = ltb got n;
    said = λ more f.
        said
        ∙ (reached more f (ltb got n) refl
        ∙ (section_of n c (take got body ++ more) four passes ∙ ap (first_section n) (sym (append_assoc c (take got body) more))));
    long = λ p. length-append c (take got body) ∙ (λ i. four i + (ap length (whole p) ∙ long) i);
    holds = λ p. drop_at c (take got body) 4 four ∙ whole p;
  }
    where
      passes : count_tests n c ≡ value tt
      passes = sym counted-as ∙ ap means e

      four : length c ≡ 4
      four =
          let t = leb-true 4 (length c) (held (leb 4 (length c)) 9 (provided (eqb (count_at c 0) n) 8 (value tt)) passes) in
          omega arith

      came : length (take got body) ≡ got
      came = length-take got body ∙ omega arith

      reached : (more : List ℕ) → Follows (ltb got n) more → (t : Bool) → ltb got n ≡ t →
          body_tests n got ≡ body_tests n (length (take got body ++ more))
      reached more f true l =
          let none : length more ≡ 0 = ap length (f l) in
          let long : got ≡ length (take got body ++ more) = omega (arith, length-append (take got body) more, came) in
          ap (body_tests n) long
      reached more f false l =
          let all = ltb-false got n l in
          let far : n ≤ length (take got body ++ more) = omega (arith, length-append (take got body) more, came) in
          ap (λ (t : Bool). provided t 9 (value tt)) (le-leb n got all ∙ sym (le-leb n (length (take got body ++ more)) far))

      whole : Passed w → take got body ≡ body
      whole p =
          let enough = leb-true n got (held (leb n got) 9 (value tt) (sym said ∙ said_ok w p)) in
          take_all got body (omega arith)

-- Nothing follows the last section, or a byte more was read.
pub read_end : (l : List ℕ) {v : Result Unit Refusal} → means v ≡ end_tests (length l) → ReadAs end_on (λ rest. Unit) v
unfolding end_tests
read_end l said = record {
  bytes = l;
  ended = eqb (length l) 0;
  said = λ more f. said ∙ ap (λ (t : Bool). provided t 10 (value tt)) (same more f (eqb (length l) 0) refl);
  holds = λ more f p. tt;
}
  where
    same : (more : List ℕ) → Follows (eqb (length l) 0) more → (t : Bool) → eqb (length l) 0 ≡ t →
        eqb (length l) 0 ≡ eqb (length (l ++ more)) 0
    same more f true e =
        let none : length more ≡ 0 = ap length (f e) in
        let long : length l ≡ length (l ++ more) = omega (arith, length-append l more) in
        ap (λ (k : ℕ). eqb k 0) long
    same more f false e =
        let some = eqb-false (length l) 0 e in
        e ∙ sym (ne_eqb (length (l ++ more)) 0 (λ z. some (omega (arith, length-append l more))))

-- Sections after one another.
module _ {n : ℕ} {P : List ℕ → Type 0} {v : Result Unit Refusal} (s : SectionRead n P v) (T : List ℕ → Answer Unit) where
  -- the first is refused, and nothing more is read
  pub read_stopped : {Q : List ℕ → Type 0} {r : Refusal} → v ≡ Err r → ReadAs (section_then n T) Q (Err r)
  read_stopped e = record {
    bytes = s.bytes;
    ended = s.ended;
    said = λ more f.
        sym (ap (λ (a : Answer Unit). a and_then T (drop (4 + n) (s.bytes ++ more))) (sym (s.said more f) ∙ ap means e));
    holds = λ more f p. absurd p;
  }

  -- the first passes, and the others are read
  pub read_then : {Q : List ℕ → Type 0} {w : Result Unit Refusal} → v ≡ Ok tt → ReadAs T Q w → ReadAs (section_then n T) (held_then n P Q) w
  read_then {Q} e r =
      let b = s.bytes in
      let l = s.long (passed e) in
      let rest : (k : List ℕ) → drop (4 + n) (b ++ k) ≡ k = λ k. drop_at b k (4 + n) l in
      let body : (k : List ℕ) → take n (drop 4 (b ++ k)) ≡ drop 4 b =
      λ k. ap (take n) (drop-append-le 4 b k (omega arith)) ∙ take_at (drop 4 b) k n (length-drop 4 b ∙ omega arith) in
      let alone : first_section n b ≡ value tt =
      ap (first_section n) (sym (append-nil b)) ∙ (sym (s.said [] (λ z. refl)) ∙ ap means e) in
      record {
        bytes = b ++ r.bytes;
        ended = r.ended;
        said = λ more f.
            r.said more f
            ∙ (sym (λ i. section_before n b (r.bytes ++ more) l alone i and_then T (rest (r.bytes ++ more) i))
            ∙ ap (section_then n T) (sym (append_assoc b r.bytes more)));
        holds = λ more f p.
            subst (held_then n P Q) (sym (append_assoc b r.bytes more)) (
              subst P (sym (body (r.bytes ++ more))) (s.holds (passed e)),
              subst Q (sym (rest (r.bytes ++ more))) (r.holds more f p),
            );
      }

-- tests after one another, and then one more
then_more : (a b c : Answer Unit) → (a and_then b) and_then c ≡ a and_then (b and_then c)
then_more (value u) b c = refl
then_more (refused n) b c = refl

-- a section from byte k on
module _ (b : List ℕ) (k : ℕ) where
  -- a part from byte k on reaches as far as the whole
  reaches : (n : ℕ) → 0 < n → leb n (length (drop k b)) ≡ leb (k + n) (length b)
  reaches n h = by_cases (leb (k + n) (length b)) refl
    where
      by_cases : (t : Bool) → leb (k + n) (length b) ≡ t → leb n (length (drop k b)) ≡ leb (k + n) (length b)
      by_cases true e =
          let l = leb-true (k + n) (length b) e in le-leb n (length (drop k b)) (omega (arith, length-drop k b)) ∙ sym e
      by_cases false e =
          let l = leb-false (k + n) (length b) e in lt-leb n (length (drop k b)) (omega (arith, length-drop k b)) ∙ sym e

  byte_at : (i j : ℕ) → k + i ≡ j → get_or (drop k b) i 0 ≡ get_or b j 0
  byte_at i j e = get_or-drop k b i 0 ∙ ap (λ (m : ℕ). get_or b m 0) e

  -- byte i of a piece of n bytes
  in_piece : (n i j : ℕ) → i < n → k + i ≡ j → get_or (take n (drop k b)) i 0 ≡ get_or b j 0
  in_piece n i j h e = get_or-take n (drop k b) i 0 h ∙ byte_at i j e

  count_from : count_at (drop k b) 0 ≡ count_at b k
  count_from = λ i.
      byte_at 0 k (omega arith) i
      + byte_at 1 (k + 1) (omega arith) i * 256
      + (byte_at 2 (k + 2) (omega arith) i + byte_at 3 (k + 2 + 1) (omega arith) i * 256) * 65536

  section_from : (n : ℕ) → first_section n (drop k b) ≡ section_tests b k n
  section_from n = λ i.
      provided (reaches 4 (omega arith) i) 9
      (provided (eqb (count_from i) n) 8
      (provided ((reaches (4 + n) (omega arith) ∙ ap (λ (m : ℕ). leb m (length b)) whole) i) 9 (value tt)))
    where
      whole : k + (4 + n) ≡ k + 4 + n
      whole = omega arith

-- A scene, read as its sections: they are where the file has them.
module _ (b : List ℕ) where
  at_600 : drop 548 (drop 52 b) ≡ drop 600 b
  at_600 = drop-drop 548 52 b

  at_1116 : drop 516 (drop 548 (drop 52 b)) ≡ drop 1116 b
  at_1116 = ap (drop 516) at_600 ∙ drop-drop 516 600 b

  at_end : drop 65540 (drop 516 (drop 548 (drop 52 b))) ≡ drop 66656 b
  at_end = ap (drop 65540) at_1116 ∙ drop-drop 65540 1116 b

  -- their tests and the values' are the file's
  scene_tests_lem : registers_on b and_then values_in (take 48 (drop 4 b)) ≡ scene_tests b
  unfolding scene_tests
  scene_tests_lem =
      let s1 = section_tests b 0 48 in
      let s2 = section_tests b 52 544 in
      let s3 = section_tests b 600 512 in
      let s4 = section_tests b 1116 65536 in
      let end = end_tests (length (drop 66656 b)) in
      let v = value_tests (get_or b 50 0) (get_or b 51 0) in
      (λ i.
      (s1
      and_then section_from b 52 544 i
      and_then (ap (first_section 512) at_600 ∙ section_from b 600 512) i
      and_then (ap (first_section 65536) at_1116 ∙ section_from b 1116 65536) i
      and_then end_tests (length (at_end i)))
      and_then value_tests (in_piece b 4 48 46 50 (omega arith) refl i) (in_piece b 4 48 47 51 (omega arith) refl i))
      ∙ (then_more s1 (s2 and_then s3 and_then s4 and_then end) v
      ∙ ap (λ (a : Answer Unit). s1 and_then a)
      (then_more s2 (s3 and_then s4 and_then end) v
      ∙ ap (λ (a : Answer Unit). s2 and_then a)
      (then_more s3 (s4 and_then end) v ∙ ap (λ (a : Answer Unit). s3 and_then a) (then_more s4 end v))))

module _ {registers oam cgram vram : List ℕ} {v : Result Unit Refusal} (s : ReadAs registers_on (HeldRegisters registers oam cgram vram) v) where
  -- the sections are refused
  pub read_no_scene : {r : Refusal} → v ≡ Err r → SceneRead registers oam cgram vram (Err r)
  read_no_scene e = record {
    bytes = s.bytes;
    ended = s.ended;
    said = λ more f.
        let b = s.bytes ++ more in
        sym
        (sym (scene_tests_lem b)
        ∙ ap (λ (a : Answer Unit). a and_then values_in (take 48 (drop 4 b))) (sym (s.said more f) ∙ ap means e));
    holds = λ more f p. absurd p;
  }

  -- the sections pass, and then the values are tested
  pub read_scene : {w : Result Unit Refusal} → v ≡ Ok tt → means w ≡ values_in registers → SceneRead registers oam cgram vram w
  read_scene e m = record {
    bytes = s.bytes;
    ended = s.ended;
    said = λ more f.
        let b = s.bytes ++ more in
        m
        ∙ (ap values_in (sym (s.holds more f (passed e)).0)
        ∙ sym
        (sym (scene_tests_lem b)
        ∙ ap (λ (a : Answer Unit). a and_then values_in (take 48 (drop 4 b))) (sym (s.said more f) ∙ ap means e)));
    holds = λ more f p.
        let b = s.bytes ++ more in
        let h = s.holds more f (passed e) in
        λ i. record {
          regs = registers_of (sym h.0 i);
          vram = (h.1.1.1.0 ∙ ap (λ (l : List ℕ). words_of 32768 (take 65536 l)) (ap (drop 4) (at_1116 b) ∙ drop-drop 4 1116 b)) i;
          cgram = (h.1.1.0 ∙ ap (λ (l : List ℕ). words_of 256 (take 512 l)) (ap (drop 4) (at_600 b) ∙ drop-drop 4 600 b)) i;
          oam = (sym h.1.0 ∙ ap (take 544) (drop-drop 4 52 b)) i;
        };
  }
