-- A list of names, read byte by byte.
use Prim.Native.Nat.{ℕ, suc, ◌+◌, ◌<◌, ◌≤◌}
use mathlib.Core.Path.{◌≡◌, refl, sym, ◌∙◌}
use mathlib.Core.Bool.{Bool, true, false, cond, ◌&&◌, false≢true}
use mathlib.Core.List.{List, [], ◌∷◌}
use native.Mathlib.Omega.{arith}
use native.Mathlib.Nat.{zero-add}
use native.Mathlib.Numerals.{add-one}
use lib.Dec.{eqb, ltb, leb}
use lib.ListN.{length, get_or, drop, drop_of_length-le}
use lib.Seq.{slice, slice_empty, slice-cons, drop-cons}
use borrow.Author.Tests.{eq-eqb, ne_eqb, eqb-true, eqb-false, leb-true, ltb-true, ltb-false, lt-ltb}
use Rattle.test_script.specs.Names.{onto, names_of, same, first_of}
use Rattle.test_script.specs.steps.Names.{goes_on}
use Rattle.test_script.proofs.Tests.{first, second}

-- The place of the word w, where the first name is read in part: its rest has to be v, if it can still be w at all.
abbrev from_here : Bool → List ℕ → Bool → List ℕ → List (List ℕ) → ℕ
from_here good w live v [] = cond (live && same v []) 0 1
from_here good w live v (n ∷ ns) = cond (live && same v n) 0 (suc (first_of good w ns))

module _ (good : Bool) (w : List ℕ) where
  -- a name begins
  begins : (l : List ℕ) → from_here good w good w (names_of l) ≡ first_of good w (names_of l)
  unfolding names_of first_of
  begins [] = refl
  begins (b ∷ l) = by_test (eqb b 32) (names_of l)
    where
      by_test : (t : Bool) (ns : List (List ℕ)) →
          from_here good w good w (cond t ([] ∷ ns) (onto b ns)) ≡ first_of good w (cond t ([] ∷ ns) (onto b ns))
      by_test true ns = refl
      by_test false [] = refl
      by_test false (n ∷ ns) = refl

  -- a byte that the word has there
  goes_on_lem : (b : ℕ) (v : List ℕ) (ns : List (List ℕ)) → from_here good w true (b ∷ v) (onto b ns) ≡ from_here good w true v ns
  unfolding same first_of
  goes_on_lem b v [] = rw (eq-eqb b b refl)
  goes_on_lem b v (n ∷ ns) = rw (eq-eqb b b refl)

  -- and one that it has not
  never : (b : ℕ) (v : List ℕ) (live : Bool) (u : List ℕ) (ns : List (List ℕ)) →
      ((n : List ℕ) → live && same v (b ∷ n) ≡ false) → from_here good w live v (onto b ns) ≡ from_here good w false u ns
  unfolding first_of
  never b v live u [] h = rw (h [])
  never b v live u (n ∷ ns) h = rw (h n)

-- a word that begins with another byte, or with none
other : (a b : ℕ) (v n : List ℕ) → eqb a b ≡ false → same (a ∷ v) (b ∷ n) ≡ false
unfolding same
other a b v n e = rw e

none : (b : ℕ) (n : List ℕ) → same [] (b ∷ n) ≡ false
unfolding same
none b n = refl

-- The loop has come to i: k names are passed, and of the name there the word's bytes up to `at` are read, if it can be the word.
pub record Scan (names s : List ℕ) (from to : ℕ) (good : Bool) (k at : ℕ) (live : Bool) (i : ℕ) : Type 0 where
  pub few : k ≤ i
  pub whole : good ≡ true → (from ≤ to) × (to ≤ length s)
  pub within : live ≡ true → (at ≤ to) × (to ≤ length s)
  pub is : k + from_here good (slice from to s) live (slice at to s) (names_of (drop i names)) ≡ first_of good (slice from to s) (names_of names)

-- a name ends where the word does
ended : (s : List ℕ) (at to : ℕ) (live : Bool) → (live ≡ true → (at ≤ to) × (to ≤ length s)) →
    live && same (slice at to s) [] ≡ live && eqb at to
unfolding same
ended s at to false h = refl
ended s at to true h = by_test (eqb at to) refl
  where
    by_test : (t : Bool) → eqb at to ≡ t → same (slice at to s) [] ≡ t
    by_test true e = rw (eqb-true at to e, slice_empty to s)
    by_test false e =
        let apart = eqb-false at to e in
        let bounds = h refl in
        let below : at < to = omega arith in
        rw (slice-cons at to s 0 below bounds.1)

-- the word does not go on with b
stops_here : (s : List ℕ) (at to b : ℕ) (live : Bool) → (live ≡ true → (at ≤ to) × (to ≤ length s)) →
    live && goes_on s at to b ≡ false → (n : List ℕ) → live && same (slice at to s) (b ∷ n) ≡ false
stops_here s at to b false h e n = refl
stops_here s at to b true h e n = by_test (ltb at to) refl
  where
    by_test : (t : Bool) → ltb at to ≡ t → same (slice at to s) (b ∷ n) ≡ false
    by_test true f =
        let below : at < to = ltb-true at to f in
        let long : to ≤ length s = (h refl).1 in
        let inside : at < length s = omega arith in
        rw (slice-cons at to s 0 below long) (other (get_or s at 0) b (slice (suc at) to s) n (rw (f, lt-ltb _ _ inside) at e))
    by_test false f =
        let end : to ≡ at = omega (arith, ltb-false at to f, (h refl).0) in
        rw (end, slice_empty at s) (none b n)

module _ {names s : List ℕ} {from to : ℕ} {good : Bool} where
  pub scan_none : good ≡ leb from to && leb to (length s) → Scan names s from to good 0 from good 0
  scan_none e =
      let both : good ≡ true → (from ≤ to) × (to ≤ length s) =
      λ g. (leb-true _ _ (first _ _ (sym e ∙ g)), leb-true _ _ (second (leb from to) _ (sym e ∙ g))) in
      record { few = omega arith; whole = both; within = both; is = rw zero-add (begins good (slice from to s) names) }

  module _ {k at : ℕ} {live : Bool} {i : ℕ} (scan : Scan names s from to good k at live i) where
    module _ (h : i < length names) where
      module _ (space : get_or names i 0 ≡ 32) where
        at_space : k + cond (live && eqb at to) 0 (suc (first_of good (slice from to s) (names_of (drop (i + 1) names))))
            ≡ first_of good (slice from to s) (names_of names)
        unfolding names_of
        at_space =
            rw (← ended s at to live scan.within, add-one i)
            (rw (drop-cons names i 0 h, space) at scan.is)

        pub scan_found : live && eqb at to ≡ true → k ≡ first_of good (slice from to s) (names_of names)
        scan_found e = omega (arith, rw e at at_space)

        pub scan_passed : live && eqb at to ≡ false → Scan names s from to good (k + 1) from good (i + 1)
        scan_passed e =
            record {
              few = omega (arith, scan.few);
              whole = scan.whole;
              within = scan.whole;
              is = rw (begins good (slice from to s) (drop (i + 1) names)) (omega (arith, rw e at at_space));
            }

      module _ (letter : get_or names i 0 ≡ 32 → ⊥) where
        at_letter : k + from_here good (slice from to s) live (slice at to s) (onto (get_or names i 0) (names_of (drop (i + 1) names)))
            ≡ first_of good (slice from to s) (names_of names)
        unfolding names_of
        at_letter = rw (add-one i) (rw (drop-cons names i 0 h, ne_eqb _ _ letter) at scan.is)

        module _ {g : Bool} (goes : g ≡ goes_on s at to (get_or names i 0)) where
          pub scan_below : live && g ≡ true → at < to
          scan_below e = ltb-true _ _ (first _ _ (first _ _ (sym goes ∙ second live g e)))

          pub scan_on : live && g ≡ true → Scan names s from to good k (at + 1) live (i + 1)
          scan_on e =
              let yes : live ≡ true = first live g e in
              let below = scan_below e in
              let long : to ≤ length s = (scan.within yes).1 in
              let the : get_or s at 0 ≡ get_or names i 0 =
              eqb-true _ _ (second (ltb at to && ltb at (length s)) _ (sym goes ∙ second live g e)) in
              record {
                few = omega (arith, scan.few);
                whole = scan.whole;
                within = λ l. (omega arith, long);
                is =
                    rw (yes, add-one at)
                    (rw (yes, slice-cons at to s 0 below long, the, goes_on_lem good (slice from to s)) at at_letter);
              }

          pub scan_off : live && g ≡ false → Scan names s from to good k at false (i + 1)
          scan_off e =
              record {
                few = omega (arith, scan.few);
                whole = scan.whole;
                within = λ l. absurd (false≢true l);
                is =
                    rw (← never good (slice from to s) (get_or names i 0) (slice at to s) live (slice at to s)
                    (names_of (drop (i + 1) names)) (stops_here s at to (get_or names i 0) live scan.within (rw goes at e)))
                    at_letter;
              }

    module _ (h : length names ≤ i) where
      at_last : k + cond (live && eqb at to) 0 1 ≡ first_of good (slice from to s) (names_of names)
      unfolding names_of first_of
      at_last = rw (← ended s at to live scan.within) (rw (drop_of_length-le names h) at scan.is)

      pub scan_last : live && eqb at to ≡ true → k ≡ first_of good (slice from to s) (names_of names)
      scan_last e = omega (arith, rw e at at_last)

      pub scan_over : live && eqb at to ≡ false → k + 1 ≡ first_of good (slice from to s) (names_of names)
      scan_over e = omega (arith, rw e at at_last)
