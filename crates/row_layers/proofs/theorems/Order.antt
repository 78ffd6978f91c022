-- Laying order never shows (demand 3). From the backdrops, the five layers laid in any order, each at least once, leave at
-- every pixel of both lines the candidate of greatest priority, or the backdrop where there is none.
use Rattle.std.specs.Prelude.{ℕ, ◌<◌, ◌≡◌, Ok, Bool, true, false, ltb, eqb, length, get_or}
use Rattle.std.proofs.Math.Path.{refl, ap, subst}
use Rattle.std.proofs.Common.{sym, ◌∙◌, arith, ltb-false}
use mathlib.Core.List.{List, [], ◌∷◌}
use Rattle.base_refusal.specs.Answer.{Answer, value, refused, provided, outcome}
use Rattle.base_refusal.specs.Results.{outcome_of}
use Rattle.row_tests.specs.Tests.{layer_tests}
use Rattle.line_pixels.specs.declared.Lines.{Lines}
use Rattle.line_pixels.specs.Pixels.{no_pixel, backdrop_of, backdrop_lines}
use Rattle.line_laying.specs.Laying.{lay_lines}
use Rattle.line_laying.specs.Order.{Seen, lay_all}
use Rattle.line_laying.specs.theorems.Order.{main_seen, sub_seen, order_never_shows}
use Rattle.registers.specs.Scene.{Scene}
use Rattle.row_layers.specs.Layers.{layer_shown, layer_pixel, layer_candidates, layered, start_lines, backdrop_outcome, layer_outcome}
use Rattle.row_layers.specs.Numbers.{FullLines}
use Rattle.row_layers.specs.theorems.Numbers.{full_start, full_laid, none_laid}
use Rattle.row_layers.specs.theorems.Ties.{no_ties_on_main, no_ties_on_sub, five_on_main, five_on_sub}
use Rattle.row_layers.specs.Order.{AllFive, lines_after, LayerCalls, Run, none, call}

module _ (s : Scene) (y : ℕ) where
  -- At each pixel of the main line stands the candidate of greatest priority there, or the backdrop where there is none;
  pub greatest_on_main : (ks : List ℕ) → AllFive ks → (x : ℕ) → x < 256 →
      Seen (λ k. (layer_candidates s y k x).main) (backdrop_of (get_or s.cgram 0 0)) (get_or (lines_after s y ks).main x no_pixel)
  greatest_on_main ks m =
      main_seen (layer_shown s) (layer_pixel s y) (get_or s.cgram 0 0) s.regs.coldata ks (λ x h k o. m k (five_on_main s y x k o))

  -- and so of the sub line.
  pub greatest_on_sub : (ks : List ℕ) → AllFive ks → (x : ℕ) → x < 256 →
      Seen (λ k. (layer_candidates s y k x).sub) (backdrop_of s.regs.coldata) (get_or (lines_after s y ks).sub x no_pixel)
  greatest_on_sub ks m =
      sub_seen (layer_shown s) (layer_pixel s y) (get_or s.cgram 0 0) s.regs.coldata ks (λ x h k o. m k (five_on_sub s y x k o))

  -- So any two orders, with any repetition, leave the same lines.
  pub any_order : (ks js : List ℕ) → AllFive ks → AllFive js → lines_after s y ks ≡ lines_after s y js
  any_order ks js m n =
      order_never_shows (layer_shown s) (layer_pixel s y) (get_or s.cgram 0 0) s.regs.coldata ks js
      (λ x h k o. m k (five_on_main s y x k o))
      (λ x h k o. m k (five_on_sub s y x k o))
      (λ x h k o. n k (five_on_main s y x k o))
      (λ x h k o. n k (five_on_sub s y x k o))
      (λ x h. no_ties_on_main s y x)
      (λ x h. no_ties_on_sub s y x)

  either : {a b : Lines} (t : Answer Unit) → a ≡ b → (outcome {A = Unit} t tt a b).left ≡ a
  either (value u) e = refl
  either (refused n) e = sym e

  -- on a row that is drawn a call leaves what laying its layer leaves; a number above 4 is refused, and lays nothing
  call_lays : layer_tests s y true ≡ value tt → (k : ℕ) (l : Lines) → FullLines l →
      (layer_outcome s y k l).left ≡ lay_lines (layer_shown s k) (layer_pixel s y k) l
  call_lays t k l w = by_test (ltb k 5) refl
    where
      by_test : (b : Bool) → ltb k 5 ≡ b →
          (outcome {A = Unit} (layer_tests s y b) tt (layered s y k l) l).left ≡ lay_lines (layer_shown s k) (layer_pixel s y k) l
      by_test true e = λ i. (outcome {A = Unit} (t i) tt (layered s y k l) l).left
      by_test false e = either (layer_tests s y false) (none_laid s y k (ltb-false k 5 e) l w)

  -- so the calls leave what their layers leave
  pub calls_lay : layer_tests s y true ≡ value tt → {l m : Lines} (ks : List ℕ) → FullLines l → LayerCalls s y l ks m →
      m ≡ lay_all (layer_shown s) (layer_pixel s y) ks l
  unfolding lay_all
  calls_lay t [] w none = refl
  calls_lay t {l} (k ∷ ks) w (call v after c r) =
      let left : after ≡ (layer_outcome s y k l).left = λ i. (c i).left in
      let laid = left ∙ call_lays t k l w in
      let full = subst FullLines (sym laid) (full_laid (layer_shown s k) (layer_pixel s y k) l) in
      calls_lay t ks full r ∙ ap (lay_all (layer_shown s) (layer_pixel s y) ks) laid

  from_start : (l : Lines) → outcome_of (backdrop_lines 0 0) (Ok l) ≡ backdrop_outcome s.cgram s.regs → l ≡ start_lines s
  from_start l = by_test (eqb (length s.cgram) 256)
    where
      by_test : (t : Bool) → outcome_of (backdrop_lines 0 0) (Ok l) ≡ outcome (provided t 3 (value tt)) tt (start_lines s) (backdrop_lines 0 0) →
          l ≡ start_lines s
      by_test true e = λ i. (e i).left
      by_test false e =
          let said : ◌≡◌ {A = Answer Unit} (value tt) (refused 3) = λ i. (e i).said in
          let z : ◌≡◌ {A = ℕ} 0 1 = cc in
          absurd (omega arith)

  pub run_lays : layer_tests s y true ≡ value tt → {m : Lines} (ks : List ℕ) → Run s y ks m → m ≡ lines_after s y ks
  run_lays t ks r =
      let from = from_start r.start r.begins in
      calls_lay t ks (subst FullLines (sym from) (full_start s)) r.calls ∙ ap (lay_all (layer_shown s) (layer_pixel s y) ks) from

  -- After any calls, with each of the five layers at least once, there stands at each pixel of the main line the candidate of
  -- greatest priority, or the backdrop where there is none;
  pub calls_greatest_on_main : layer_tests s y true ≡ value tt → {m : Lines} (ks : List ℕ) → AllFive ks → Run s y ks m → (x : ℕ) → x < 256 →
      Seen (λ k. (layer_candidates s y k x).main) (backdrop_of (get_or s.cgram 0 0)) (get_or m.main x no_pixel)
  calls_greatest_on_main t ks f r x h = rw (run_lays t ks r) (greatest_on_main ks f x h)

  -- and so of the sub line.
  pub calls_greatest_on_sub : layer_tests s y true ≡ value tt → {m : Lines} (ks : List ℕ) → AllFive ks → Run s y ks m → (x : ℕ) → x < 256 →
      Seen (λ k. (layer_candidates s y k x).sub) (backdrop_of s.regs.coldata) (get_or m.sub x no_pixel)
  calls_greatest_on_sub t ks f r x h = rw (run_lays t ks r) (greatest_on_sub ks f x h)

  -- So any two such runs end in the same lines.
  pub any_layer_calls : layer_tests s y true ≡ value tt → {m n : Lines} (ks js : List ℕ) → AllFive ks → AllFive js → Run s y ks m → Run s y js n → m ≡ n
  any_layer_calls t ks js f g r q = run_lays t ks r ∙ any_order ks js f g ∙ sym (run_lays t js q)
