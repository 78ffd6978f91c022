-- Parts that are written at the front, and blocks that are written wider than they are: each is right up to where the
-- next begins.
use Prim.Native.Nat.{ℕ, ◌+◌, ◌-◌, ◌%◌, ◌≤◌}
use mathlib.Core.Path.{◌≡◌, refl, sym, ap, ◌∙◌}
use mathlib.Core.List.{List, ◌++◌, append_assoc}
use native.Mathlib.Omega.{arith}
use lib.ListN.{length, take, replicate}
use lib.Seq.{take-take, take_at}
use borrow.Rule.Slice.PartMut.{put_mid, mid_of, mid_len, same_len_mid}
use Rattle.std.proofs.lemmas.List.{length-replicate}
use Rattle.std.proofs.lemmas.Slice.{take-put_mid}
use Rattle.base_lists.specs.Tab.{tab}
use Rattle.base_lists.specs.theorems.Tab.{tab_split, length_tab, tab_same, tab_ext}
use Rattle.base_lists.specs.steps.Filling.{Front}
use Rattle.bg_row.proofs.Spread.{block_start}

module _ {A : Type 0} {n : ℕ} where
  -- a block that starts at s is written up to e; of it the first columns are kept, up to m
  pub wide_block : (g : ℕ → A) (b s m e : ℕ) {out part : List A} → Front n (λ k. g (k - k % b)) out s → s % b ≡ 0 →
      s ≤ m → m ≤ s + b → m ≤ e → e ≤ n → part ≡ replicate (length (mid_of s (e - s) out)) (g s) →
      Front n (λ k. g (k - k % b)) (put_mid s (e - s) out part) m
  wide_block g b s m e {out} {part} i z p q w r h =
      let f = λ (k : ℕ). g (k - k % b) in
      let all : ℕ → A = λ k. g s in
      let below : s ≤ length out = omega (arith, i.long, i.within) in
      let wide : length (mid_of s (e - s) out) ≡ e - s = mid_len s e out (omega (arith, i.long, r)) in
      let same : part ≡ replicate (e - s) (g s) = h ∙ ap (λ (k : ℕ). replicate k (g s)) wide in
      let long : length part ≡ e - s = ap length same ∙ length-replicate (e - s) (g s) in
      let kept : tab (m - s) all ≡ tab (m - s) (λ (k : ℕ). f (s + k)) =
      tab_ext (m - s) all _ (λ k l. ap g (sym (block_start b s (s + k) z (omega arith) (omega (arith, l, q))))) in
      let parts : part ≡ tab (m - s) (λ (k : ℕ). f (s + k)) ++ tab (e - m) all =
      same ∙ (tab_same (e - s) refl ∙ (ap (λ (k : ℕ). tab k all) (omega arith) ∙ (tab_split all (m - s) (e - m) ∙ ap (λ (l : List A). l ++ tab (e - m) all) kept))) in
      let front : tab s f ++ tab (m - s) (λ (k : ℕ). f (s + k)) ≡ tab m f = sym (tab_split f s (m - s)) ∙ ap (λ (k : ℕ). tab k f) (omega arith) in
      let written : take e (put_mid s (e - s) out part) ≡ tab m f ++ tab (e - m) all =
      take-put_mid s (e - s) out part e (omega (arith, long)) below
      ∙ ((λ j. i.is j ++ parts j) ∙ (sym (append_assoc (tab s f) _ (tab (e - m) all)) ∙ ap (λ (l : List A). l ++ tab (e - m) all) front)) in
      record {
        long = same_len_mid s (e - s) out part (long ∙ sym wide) ∙ i.long;
        within = omega arith;
        is = sym (take-take m e _ w) ∙ (ap (take m) written ∙ take_at (tab m f) _ m (length_tab f m));
      }

module _ {A : Type 0} {n : ℕ} {f : ℕ → A} where
  -- a part that the rule gives is written at the front
  pub front_laid : {out part : List A} (s e : ℕ) → Front n f out s → s ≤ e → e ≤ n → part ≡ tab (e - s) (λ k. f (s + k)) →
      Front n f (put_mid s (e - s) out part) e
  front_laid {out} {part} s e i p q h =
      let below : s ≤ length out = omega (arith, i.long, i.within) in
      let wide : length (mid_of s (e - s) out) ≡ e - s = mid_len s e out (omega (arith, i.long, q)) in
      let long : length part ≡ e - s = ap length h ∙ length_tab (λ (k : ℕ). f (s + k)) (e - s) in
      record {
        long = same_len_mid s (e - s) out part (long ∙ sym wide) ∙ i.long;
        within = q;
        is =
            take-put_mid s (e - s) out part e (omega (arith, long)) below
            ∙ ((λ j. i.is j ++ h j) ∙ (sym (tab_split f s (e - s)) ∙ ap (λ (k : ℕ). tab k f) (omega arith)));
      }

  -- a part of the front
  pub front_part : {out : List A} {x : ℕ} → Front n f out x → (m : ℕ) → m ≤ x → take m out ≡ tab m f
  front_part {out} {x} i m h =
      let e : x ≡ m + (x - m) = omega (arith, h) in
      sym (take-take m x out h)
      ∙ (ap (take m) (i.is ∙ (ap (λ (k : ℕ). tab k f) e ∙ tab_split f m (x - m)))
      ∙ take_at (tab m f) (tab (x - m) (λ (k : ℕ). f (m + k))) m (length_tab f m))
