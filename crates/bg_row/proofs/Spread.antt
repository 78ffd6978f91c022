-- Columns and their mosaic blocks.
use Prim.Native.Nat.{ℕ, ◌+◌, ◌-◌, ◌*◌, ◌/◌, ◌%◌, ◌<◌, ◌≤◌}
use mathlib.Core.Path.{◌≡◌, refl, sym, ap, ◌∙◌}
use native.Mathlib.Omega.{arith}
use native.Mathlib.Nat.{div-add-mod', zero-mod}
use lib.Arith.{digits_mod}
use mathlib.Core.List.{List, ◌++◌}
use lib.ListN.{length, replicate}
use borrow.Rule.Slice.PartMut.{put_mid, mid_of, mid_len, same_len_mid}
use Rattle.std.proofs.lemmas.List.{length-replicate}
use Rattle.std.proofs.lemmas.Slice.{take-put_mid}
use Rattle.base_lists.specs.Tab.{tab}
use Rattle.base_lists.specs.theorems.Tab.{tab_split, tab_same, tab_ext}
use Rattle.base_lists.specs.steps.Filling.{Front}

-- a column below the next block's start is in the block that starts at s
pub block_start : (b s x : ℕ) → s % b ≡ 0 → s ≤ x → x < s + b → x - x % b ≡ s
block_start b s x e h k =
    let d : x - s < b = omega arith in
    let q : s / b * b ≡ s = omega (arith, div-add-mod' s b, e) in
    let w : s / b * b + (x - s) ≡ x = omega (arith, q) in
    let m : x % b ≡ x - s = sym (ap (λ (n : ℕ). n % b) w) ∙ digits_mod (s / b) d in
    omega (arith, m)

pub first_start : (b : ℕ) → 0 % b ≡ 0
first_start b = zero-mod b

-- a block is written at once, from the front to e
pub front_block : {A : Type 0} {n : ℕ} (g : ℕ → A) (b s e : ℕ) {out part : List A} → Front n (λ k. g (k - k % b)) out s → s % b ≡ 0 →
    s ≤ e → e ≤ s + b → e ≤ n → part ≡ replicate (length (mid_of s (e - s) out)) (g s) →
    Front n (λ k. g (k - k % b)) (put_mid s (e - s) out part) e
front_block {n} g b s e {out} {part} i z p q r h =
    let f = λ (k : ℕ). g (k - k % b) in
    let below : s ≤ length out = omega (arith, i.long, i.within) in
    let wide : length (mid_of s (e - s) out) ≡ e - s = mid_len s e out (omega (arith, i.long, r)) in
    let same : part ≡ replicate (e - s) (g s) = h ∙ ap (λ (k : ℕ). replicate k (g s)) wide in
    let long : length part ≡ e - s = ap length same ∙ length-replicate (e - s) (g s) in
    let rest : replicate (e - s) (g s) ≡ tab (e - s) (λ (k : ℕ). f (s + k)) =
    tab_same (e - s) refl ∙ tab_ext (e - s) (λ k. g s) _ (λ k l. ap g (sym (block_start b s (s + k) z (omega arith) (omega (arith, l, q))))) in
    record {
      long = same_len_mid s (e - s) out part (long ∙ sym wide) ∙ i.long;
      within = r;
      is =
          take-put_mid s (e - s) out part e (omega (arith, long)) below
          ∙ ((λ j. i.is j ++ (same ∙ rest) j) ∙ (sym (tab_split f s (e - s)) ∙ ap (λ (k : ℕ). tab k f) (omega arith)));
    }

-- blocks of one column
pub alone : (b x : ℕ) → b ≡ 1 → x ≡ x - x % b
alone b x e = rw e (omega arith)

-- the cell that a column takes is one of the 264
pub within_cells : (b x fine : ℕ) → x < 256 → fine < 8 → x - x % b + fine < 264
within_cells b x fine h k = omega arith
