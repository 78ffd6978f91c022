-- A sprite memory that is drawn, sprite by sprite.
use Rattle.std.specs.Prelude.{ℕ, ◌+◌, ◌*◌, ◌%◌, ◌<◌, ◌≡◌, refl, List, replicate}
use Rattle.std.proofs.Common.{ap, ◌∙◌, arith, add-one}
use Rattle.test_replay.specs.Drawing.{after_of}
use Rattle.test_replay.specs.steps.Drawing.{after_next}
use Rattle.test_replay.specs.Placing.{column_of, with_of}
use Rattle.test_replay.specs.steps.SpriteMemory.{numbers_of, drawn_sprite, sprites_at}
use Rattle.test_replay.specs.declared.drawing.Four.{Four}
use Rattle.test_replay.specs.declared.placing.Drawn.{Drawn}

-- a turn draws four numbers
pub after_four : (x i : ℕ) {y : ℕ} → y ≡ after_of (i * 4) x → after_of 4 y ≡ after_of ((i + 1) * 4) x
unfolding after_of
after_four x i e =
    let a = after_next x (i * 4) e refl in
    let b = after_next x (i * 4 + 1) a refl in
    let c = after_next x (i * 4 + 1 + 1) b refl in
    let d = after_next x (i * 4 + 1 + 1 + 1) c refl in
    let whole : i * 4 + 1 + 1 + 1 + 1 ≡ (i + 1) * 4 = omega arith in
    d ∙ ap (λ (k : ℕ). after_of k x) whole

module _ (s : ℕ → Drawn) (x : ℕ) where
  pub sprites_none : replicate 544 0 ≡ sprites_at s 0 x
  unfolding sprites_at
  sprites_none = refl

  pub sprites_more : (i : ℕ) {l m : List ℕ} {n : Four} {d : Drawn} {x9 : ℕ} → i < 128 → l ≡ sprites_at s i x → n ≡ numbers_of i x → d ≡ s i →
      x9 ≡ column_of d.place n.a n.b → m ≡ with_of l (i % 128) x9 d.top n.d d.large → m ≡ sprites_at s (i + 1) x
  unfolding sprites_at
  sprites_more i {l} {m} {n} {d} h e f k at w =
      let here : i % 128 ≡ i = omega arith in
      let sprite : m ≡ drawn_sprite l i n d = w ∙ (λ j. with_of l (here j) (at j) d.top n.d d.large) in
      rw (add-one i) (sprite ∙ (λ j. drawn_sprite (e j) i (f j) (k j)))
