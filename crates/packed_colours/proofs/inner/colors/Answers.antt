use Prim.Native.Nat.{ℕ, ◌<◌}
use mathlib.Core.Path.{◌≡◌, sym, ◌∙◌}
use mathlib.Core.Bool.{Bool, false}
use lib.ListN.{get_or}
use Rattle.base_lists.specs.theorems.Tab.{tab_ext, get_d_tab}
use Rattle.row_blend.specs.declared.ColorMath.{ColorMath}
use Rattle.row_blend.specs.Blend.{settings_of, region}
use Rattle.packed_blend.specs.steps.Blended.{blended, mixed_at}
use Rattle.packed_colours.specs.steps.Screens.{inside_at, screen_at, packed_sub_at, colour_of_row}
use Rattle.packed_colours.proofs.Idle.{idle_is}
use Rattle.packed_colours.proofs.inner.colors.Goals as goal
use Rattle.packed_colours.proofs.inner.colors.Goals.{After-keep, After-mix}

-- the settings, the colour window and the line of the main screen at column x
settings-is-1 : (c : After-keep) → c.of-s.result ≡ settings_of c.args.r
settings-is-1 c = c.of-s.ensures

-- the settings, the colour window and the line of the main screen at column x
settings-is-2 : (c : After-mix) → c.of-s.result ≡ settings_of c.args.r
settings-is-2 c = c.of-s.ensures

abbrev mainOf-1 : (s : After-keep) → ℕ → ℕ
mainOf-1 s = let p = s.args in screen_at p.rows.now p.back p.r p.r.tm p.r.tmw

abbrev mainOf-2 : (s : After-mix) → ℕ → ℕ
mainOf-2 s = let p = s.args in screen_at p.rows.now p.back p.r p.r.tm p.r.tmw

abbrev subOf-1 : (s : After-keep) → ℕ → ℕ
subOf-1 s = let p = s.args in packed_sub_at p.rows.now p.r

abbrev subOf-2 : (s : After-mix) → ℕ → ℕ
subOf-2 s = let p = s.args in packed_sub_at p.rows.now p.r

main-is-1 : (c : After-keep) (x : ℕ) → x < 256 → get_or c.screen-main.result x 0 ≡ mainOf-1 c x
main-is-1 c x h = (λ i. get_or (c.screen-main.ensures i) x 0) ∙ get_d_tab (mainOf-1 c) 256 x 0 h

main-is-2 : (c : After-mix) (x : ℕ) → x < 256 → get_or c.screen-main.result x 0 ≡ mainOf-2 c x
main-is-2 c x h = (λ i. get_or (c.screen-main.ensures i) x 0) ∙ get_d_tab (mainOf-2 c) 256 x 0 h

inside_is-1 : (c : After-keep) (x : ℕ) → x < 256 → get_or c.inside-inside.result x false ≡ inside_at c.args.r (settings_of c.args.r) x
inside_is-1 c x h =
    (λ i. get_or (c.inside-inside.ensures i) x false)
    ∙ (get_d_tab (inside_at c.args.r c.of-s.result) 256 x false h
    ∙ (λ i. inside_at c.args.r (settings-is-1 c i) x))

inside_is-2 : (c : After-mix) (x : ℕ) → x < 256 → get_or c.inside-inside.result x false ≡ inside_at c.args.r (settings_of c.args.r) x
inside_is-2 c x h =
    (λ i. get_or (c.inside-inside.ensures i) x false)
    ∙ (get_d_tab (inside_at c.args.r c.of-s.result) 256 x false h
    ∙ (λ i. inside_at c.args.r (settings-is-2 c i) x))

-- the colour at a column, by what is known of it
abbrev colour : ColorMath → ℕ → ℕ → Bool → ℕ
colour s main sub inside = blended s main sub (region s.clip_mode inside) (region s.math_region inside)

pub returns-then-idle : goal.returns-then-idle
unfolding colour_of_row
returns-then-idle c =
    let s = c in
    c.keep.ensures
    ∙ tab_ext 256 _ _
    (λ x h. idle_is c.of-s.result (get_or c.screen-main.result x 0) (subOf-1 s x) (get_or c.inside-inside.result x false) (sym c.idle.ensures ∙ c.if-idle.true)
    ∙ (λ i. colour (settings-is-1 c i) (main-is-1 c x h i) (subOf-1 s x) (inside_is-1 c x h i)))

pub returns : goal.returns
unfolding colour_of_row mixed_at
returns c =
    let s = c in
    c.mix.ensures
    ∙ tab_ext 256 _ _
    (λ x h.
    let sub = (λ i. get_or (c.sub_line-sub.ensures i) x 0) ∙ get_d_tab (subOf-2 s) 256 x 0 h in
    λ i. colour (settings-is-2 c i) (main-is-2 c x h i) (sub i) (inside_is-2 c x h i))
