-- No two layers of a mode share a priority: one test over the table of modes.
use Rattle.std.specs.Prelude.{ℕ, ◌%◌, ◌≡◌, refl, Bool, true, false, cond, List, length, eqb}
use Rattle.base_lists.specs.Each.{Each}
use Rattle.base_lists.specs.Apart.{holds, clear_of, clear_of_all, apart}
use Rattle.registers.specs.Bits.{bit_of}
use Rattle.bg_modes.specs.declared.BgMode.{BgMode}
use Rattle.bg_modes.specs.Modes.{mode0, mode1, mode3, mode_rows}
use Rattle.bg_modes.specs.Ties.{layer_priorities}
use Rattle.bg_modes.specs.steps.Ties.{mode_table}

-- no two layers share a priority, in any mode of the table
abbrev NoneShared : List BgMode → Type 0
NoneShared rows = apart (layer_priorities rows) ≡ true

none_shared : Each NoneShared mode_table
unfolding holds clear_of clear_of_all apart
none_shared = (refl, (refl, (refl, (refl, tt))))

-- and each mode is in the table
in_table : (P : List BgMode → Type 0) → Each P mode_table → (zero three lifted : Bool) →
    P (cond zero mode0 (cond three mode3 (mode1 (cond lifted 13 5))))
in_table P e true three lifted = e.0
in_table P e false true lifted = e.1.1.1.0
in_table P e false false true = e.1.1.0
in_table P e false false false = e.1.0

pub no_shared_priority : (bgmode : ℕ) → apart (layer_priorities (mode_rows bgmode)) ≡ true
unfolding mode_rows
no_shared_priority bgmode =
    in_table NoneShared none_shared (eqb (bgmode % 8) 0) (eqb (bgmode % 8) 3) (bit_of bgmode 3)

-- a mode has a row for each of the four backgrounds
pub four_rows : (bgmode : ℕ) → length (mode_rows bgmode) ≡ 4
unfolding mode_rows
four_rows bgmode =
    in_table (λ rows. length rows ≡ 4) (refl, (refl, (refl, (refl, tt)))) (eqb (bgmode % 8) 0) (eqb (bgmode % 8) 3) (bit_of bgmode 3)
