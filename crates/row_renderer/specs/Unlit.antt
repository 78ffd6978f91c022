-- Which bits of the registers are a background's own, and which it shares with others.
use Rattle.std.specs.Prelude.{ℕ, ◌*◌, ◌/◌, ◌%◌, ◌^◌, ◌≡◌, Bool, false, ◌&&◌, get_or}
use Rattle.registers.specs.declared.PPURegisters.{PPURegisters}
use Rattle.registers.specs.Bits.{bit_of, nibble_of}
use Rattle.registers.specs.Screen.{mode_of}
use Rattle.registers_bg.specs.Backgrounds.{scroll_of, tile16_of}
use Rattle.registers_mosaic.specs.Mosaic.{mosaic_on}
use Rattle.bg_modes.specs.Modes.{bg_mode_of}

-- background b's own register bits
pub record Own : Type 0 where
  -- its byte of bgsc: the map
  pub map : ℕ
  -- its nibble of bg12nba and bg34nba: the tile base
  pub tiles : ℕ
  -- its scroll
  pub across : ℕ
  pub down : ℕ
  -- its bit of bgmode: the tile side
  pub side : Bool
  -- its bit of mosaic
  pub mosaic : Bool
  -- its window settings: its nibble of w12sel and w34sel, its bits of wbglog, tmw and tsw
  pub select : ℕ
  pub logic : ℕ
  pub «bars_main» : Bool
  pub «bars_sub» : Bool

abbrev pub own_of : PPURegisters → ℕ → Own
own_of r b = record {
  map = get_or r.bgsc b 0;
  tiles = nibble_of r.bg12nba r.bg34nba b;
  across = (scroll_of r b).x;
  down = (scroll_of r b).y;
  side = tile16_of r b;
  mosaic = mosaic_on r b;
  select = nibble_of r.w12sel r.w34sel b;
  logic = r.wbglog / 2 ^ (2 * b) % 4;
  «bars_main» = bit_of r.tmw b;
  «bars_sub» = bit_of r.tsw b;
}

-- what is no background's own
pub record Shared : Type 0 where
  pub inidisp : ℕ
  pub objsel : ℕ
  pub oamadd : ℕ
  -- the mode, and bgmode bit 3
  pub mode : ℕ
  pub lifted : Bool
  -- the mosaic size's nibble
  pub size : ℕ
  pub wobjsel : ℕ
  pub wh0 : ℕ
  pub wh1 : ℕ
  pub wh2 : ℕ
  pub wh3 : ℕ
  pub wobjlog : ℕ
  pub tm : ℕ
  pub ts : ℕ
  -- the sprites' bits of tmw and tsw
  pub «bars_main» : Bool
  pub «bars_sub» : Bool
  pub cgwsel : ℕ
  pub cgadsub : ℕ
  pub coldata : ℕ
  pub setini : ℕ
  pub counter : ℕ
  pub field : Bool

abbrev pub shared_of : PPURegisters → Shared
shared_of r = record {
  inidisp = r.inidisp;
  objsel = r.objsel;
  oamadd = r.oamadd;
  mode = mode_of r;
  lifted = bit_of r.bgmode 3;
  size = r.mosaic / 16;
  wobjsel = r.wobjsel;
  wh0 = r.wh0;
  wh1 = r.wh1;
  wh2 = r.wh2;
  wh3 = r.wh3;
  wobjlog = r.wobjlog;
  tm = r.tm;
  ts = r.ts;
  «bars_main» = bit_of r.tmw 4;
  «bars_sub» = bit_of r.tsw 4;
  cgwsel = r.cgwsel;
  cgadsub = r.cgadsub;
  coldata = r.coldata;
  setini = r.setini;
  counter = r.mosaic_vcounter;
  field = r.field;
}

-- background b is lit on neither screen: tm and ts do not light it, or the mode lacks it
abbrev pub lit_by : PPURegisters → ℕ → ℕ → Bool
lit_by r lights b = (bg_mode_of r.bgmode b).present && bit_of lights b

abbrev pub Unlit : PPURegisters → ℕ → Type 0
Unlit r b = (lit_by r r.tm b ≡ false) × (lit_by r r.ts b ≡ false)
