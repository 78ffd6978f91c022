-- The registers with another coldata, or with another mosaic counter.
use Rattle.std.specs.Prelude.{ℕ}
use Rattle.registers.specs.declared.PPURegisters.{PPURegisters}

abbrev replaced : ℕ → ℕ → PPURegisters → PPURegisters
replaced c n r = record {
  inidisp = r.inidisp;
  objsel = r.objsel;
  oamadd = r.oamadd;
  bgmode = r.bgmode;
  mosaic = r.mosaic;
  bgsc = r.bgsc;
  bg12nba = r.bg12nba;
  bg34nba = r.bg34nba;
  bg1hofs = r.bg1hofs;
  bghofs = r.bghofs;
  bg1vofs = r.bg1vofs;
  bgvofs = r.bgvofs;
  w12sel = r.w12sel;
  w34sel = r.w34sel;
  wobjsel = r.wobjsel;
  wh0 = r.wh0;
  wh1 = r.wh1;
  wh2 = r.wh2;
  wh3 = r.wh3;
  wbglog = r.wbglog;
  wobjlog = r.wobjlog;
  tm = r.tm;
  ts = r.ts;
  tmw = r.tmw;
  tsw = r.tsw;
  cgwsel = r.cgwsel;
  cgadsub = r.cgadsub;
  coldata = c;
  setini = r.setini;
  mosaic_vcounter = n;
  field = r.field;
}

abbrev pub with_coldata : ℕ → PPURegisters → PPURegisters
with_coldata c r = replaced c r.mosaic_vcounter r

abbrev pub with_counter : ℕ → PPURegisters → PPURegisters
with_counter n r = replaced r.coldata n r
