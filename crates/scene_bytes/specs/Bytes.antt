-- What the bytes of a scene's sections stand for.
use Rattle.std.specs.Prelude.{ℕ, ◌+◌, ◌*◌, List, [], ◌∷◌, get_or, eqb}
use Rattle.base_lists.specs.Tab.{tab}
use Rattle.registers.specs.declared.PPURegisters.{PPURegisters}

-- the word from byte k on, little-endian
abbrev pub word_at : List ℕ → ℕ → ℕ
word_at bytes k = get_or bytes k 0 + get_or bytes (k + 1) 0 * 256

-- the registers, by the 48 bytes of their section
abbrev pub registers_of : List ℕ → PPURegisters
registers_of b = record {
  inidisp = get_or b 0 0;
  objsel = get_or b 1 0;
  oamadd = word_at b 2;
  bgmode = get_or b 4 0;
  mosaic = get_or b 5 0;
  bgsc = get_or b 6 0 ∷ get_or b 7 0 ∷ get_or b 8 0 ∷ get_or b 9 0 ∷ [];
  bg12nba = get_or b 10 0;
  bg34nba = get_or b 11 0;
  bg1hofs = word_at b 12;
  bghofs = word_at b 14 ∷ word_at b 16 ∷ word_at b 18 ∷ [];
  bg1vofs = word_at b 20;
  bgvofs = word_at b 22 ∷ word_at b 24 ∷ word_at b 26 ∷ [];
  w12sel = get_or b 28 0;
  w34sel = get_or b 29 0;
  wobjsel = get_or b 30 0;
  wh0 = get_or b 31 0;
  wh1 = get_or b 32 0;
  wh2 = get_or b 33 0;
  wh3 = get_or b 34 0;
  wbglog = get_or b 35 0;
  wobjlog = get_or b 36 0;
  tm = get_or b 37 0;
  ts = get_or b 38 0;
  tmw = get_or b 39 0;
  tsw = get_or b 40 0;
  cgwsel = get_or b 41 0;
  cgadsub = get_or b 42 0;
  coldata = word_at b 43;
  setini = get_or b 45 0;
  mosaic_vcounter = get_or b 46 0;
  field = eqb (get_or b 47 0) 1;
}

-- n words, by the bytes of their section
unfoldable pub words_of : ℕ → List ℕ → List ℕ
words_of n b = tab n (λ i. word_at b (i * 2))
