-- A line as it grows.
use Rattle.std.specs.Prelude.{ℕ, ◌≡◌, List, take}
use Rattle.salvage_text.specs.declared.TextLine.{TextLine}
use Rattle.salvage_text.specs.Text.{text_line}

-- its bytes so far
abbrev pub written : TextLine → List ℕ
written line = take line.size line.text

-- nothing stands after them
abbrev pub Clean : TextLine → Type 0
Clean line = line ≡ text_line (written line)
