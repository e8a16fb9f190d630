-- The runs of bytes that a line is made of. Definitions only.
use Rattle.std.specs.Prelude.{ℕ, List, [], ◌∷◌, ◌++◌, get_or}
use Rattle.rules.specs.Ascii.{ascii}
use Rattle.rules.specs.Log.{decimal, space, newline}

-- the most bytes of a line
abbrev pub line_room : ℕ
line_room = 51

abbrev pub severity_byte : ℕ → ℕ
severity_byte severity = get_or (ascii "NTRX") severity 0

abbrev pub after_text : ℕ → ℕ → List ℕ
after_text severity score = severity_byte severity ∷ space ∷ (decimal score ++ (newline ∷ []))
