-- Document 02, T-06, 'Drop the arrow walk': "name the landing letter straight from letter, column and severity". Down a
-- column of a master table stand, as far as its letters go and but for three boxes (`last_to_zero`), arrows down, Ac 0,
-- an arrow up and one down, Ac 1 and the numbers after it, and arrows up. So a letter goes to Ac 0, to Ac 1 or back to
-- the last number, or it stays: it lands at the nearest number (proofs/Nearest). A place in a column is told by its s,
-- letter plus column. Definitions only.
use Rattle.std.specs.Prelude.{ℕ, ◌+◌, ◌-◌, cond, leb, ltb}
use Rattle.rules.specs.Single.{ac_of, row_at}

-- where Ac 0 stands: "| 14 | 0 | 15 | 0 |"
abbrev pub zero_at : ℕ → ℕ
zero_at severity = 14 + severity

-- where Ac 1 stands: 17, and 18 under tightened
abbrev pub one_at : ℕ → ℕ
one_at severity = 17 + severity

-- The last s that goes to Ac 0: one past it, "up". The columns 0.010 and 0.015 end before Ac 1, so that every letter
-- goes to Ac 0, "up at R"; a column over 14, tightened 15, begins after Ac 0, "down at A".
abbrev pub last_to_zero : ℕ → ℕ → ℕ
last_to_zero ac0 column = cond (leb column 1) (ac0 + 2) (cond (leb column ac0) (ac0 + 1) ac0)

-- The s past which a column holds no number: 24; but "25, 26" hold numbers "for A to E", and E is at 25 in column 21,
-- at 26 in column 22.
abbrev pub last_number : ℕ → ℕ
last_number column = cond (leb column 20) 24 (cond (leb column 21) 25 26)

-- where the letter at s goes in its column
abbrev pub goes_to : ℕ → ℕ → ℕ → ℕ
goes_to severity column s =
    cond (leb s (last_to_zero (zero_at severity) column)) (zero_at severity)
    (cond (ltb s (one_at severity)) (one_at severity) (cond (leb s (last_number column)) s (last_number column)))

-- the letter that gives the size
unfoldable pub straight : ℕ → ℕ → ℕ → ℕ
straight severity column letter = goes_to severity column (letter + column) - column

-- the Ac that stands at s, 0 where no letter has one
abbrev pub ac_along : ℕ → ℕ → ℕ
ac_along severity s = ac_of (row_at severity s).there
