-- lotlog fed piece by piece, in constant memory: what is held between pieces, what each piece prints. Definitions only.
use Rattle.std.specs.Prelude.{ℕ, zero, suc, Bool, true, cond, not, List, [], ◌∷◌, ◌++◌, ltb, eqb, length, take, drop}
use Rattle.rules.specs.Supply.{Supply, fresh_supply}
use Rattle.rules.specs.History.{Work}
use Rattle.rules.specs.Log.{split_at, newline, space, Line, unknown_line, line_of, Logged, logged_as, line_after}

-- the bytes before the first separator
unfoldable pub up_to : ℕ → List ℕ → List ℕ
up_to separator [] = []
up_to separator (b ∷ bs) = cond (eqb b separator) [] (b ∷ up_to separator bs)

-- The unfinished line: its bytes so far, or only that they are more than any line of a known form has.
pub data Begun : Type 0 where
  so_far : List ℕ → Begun
  too_long : Begun

-- a letter and four numbers of ten digits, one space apart
abbrev pub longest_line : ℕ
longest_line = 45

abbrev pub one_more : Begun → ℕ → Begun
one_more (so_far l) b = cond (ltb (length l) longest_line) (so_far (l ++ (b ∷ []))) too_long
one_more too_long b = too_long

abbrev pub is_begun : Begun → Bool
is_begun (so_far l) = not (eqb (length l) 0)
is_begun too_long = true

abbrev pub line_begun : Work → Begun → Line
line_begun w (so_far l) = line_of w (split_at space l)
line_begun w too_long = unknown_line

-- What is held between pieces: the record, and the number and the bytes of the unfinished line.
pub record Held : Type 0 where
  pub supply : Supply
  pub line : ℕ
  pub begun : Begun

abbrev pub holding : Supply → ℕ → Begun → Held
holding s line begun = record { supply = s; line = line; begun = begun }

abbrev pub starting : Work → Held
starting w = holding (fresh_supply w.permission) 1 (so_far [])

-- the unfinished line is finished: what it prints, and what is held then
abbrev pub ended : Work → Held → Logged
ended w s = logged_as w s.line s.supply (line_begun w s.begun)

abbrev pub after_line : Work → Held → Held
after_line w s = holding (ended w s).held (line_after s.line) (so_far [])

-- What feeding a piece answers: what is held then, how many of its bytes were taken, and what was printed.
pub record Fed : Type 0 where
  pub kept : Held
  pub taken : ℕ
  pub text : List ℕ

abbrev pub one_taken : Fed → Fed
one_taken f = record { kept = f.kept; taken = suc f.taken; text = f.text }

-- bytes of the piece are taken until one line is finished
unfoldable pub fed : Work → Held → List ℕ → Fed
fed w s [] = record { kept = s; taken = 0; text = [] }
fed w s (b ∷ bs) =
    cond (eqb b newline) (record { kept = after_line w s; taken = 1; text = (ended w s).text })
    (one_taken (fed w (holding s.supply s.line (one_more s.begun b)) bs))

-- "The last line may lack its newline": what an unfinished line prints at the end of the input
abbrev pub finished : Work → Held → List ℕ
finished w s = cond (is_begun s.begun) (ended w s).text []

-- the output for all the bytes that are still to come, from what is held
unfoldable pub onwards : Work → Held → List ℕ → List ℕ
onwards w s [] = finished w s
onwards w s (b ∷ bs) =
    cond (eqb b newline) ((ended w s).text ++ onwards w (after_line w s) bs)
    (onwards w (holding s.supply s.line (one_more s.begun b)) bs)

-- A run of calls, a piece offered to each: the bytes that they took, and what they printed with what finishing printed.
unfoldable pub took_in : Work → Held → List (List ℕ) → List ℕ
took_in w s [] = []
took_in w s (p ∷ ps) = take (fed w s p).taken p ++ took_in w (fed w s p).kept ps

unfoldable pub said_in : Work → Held → List (List ℕ) → List ℕ
said_in w s [] = finished w s
said_in w s (p ∷ ps) = (fed w s p).text ++ said_in w (fed w s p).kept ps

-- One piece offered until it is wholly taken, in at most so many calls, and the pieces of an input one after another.
unfoldable pub offers : Work → ℕ → Held → List ℕ → List (List ℕ)
offers w zero s p = []
offers w (suc k) s p = p ∷ offers w k (fed w s p).kept (drop (fed w s p).taken p)

unfoldable pub held_after : Work → Held → List (List ℕ) → Held
held_after w s [] = s
held_after w s (p ∷ ps) = held_after w (fed w s p).kept ps

unfoldable pub all_offers : Work → Held → List (List ℕ) → List (List ℕ)
all_offers w s [] = []
all_offers w s (p ∷ ps) = offers w (length p) s p ++ all_offers w (held_after w s (offers w (length p) s p)) ps
