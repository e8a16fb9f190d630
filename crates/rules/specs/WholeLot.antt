-- Document 02, T-05, 'Say when it is the whole lot': what a plan tells of its size and its lot, and which lines of
-- lotlog have a W. Definitions only.
use Rattle.std.specs.Prelude.{ℕ, min, ◌≤◌, ◌≡◌, ◌↔◌, Bool, true, false, cond, ◌||◌, List, [], ◌∷◌, eqb, get_or}
use Prim.Native.Char.{code}
use Rattle.rules.specs.Refusals.{given}
use Rattle.rules.specs.Codes.{reduced, letter_of}
use Rattle.rules.specs.Single.{sizes, landing_of, Plan}
use Rattle.rules.specs.Supply.{Supply}
use Rattle.rules.specs.History.{Work}
use Rattle.rules.specs.Book.{Found, found, nothing}
use Rattle.rules.specs.Entries.{Asked, looked_up, reduced_section, Offered, asked_on, Closed, close_total}
use Rattle.rules.specs.Log.{lot_line, line_of, split_at, space}
use Rattle.rules.specs.Planning.{own_share}

-- "the table's own size": that of the letter where the arrows end ..
abbrev pub table_size : Asked → ℕ
table_size q = get_or sizes (landing_of q.severity q.column (letter_of q.size q.level)).letter 0

-- .. under reduced inspection the n of the book's entry ..
abbrev pub entry_size : Found → ℕ
entry_size nothing = 0
entry_size (found e) = get_or e 2 0

abbrev pub single_size : Asked → List ℕ → ℕ
single_size q book = cond (eqb q.severity reduced) (entry_size (looked_up reduced_section q book)) (table_size q)

-- .. and on a fraction that of the lot's own letter
abbrev pub size_in_mode : Asked → List ℕ → ℕ
size_in_mode q book = cond (eqb (own_share q) 0) (single_size q book) (get_or sizes (letter_of q.size q.level) 0)

-- "whether the size was cut to the lot", "A table size equal to the lot counts as cut": exactly where the lot is at
-- most the table's own size. What is drawn is the smaller of both.
pub record SizeTold (lot own : ℕ) (p : Plan) : Type 0 where
  pub own-size : p.table_n ≡ own
  pub cut-exactly : (p.cut ≡ true) ↔ (lot ≤ own)
  pub smaller : p.n ≡ min lot own
  pub whole-lot : (p.cut ≡ true) ↔ (p.n ≡ lot)

-- does a byte stand in a text?
unfoldable pub has_byte : ℕ → List ℕ → Bool
has_byte b [] = false
has_byte b (x ∷ xs) = eqb x b || has_byte b xs

abbrev pub letter_w : ℕ
letter_w = code "W"

-- "a cut line": that of a lot which is judged, and is at most the table's own size
pub record CutLine (w : Work) (s : Supply) (bytes : List ℕ) : Type 0 where
  pub lot : Offered
  pub total : ℕ
  pub is-lot : line_of w (split_at space bytes) ≡ lot_line lot total
  pub closed : Closed Plan
  pub is-closed : close_total s lot total ≡ given closed
  pub at_most : lot.size ≤ table_size (asked_on s.switching lot)
