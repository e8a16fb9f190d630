-- Document 01, 'Severity record', a history of bytes: the list of its severities, and its refusals. Definitions only.
use Rattle.std.specs.Prelude.{ℕ, zero, suc, Bool, true, false, cond, ◌&&◌, ◌||◌, not, List, [], ◌∷◌, leb, ltb, eqb}
use Rattle.std.specs.Prelude.{length, get_or, set}
use Rattle.rules.specs.Refusals.{Answer, refused, given, first_of, ◌gives◌, and_then, buffer_short}
use Rattle.rules.specs.Severity.{Lot, add_three, add_two, score_zero, not_accepted, typed, Event, lot}
use Rattle.rules.specs.Severity.{resubmitted, steady_is, permission_is, corrective, unknown, Record, fresh, step}
use Rattle.rules.specs.Reading.{severity_read}

-- "0, 1, 2 accepted (add 3, add 2, score 0), 3 not accepted, 4 resubmitted, 5 steady, 6 not steady, 7 permission, 8
-- withdrawn, 9 corrective"
abbrev pub byte_events : List Event
byte_events =
    lot typed add_three
    ∷ lot typed add_two
    ∷ lot typed score_zero
    ∷ lot typed not_accepted
    ∷ resubmitted
    ∷ steady_is true
    ∷ steady_is false
    ∷ permission_is true
    ∷ permission_is false
    ∷ corrective
    ∷ []

unfoldable pub event_of : ℕ → Event
event_of byte = get_or byte_events byte unknown

-- the history byte of an event
abbrev pub byte_of_lot : Lot → ℕ
byte_of_lot add_three = 0
byte_of_lot add_two = 1
byte_of_lot score_zero = 2
byte_of_lot not_accepted = 3

abbrev pub byte_of : Event → ℕ
byte_of (lot o l) = byte_of_lot l
byte_of resubmitted = 4
byte_of (steady_is b) = cond b 5 6
byte_of (permission_is b) = cond b 7 8
byte_of corrective = 9
byte_of unknown = 10

-- The work that a history belongs to: the permission that its start names, and whether it knows resubmitted lots (byte
-- 4, R lines).
pub record Work : Type 0 where
  pub permission : Bool
  pub resubmission : Bool

-- the bytes and line forms that a work knows (a line's form is known by its byte)
abbrev pub knows : Work → ℕ → Bool
knows w byte = leb byte 9 && (not (eqb byte 4) || w.resubmission)

-- "Starts: .. permission no"; every byte of the list is known
abbrev pub ours : Work
ours = record { permission = false; resubmission = true }

unfoldable pub event_in : Work → ℕ → Event
event_in w byte = cond (knows w byte) (event_of byte) unknown

-- a refusal of what stands at a place
abbrev pub placed : {A : Type 0} → ℕ → Answer A → Answer A
placed k (refused n p) = refused n k
placed k (given a) = given a

-- The record after events, newest first, from a record; or the refusal of the first bad one, "with its place counted
-- from 0".
unfoldable pub after_from : Record → List Event → Answer Record
after_from r [] = given r
after_from r (e ∷ es) = and_then (after_from r es) (λ t. placed (length es) (step t e))

-- "From a fresh record"
abbrev pub after : Bool → List Event → Answer Record
after start es = after_from (fresh start) es

-- the first i bytes of a history as events, newest first
unfoldable pub past : Work → List ℕ → ℕ → List Event
past w h zero = []
past w h (suc i) = event_in w (get_or h i 0) ∷ past w h i

abbrev pub after_history : Work → List ℕ → Answer Record
after_history w h = after w.permission (past w h (length h))

-- "a history reports its first bad byte (1, 5 or 10, with its place counted from 0) before 11"; how many severities
-- are listed
unfoldable pub listed : Work → List ℕ → ℕ → Answer ℕ
listed w h room =
    and_then (after_history w h) (λ r. first_of ((ltb room (length h) gives buffer_short) ∷ []) (given (length h)))

-- a buffer whose first i places are set, as far as it reaches, each to what f has there
unfoldable pub filled : (ℕ → ℕ) → List ℕ → ℕ → List ℕ
filled f out zero = out
filled f out (suc i) = set (filled f out i) i (f i)

-- "the severity after each byte is written to a lent buffer, the rest of which stays": after the first i bytes, as
-- the written reading finds it
abbrev pub written : Work → List ℕ → List ℕ → ℕ → List ℕ
written w h out i = filled (λ k. severity_read w.permission (past w h (suc k))) out i

-- what the buffer then holds; a refusal "writes nothing"
abbrev pub left_in : Answer ℕ → Work → List ℕ → List ℕ → List ℕ
left_in (refused n k) w h out = out
left_in (given m) w h out = written w h out m

-- a history without its resubmitted bytes
unfoldable pub without_fours : List ℕ → List ℕ
without_fours [] = []
without_fours (b ∷ h) = cond (eqb b 4) (without_fours h) (b ∷ without_fours h)
