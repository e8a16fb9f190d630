-- The list of severities from a fresh record, of any work: one law for each exit.
-- Assumes nothing.
use Prim.Native.Nat.{ℕ, zero, suc, ◌≤◌, ◌<◌}
use mathlib.Core.Path.{◌≡◌, refl, sym, ◌∙◌}
use mathlib.Core.List.{List}
use borrow.Author.Tests.{lt-ltb, le-ltb}
use lib.ListN.{length, get_or}
use Rattle.rules.specs.Refusals.{refused, given}
use Rattle.rules.specs.Severity.{Record, fresh}
use Rattle.rules.specs.History.{Work, event_in, past, filled, listed, written}
use Rattle.rules.proofs.Append.{one-event}
use Rattle.rules.proofs.Agreement.{severity-agrees}
use Rattle.rules.proofs.Histories.{From}
use Rattle.rules.proofs.Range.{fresh-range}
use Rattle.severity.specs.declared.Record as declared-record
use Rattle.std.specs.Prelude.{Result, Ok, Err}
use Rattle.refusals.specs.declared.Reason.TheVariants.{BufferShort}
use Rattle.refusals.specs.declared.Refusal.{Refusal}
use Rattle.refusals.specs.Paper.{number_of, at_start, answer_by}
use Rattle.severity.specs.Paper.{record_paper, written_from, Walks}
use Rattle.history.specs.Paper.{Lists}

module _ (w : Work) (h out : List ℕ) where
  abbrev Start : Record
  Start = fresh w.permission

  -- from a fresh record the list is the written reading's
  written-read : (i : ℕ) (t : Record) → From w h Start i ≡ given t → written_from w Start h out i ≡ written w h out i
  unfolding filled past
  written-read zero t q = refl
  written-read (suc i) t q =
      let e = one-event Start t (event_in w (get_or h i 0)) (past w h i) q in
      rw (written-read i e.0 e.1, q, severity-agrees w.permission (past w h (suc i)) t q)

  -- before, after: what the first walk, which only checks, was lent, and left
  module _ (before after : List ℕ) (from : Record) (s : from ≡ Start) where
    -- the fresh record is in range, so that a walk's answer is the history's
    walked : (r : Result declared-record.Record Refusal) (out last : List ℕ) → Walks w from h out last r
        → answer_by record_paper r ≡ From w h Start (length h)
    walked r out last u = rw (s, fresh-range w.permission) at u.answer

    pub list-bad : (r : Refusal) → Walks w from h before after (Err r) → Lists w h out out (Err r)
    unfolding listed
    list-bad r v =
        let q : From w h Start (length h) ≡ refused (number_of r.reason) r.place = sym (walked _ before after v) in
        let a : refused (number_of r.reason) r.place ≡ listed w h (length out) = rw q in
        record { answer = a; buffer = rw (← a) }

    module _ (t : declared-record.Record) (v : Walks w from h before after (Ok t)) where
      good : From w h Start (length h) ≡ given (record_paper t)
      good = sym (walked _ before after v)

      pub list-short : length out < length h → Lists w h out out (Err (at_start BufferShort))
      unfolding listed
      list-short l =
          let a : refused 11 0 ≡ listed w h (length out) = rw (good, lt-ltb (length out) (length h) l) in
          record { answer = a; buffer = rw (← a) }

      pub list-whole : (last : List ℕ) (r : Result declared-record.Record Refusal) → length h ≤ length out
          → Walks w from h out last r → Lists w h out last (Ok (length h))
      unfolding listed
      list-whole last r l u =
          let a : given (length h) ≡ listed w h (length out) = rw (good, le-ltb (length out) (length h) l) in
          let b : answer_by record_paper r ≡ given (record_paper t) = walked r out last u ∙ good in
          record {
            answer = a;
            buffer = rw (← a) (rw (s, b) at u.buffer ∙ written-read (length h) (record_paper t) good);
          }
