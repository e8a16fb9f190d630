-- The one loop that moves a record, by each way through it, for any work; and the history of one byte, which moves a
-- record as its event does.
-- Assumes nothing.
use Rattle.std.proofs.Common.{ℕ, ◌+◌, ◌≤◌, ◌<◌, ◌≡◌, refl, sym, ap, ◌∙◌, Bool, true, false, List, [], ◌∷◌, length}
use Rattle.std.proofs.Common.{get_or}
use Rattle.std.proofs.Common.{Result, Ok, Err, add-one}
use lib.ListN.{set}
use lib.Seq.{set_out}
use Rattle.rules.specs.Refusals.{refused, given}
use Rattle.rules.specs.Severity.{Record, Event, step, in_range, on_record}
use Rattle.rules.specs.History.{Work, ours, event_in, byte_of, filled}
use Rattle.rules.proofs.Histories.{From, from-first, from-given, from-refused}
use Rattle.rules.proofs.Runs.{one-byte}
use Rattle.refusals.specs.declared.Reason.{Reason}
use Rattle.refusals.specs.declared.Reason.TheVariants.{UnknownForm}
use Rattle.refusals.specs.declared.Refusal.{Refusal}
use Rattle.refusals.specs.Paper.{number_of, at_start, answer_by}
use Rattle.severity.specs.declared.Record as declared
use Rattle.severity.specs.Paper.{record_paper, written_from, Walks}

-- what a walk has done before the byte at i, with the record that it then holds
pub record Walking (w : Work) (start : Record) (h out buffer : List ℕ) (held : Record) (i : ℕ) : Type 0 where
  pub reached : From w h start i ≡ given held
  pub left : buffer ≡ written_from w start h out i

module _ (w : Work) (start : Record) (h out : List ℕ) where
  pub walking-first : Walking w start h out out start 0
  unfolding filled
  walking-first = record { reached = from-first w h start start refl; left = refl }

  module _ (t : Bool) (q : t ≡ in_range start) where
    pub walked-none : t ≡ false → Walks w start h out out (Err (at_start UnknownForm))
    unfolding filled
    walked-none e = record { answer = rw (← q, e); buffer = refl }

    module _ (e : t ≡ true) (buffer : List ℕ) (held : Record) (i : ℕ) (v : Walking w start h out buffer held i) where
      pub walked-bad : (n : Reason) (k : ℕ) → i < length h
          → refused (number_of n) k ≡ step held (event_in w (get_or h i 0))
          → Walks w start h out buffer (Err (record { reason = n; place = i }))
      walked-bad n k l m = record {
        answer = rw (← q, e) (sym (from-refused w h start i held (number_of n) k l v.reached m));
        buffer = v.left;
      }

      pub walked-whole : (x : declared.Record) → held ≡ record_paper x → length h ≡ i
          → Walks w start h out buffer (Ok x)
      walked-whole x f z = record { answer = rw (← q, e, z) (rw f at (sym v.reached)); buffer = rw z v.left }

  -- a byte that is taken: its severity is written where the buffer reaches ..
  module _ (buffer : List ℕ) (i : ℕ) (b : buffer ≡ written_from w start h out i) {r : Record}
      (q : From w h start (i + 1) ≡ given r) where
    pub walked-more : set buffer i r.severity ≡ written_from w start h out (i + 1)
    unfolding filled
    walked-more = rw (add-one, b, rw add-one at q)

    -- .. and past its end nothing
    pub walked-past : length buffer ≤ i → buffer ≡ written_from w start h out (i + 1)
    walked-past l = sym (set_out buffer i r.severity l) ∙ walked-more

  -- the walk after such a byte, whose severity was written ..
  pub walking-on : (buffer after : List ℕ) (held t : Record) (i : ℕ) → Walking w start h out buffer held i
      → given t ≡ step held (event_in w (get_or h i 0)) → after ≡ set buffer i t.severity
      → Walking w start h out after t (i + 1)
  walking-on buffer after held t i v m b =
      let q = from-given w h start i held t v.reached m in
      record { reached = q; left = b ∙ walked-more buffer i v.left q }

  -- .. or is past the buffer's end
  pub walking-past : (buffer after : List ℕ) (held t : Record) (i : ℕ) → Walking w start h out buffer held i
      → given t ≡ step held (event_in w (get_or h i 0)) → after ≡ buffer → length buffer ≤ i
      → Walking w start h out after t (i + 1)
  walking-past buffer after held t i v m b l =
      let q = from-given w h start i held t v.reached m in
      record { reached = q; left = b ∙ walked-past buffer i v.left q l }

-- an event moves a record as its byte does
pub event-walked : (r : Record) (e : Event) (w : Work) (byte : ℕ) (out last : List ℕ)
    (a : Result declared.Record Refusal) → w ≡ ours → byte ≡ byte_of e → Walks w r (byte ∷ []) out last a
    → answer_by record_paper a ≡ on_record r (step r e)
event-walked r e w byte out last a o b v = rw (o, b) at v.answer ∙ ap (on_record r) (one-byte r e)
