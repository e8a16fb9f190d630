-- The rules' definitions by the tests that the code makes: one law for each return.
-- Assumes nothing.
use Prim.Native.Nat.{ℕ, ◌+◌, ◌≤◌, ◌<◌}
use mathlib.Core.Path.{◌≡◌, refl, sym, ap, ◌∙◌}
use mathlib.Core.Bool.{Bool, true, false, cond, ◌&&◌, not}
use native.Mathlib.Omega.{arith}
use lib.Dec.{leb, eqb}
use borrow.Author.Tests.{le-leb, lt-leb, eq-eqb, ne_eqb, not-true, not-false}
use native.Mathlib.Numerals.{add-one}
use Rattle.std.specs.Prelude.{Result, Ok, Err}
use Rattle.refusals.specs.declared.Refusal.{Refusal}
use Rattle.refusals.specs.Paper.{number_of, answer_by}
use Rattle.rules.specs.Refusals.{Answer, refused, given, and_then, unknown_form}
use Rattle.rules.specs.Severity.{Lot, add_two, score_zero, not_accepted, Event, lot, Record, fresh, step, in_range}
use Rattle.rules.specs.Severity.{on_record, counted}
use Rattle.rules.specs.Fractional.{share_at, has_fractional_plan, fraction_accepts}
use Rattle.rules.specs.Supply.{CleanRun, no_run, Supply, supply_of, fresh_supply, run_on, longer_run, lot_on, counts_on}
use Rattle.rules.specs.Supply.{clean_from, clean_by}
use Rattle.rules.specs.Supply.{clean_after, move, clean_in_range, supply_in_range}
use Rattle.rules.specs.Entries.{on_supply, moved}
use Rattle.severity.specs.declared.Lot as lots
use Rattle.severity.specs.declared.Origin as declared
use Rattle.severity.specs.declared.Origin.TheVariants.{Typed, Sampled, Fraction}
use Rattle.severity.specs.declared.Event as events
use Rattle.severity.specs.declared.Event.TheVariants as event
use Rattle.severity.specs.declared.Record as declared-record
use Rattle.severity.specs.Paper.{lot_paper, origin_paper, event_paper, record_paper}
use Rattle.rules.proofs.Bools.{and-left}

-- how a lot counts
module _ (s : ℕ) (a : Bool) (p : Lot) where
  pub counts-points : a ≡ true → s ≡ 0 → p ≡ counted s a p
  counts-points e f = rw (e, eq-eqb s 0 f)

  pub counts-zero : a ≡ true → (s ≡ 0 → ⊥) → score_zero ≡ counted s a p
  counts-zero e f = rw (e, ne_eqb s 0 f)

  pub counts-bad : a ≡ false → not_accepted ≡ counted s a p
  counts-bad e = rw e

-- a fractional plan: a letter of Table 1, a column of items, a share
module _ (v column letter : ℕ) where
  pub letter-over : 15 < letter → false ≡ has_fractional_plan v column letter
  unfolding has_fractional_plan
  letter-over h = rw (lt-leb letter 15 h)

  pub column-over : letter ≤ 15 → 15 < column → false ≡ has_fractional_plan v column letter
  unfolding has_fractional_plan
  column-over h k = rw (le-leb letter 15 h, lt-leb column 15 k)

  pub by-share : (x : ℕ) → letter ≤ 15 → column ≤ 15 → x ≡ share_at v column letter
      → not (eqb x 0) ≡ has_fractional_plan v column letter
  unfolding has_fractional_plan
  by-share x h k e = rw (le-leb letter 15 h, le-leb column 15 k, ← e)

-- a sample on a fraction
module _ (share before total : ℕ) where
  pub clean-passes : total ≡ 0 → true ≡ fraction_accepts share before total
  clean-passes e = rw e

  pub one-passes : total ≡ 1 → leb share (before + 1) ≡ fraction_accepts share before total
  one-passes e = rw (e, add-one before)

  pub more-fails : (total ≡ 0 → ⊥) → (total ≡ 1 → ⊥) → false ≡ fraction_accepts share before total
  more-fails a b = rw (ne_eqb total 0 a, ne_eqb total 1 b)

pub made : (r : Record) (c : CleanRun) (pe : Bool) → r ≡ fresh pe → c ≡ no_run → supply_of r c ≡ fresh_supply pe
made r c pe e f = rw (e, f)

-- the clean run that a default makes
pub no-run-made : (run letter column : ℕ) → (run ≡ 0) × ((letter ≡ 0) × (column ≡ 0))
    → record { run = run; letter = letter; column = column } ≡ no_run
no-run-made run letter column e = rw (e.0, e.1.0, e.1.1)

-- the run, as far as it is on a plan
module _ (run l k letter column : ℕ) where
  abbrev held : CleanRun
  held = record { run = run; letter = l; column = k }

  pub other-letter : (l ≡ letter → ⊥) → 0 ≡ run_on held letter column
  other-letter h = rw (ne_eqb l letter h)

  pub other-column : l ≡ letter → (k ≡ column → ⊥) → 0 ≡ run_on held letter column
  other-column e h = rw (eq-eqb l letter e, ne_eqb k column h)

  pub same-plan : l ≡ letter → k ≡ column → run ≡ run_on held letter column
  same-plan e f = rw (eq-eqb l letter e, eq-eqb k column f)

module _ (c : CleanRun) (letter column : ℕ) where
  -- one clean sample more
  pub run-of-one : (x : ℕ) → x ≡ run_on c letter column → x ≡ 0
      → record { run = 1; letter = letter; column = column } ≡ longer_run c letter column
  run-of-one x e z = rw (sym e ∙ z)

  pub run-of-two : (x : ℕ) → x ≡ run_on c letter column → (x ≡ 0 → ⊥)
      → record { run = 2; letter = letter; column = column } ≡ longer_run c letter column
  run-of-two x e z =
      ap (λ (k : ℕ). record { run = k; letter = letter; column = column })
      (let n : (run_on c letter column ≡ 0 → ⊥) = λ q. z (e ∙ q) in omega arith)

-- how an original lot counts on a supply, and what it makes of the clean run
module _ (v : ℕ) (c : CleanRun) (o : declared.Origin) where
  pub plain-typed : o ≡ Typed → (l : Lot) → l ≡ lot_on v c (origin_paper o) l
  plain-typed k l = rw k

  pub plain-sampled : o ≡ Sampled → (l : Lot) → l ≡ lot_on v c (origin_paper o) l
  plain-sampled k l = rw k

  pub typed-ends : o ≡ Typed → (x : CleanRun) → x ≡ no_run → x ≡ clean_from v c (origin_paper o)
  typed-ends k x q = rw k q

  pub sampled-ends : o ≡ Sampled → (x : CleanRun) → x ≡ no_run → x ≡ clean_from v c (origin_paper o)
  sampled-ends k x q = rw k q

  module _ (letter column total : ℕ) (k : o ≡ Fraction letter column total) where
    pub not-clean : (x : CleanRun) → (total ≡ 0 → ⊥) → x ≡ no_run → x ≡ clean_from v c (origin_paper o)
    not-clean x z q = rw (k, ne_eqb total 0 z) (q ∙ either (has_fractional_plan v column letter))
      where
        either : (d : Bool) → no_run ≡ cond (d && false) (longer_run c letter column) no_run
        either true = refl
        either false = refl

    module _ (d : Bool) (h : d ≡ has_fractional_plan v column letter) where
      pub on-fraction : (l x : Lot) → d ≡ true
          → x ≡ counted v (fraction_accepts (share_at v column letter) (run_on c letter column) total) add_two
          → x ≡ lot_on v c (origin_paper o) l
      on-fraction l x e q = rw (k, sym h ∙ e) q

      pub off-fraction : (l : Lot) → d ≡ false → l ≡ lot_on v c (origin_paper o) l
      off-fraction l e = rw (k, sym h ∙ e)

      pub clean-longer : (x : CleanRun) → total ≡ 0 → d ≡ true → x ≡ longer_run c letter column
          → x ≡ clean_from v c (origin_paper o)
      clean-longer x z e q = rw (k, sym h ∙ e, z) q

      pub clean-off : (x : CleanRun) → d ≡ false → x ≡ no_run → x ≡ clean_from v c (origin_paper o)
      clean-off x e q = rw (k, sym h ∙ e) q

-- an event, as it counts and by its clean run
module _ (e : events.Event) (o : declared.Origin) (l : lots.Lot) (k : e ≡ event.Lot o l) where
  pub lot-counts : (s : Supply) (m : lots.Lot)
      → lot_paper m ≡ lot_on s.switching.severity s.clean (origin_paper o) (lot_paper l)
      → event_paper (event.Lot o m) ≡ counts_on s (event_paper e)
  lot-counts s m q = rw k (ap (lot (origin_paper o)) q)

  pub lot-cleans : (v : ℕ) (c x : CleanRun) → x ≡ clean_from v c (origin_paper o) → x ≡ clean_by v c (event_paper e)
  lot-cleans v c x q = rw k q

module _ (before after : ℕ) (c : CleanRun) (e : Event) (x : CleanRun) where
  pub same-stay : after ≡ before → x ≡ clean_by before c e → x ≡ clean_after before after c e
  same-stay h q = rw (eq-eqb after before h) q

  pub other-stay : (after ≡ before → ⊥) → x ≡ no_run → x ≡ clean_after before after c e
  other-stay h q = rw (ne_eqb after before h) q

-- the range
module _ (v run letter column : ℕ) where
  abbrev InRange : Bool → Type 0
  InRange d = d ≡ clean_in_range v (record { run = run; letter = letter; column = column })

  pub no-plan : run ≡ 0 → letter ≡ 0 → InRange (eqb column 0)
  unfolding clean_in_range
  no-plan e f = rw (eq-eqb run 0 e, eq-eqb letter 0 f)

  pub stray-letter : run ≡ 0 → (letter ≡ 0 → ⊥) → InRange false
  unfolding clean_in_range
  stray-letter e f = rw (eq-eqb run 0 e, ne_eqb letter 0 f)

  pub run-over : (run ≡ 0 → ⊥) → 2 < run → InRange false
  unfolding clean_in_range
  run-over e f = rw (ne_eqb run 0 e, lt-leb run 2 f)

  pub run_fits : (d : Bool) → (run ≡ 0 → ⊥) → run ≤ 2 → d ≡ has_fractional_plan v column letter → InRange d
  unfolding clean_in_range
  run_fits d e f q = rw (ne_eqb run 0 e, le-leb run 2 f) q

module _ (s : Supply) (t : Bool) (h : t ≡ in_range s.switching) where
  pub both-range : (d : Bool) → t ≡ true → d ≡ clean_in_range s.switching.severity s.clean → d ≡ supply_in_range s
  both-range d e q = rw (sym h ∙ e) q

  pub out-of-range : t ≡ false → false ≡ supply_in_range s
  out-of-range e = rw (sym h ∙ e)

-- what an event makes of a supply
module _ (s : Supply) (e : Event) (t : Bool) (h : t ≡ supply_in_range s) where
  pub moved-out : not t ≡ true → refused unknown_form 0 ≡ moved s e
  moved-out q = rw (sym h ∙ not-true t q)

  module _ (m : Result declared-record.Record Refusal) (x : Event) (counts : x ≡ counts_on s e)
      (stepped : answer_by record_paper m ≡ on_record s.switching (step s.switching x)) (q : not t ≡ false) where
    taken : moved s e
        ≡ and_then (answer_by record_paper m)
        (λ r. given (supply_of r (clean_after s.switching.severity r.severity s.clean e)))
    unfolding move
    taken =
        let both : supply_in_range s ≡ true = sym h ∙ not-false t q in
        let k : step s.switching (counts_on s e) ≡ answer_by record_paper m =
        sym (rw counts at stepped ∙ passes (and-left (in_range s.switching) _ both) _) in
        onward both _
        ∙ ap
        (λ (x : Answer Record).
        and_then x (λ r. given (supply_of r (clean_after s.switching.severity r.severity s.clean e))))
        k
      where
        passes : in_range s.switching ≡ true → (x : Answer Record) → on_record s.switching x ≡ x
        passes i x = rw i

        onward : supply_in_range s ≡ true → (x : Answer Supply) → on_supply s x ≡ x
        onward i x = rw i

    pub moved-refused : (r : Refusal) → m ≡ Err r → refused (number_of r.reason) r.place ≡ moved s e
    moved-refused r f = sym (taken ∙ rw f)

    pub moved-given : (r : declared-record.Record) (c : CleanRun) → m ≡ Ok r
        → c ≡ clean_after s.switching.severity r.severity s.clean e
        → given (supply_of (record_paper r) c) ≡ moved s e
    moved-given r c f g = sym (taken ∙ rw (f, g))

pub ruleset plan_laws = (letter-over, column-over, by-share)

pub ruleset range_laws = (no-plan, stray-letter, run-over, run_fits)
