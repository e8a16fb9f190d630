-- Document 02, T-01: "The supply record must carry the clean run, held at 2, with the plan it belongs to". A supply is
-- the record of document 01 beside its clean run, each with its own step. Definitions only.
use Rattle.std.specs.Prelude.{ℕ, suc, min, Bool, cond, ◌&&◌, leb, eqb}
use Rattle.rules.specs.Refusals.{Answer, given, and_then}
use Rattle.rules.specs.Severity.{Lot, add_two, Origin, typed, sampled, on_fraction, Event, lot, resubmitted}
use Rattle.rules.specs.Severity.{steady_is, permission_is, corrective, unknown, Record, fresh, step, in_range}
use Rattle.rules.specs.Severity.{counted}
use Rattle.rules.specs.Fractional.{share_at, has_fractional_plan, fraction_accepts}

-- How many of the newest original lots of this stay were clean on one fractional plan, held at 2, and that plan: its
-- letter and column, at the record's severity.
pub record CleanRun : Type 0 where
  pub run : ℕ
  pub letter : ℕ
  pub column : ℕ

abbrev pub no_run : CleanRun
no_run = record { run = 0; letter = 0; column = 0 }

pub record Supply : Type 0 where
  pub switching : Record
  pub clean : CleanRun

abbrev pub supply_of : Record → CleanRun → Supply
supply_of r c = record { switching = r; clean = c }

abbrev pub fresh_supply : Bool → Supply
fresh_supply pe = supply_of (fresh pe) no_run

-- "all on the same plan (severity, letter, column)": the run as far as it is on this plan
abbrev pub run_on : CleanRun → ℕ → ℕ → ℕ
run_on c letter column = cond (eqb c.letter letter && eqb c.column column) c.run 0

-- a clean sample more: "held at 2"; "a clean sample on the new fractional plan then makes the run 1"
abbrev pub longer_run : CleanRun → ℕ → ℕ → CleanRun
longer_run c letter column = record { run = min 2 (suc (run_on c letter column)); letter = letter; column = column }

-- How an original lot counts on a supply: on a fraction by the clean run, whatever it was handed over as. "For the
-- score such a plan counts as Ac 0." One whose plan is no fraction at this severity counts as it is.
abbrev pub lot_on : ℕ → CleanRun → Origin → Lot → Lot
lot_on severity c typed l = l
lot_on severity c sampled l = l
lot_on severity c (on_fraction letter column total) l =
    cond (has_fractional_plan severity column letter)
    (counted severity (fraction_accepts (share_at severity column letter) (run_on c letter column) total) add_two)
    l

abbrev pub counts_on : Supply → Event → Event
counts_on s (lot o l) = lot o (lot_on s.switching.severity s.clean o l)
counts_on s resubmitted = resubmitted
counts_on s (steady_is b) = steady_is b
counts_on s (permission_is b) = permission_is b
counts_on s corrective = corrective
counts_on s unknown = unknown

-- What an original lot makes of the clean run: "both become 0 at a change of plan .., a sample not clean, or an
-- original lot entered as a history byte"
abbrev pub clean_from : ℕ → CleanRun → Origin → CleanRun
clean_from severity c typed = no_run
clean_from severity c sampled = no_run
clean_from severity c (on_fraction letter column total) =
    cond (has_fractional_plan severity column letter && eqb total 0) (longer_run c letter column) no_run

-- "resubmitted lots don't touch it", nor does an order
abbrev pub clean_by : ℕ → CleanRun → Event → CleanRun
clean_by severity c (lot o l) = clean_from severity c o
clean_by severity c resubmitted = c
clean_by severity c (steady_is b) = c
clean_by severity c (permission_is b) = c
clean_by severity c corrective = c
clean_by severity c unknown = c

-- "both become 0 at a change of .. severity", by the lot that changes it too
abbrev pub clean_after : ℕ → ℕ → CleanRun → Event → CleanRun
clean_after before after c e = cond (eqb after before) (clean_by before c e) no_run

-- What an event makes of a supply.
unfoldable pub move : Supply → Event → Answer Supply
move s e =
    and_then (step s.switching (counts_on s e))
    (λ t. given (supply_of t (clean_after s.switching.severity t.severity s.clean e)))

-- "1 also when a lent record's clean run is over 2, or its plan is no fractional box of its severity beside a run of 1
-- or 2, or not 0 beside a run of 0"
unfoldable pub clean_in_range : ℕ → CleanRun → Bool
clean_in_range severity c =
    cond (eqb c.run 0)
    (eqb c.letter 0 && eqb c.column 0)
    (leb c.run 2 && has_fractional_plan severity c.column c.letter)

abbrev pub supply_in_range : Supply → Bool
supply_in_range s = in_range s.switching && clean_in_range s.switching.severity s.clean
