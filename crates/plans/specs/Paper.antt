-- Document 01's numbers and values for each case of the code's types. Definitions only.
use Rattle.std.specs.Prelude.{ℕ, ◌≡◌, List, leb, find, unwrap_or, option_map}
use Rattle.rules.specs.Refusals.{given}
use Rattle.rules.specs.Codes.{normal, tightened, letter_of}
use Rattle.plans.specs.declared.Asked.{Asked}
use Rattle.plans.specs.declared.SinglePlan.{SinglePlan}
use Rattle.plans.specs.declared.FractionalPlan.{FractionalPlan}
use Rattle.plans.specs.declared.Verdict.{Verdict}
use Rattle.plans.specs.declared.Judged.{Judged}
use Rattle.plans.specs.declared.TheConstants.{ABOVE}
use Rattle.plans.specs.declared.SizeRow.{SizeRow}
use Rattle.plans.specs.declared.Table.{Table}
use Rattle.plans.specs.declared.Table.TheVariants as tables
use Rattle.rules.specs.Verdict as rules
use Rattle.rules.specs.Single as paper
use Rattle.rules.specs.Fractional as fractional
use Rattle.rules.specs.Entries as entries

abbrev pub asked_paper : Asked → entries.Asked
asked_paper q = record { severity = q.severity; size = q.size; level = q.level; column = q.column }

abbrev pub plan_paper : SinglePlan → paper.Plan
plan_paper p = record { letter = p.letter; n = p.n; ac = p.ac; table_n = p.table_n; cut = p.cut }

-- the same in the mode of fractions
abbrev pub fractional_paper : FractionalPlan → fractional.FractionalPlan
fractional_paper p = fractional.plan_of_share (plan_paper p.plan) p.share

abbrev pub verdict_paper : Verdict → rules.Verdict
verdict_paper v =
    record { accepted = v.accepted; used = v.used; total = v.total; stage = v.stage; stages = v.stages }

-- a plan, by its own paper, and the verdict on it
abbrev pub judged_by : {P A : Type 0} → (P → A) → Judged P → rules.Judged A rules.Verdict
judged_by plan_of j = record { plan = plan_of j.plan; verdict = verdict_paper j.verdict }

-- the letters of the first of the code's rows that goes up to the size
abbrev pub letters_in : List SizeRow → ℕ → List ℕ
letters_in rows size = unwrap_or (option_map (λ row. row.1) (find (λ row. leb size row.0) rows)) ABOVE.1

abbrev pub severity_of : Table → ℕ
severity_of tables.Normal = normal
severity_of tables.Tightened = tightened

-- The place of a lot in the master tables: by its Table 1 letter, which leads to its plan.
pub record PlaceOf (q : entries.Asked) (severity column letter : ℕ) : Type 0 where
  pub severity-same : severity ≡ q.severity
  pub column-same : column ≡ q.column
  pub by-letter : letter ≡ letter_of q.size q.level
  pub planned : entries.plain_plan q ≡ given (paper.plan_at q.size (paper.landing_of severity column letter))
