-- The documents' values for each case of the code's types, and what a look-up promises. Definitions only.
use Rattle.std.specs.Prelude.{ℕ, Bool, cond, List, drop}
use Rattle.refusals.specs.declared.Refusal.{Refusal}
use Rattle.refusals.specs.Paper.{number_of}
use Rattle.rules.specs.Refusals.{Answer, refused, given, first_of, and_then}
use Rattle.rules.specs.Codes.{letter_of}
use Rattle.rules.specs.Numbers.{numbers_of}
use Rattle.rules.specs.Variables as variables
use Rattle.rules.specs.Book.{Kind, check_book, on_sound}
use Rattle.rules.specs.Layout.{entry_of}
use Rattle.rules.specs.Entries.{Asked, asked_checks, unless_above, variables_section, sigma_section}
use Rattle.rules.specs.Entries as rules
use Rattle.entry.specs.declared.VariablesPlan.{VariablesPlan}
use Rattle.entry.specs.Paper.{variables_paper}
use Rattle.book.specs.Places.{place_held}
use Rattle.choosing.specs.declared.Lettered.{Lettered}

-- a refusal by itself, by its number and place
abbrev pub refusal_paper : Refusal → Answer (Unit {0})
refusal_paper r = refused (number_of r.reason) r.place

-- a plan with its letter, by the plan's own paper
abbrev pub lettered_by : {P A : Type 0} → (P → A) → Lettered P → rules.Lettered A
lettered_by plan_of x = record { letter = x.letter; plan = plan_of x.plan }

-- .. and without its letter
abbrev pub plan_alone : Lettered VariablesPlan → variables.VariablesPlan
plan_alone x = variables_paper x.plan

-- Table 1's letter, and the place of the entry under the lot's key in a section: 12 first, then the lot's own refusals
abbrev pub place_for : ℕ → Asked → List ℕ → Answer (rules.Lettered ℕ)
place_for section q book =
    on_sound (check_book book)
    (first_of (asked_checks q)
    (and_then (place_held section q.severity (letter_of q.size q.level) q.column book)
    (λ p. given (record { letter = letter_of q.size q.level; plan = p }))))

-- The plan of the entry at a place that was found, with its letter, where it is not above the lot.
abbrev pub plan_at : {P : Type 0} → Kind → (List ℕ → P) → (P → ℕ) → ℕ → List ℕ → rules.Lettered ℕ
    → Answer (rules.Lettered P)
plan_at k of need size book x =
    let plan = of (entry_of k (drop x.plan (numbers_of book))) in
    and_then (unless_above size (need plan) plan) (λ p. given (record { letter = x.letter; plan = p }))

-- the section that has the plans of a method
abbrev pub section_if : Bool → ℕ
section_if known = cond known sigma_section variables_section
