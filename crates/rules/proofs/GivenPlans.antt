-- The plans that entries give: each has what the rules of its section give.
-- Assumes nothing.
use Prim.Native.Nat.{ℕ, suc, ◌≤◌, ◌<◌}
use mathlib.Core.Path.{◌≡◌, refl, sym, ap, subst}
use mathlib.Core.Bool.{Bool, true, false, ◌&&◌}
use mathlib.Core.List.{List, [], ◌∷◌}
use native.Mathlib.Omega.{arith}
use borrow.Author.Tests.{eqb-true, eqb-false}
use lib.ListN.{length, get_or, take}
use lib.Dec.{T, leb, eqb, leb→le}
use Rattle.rules.specs.Refusals.{given}
use Rattle.rules.specs.Codes.{letter_of, reduced}
use Rattle.rules.specs.Book.{sound, check_book, kinds, kind_at, found}
use Rattle.rules.specs.Book.{staged, sequential, staged_of, sequential_of, variables_of}
use Rattle.rules.specs.Book.{key_of, key_for}
use Rattle.rules.specs.Numbers.{numbers_of, sum_of}
use Rattle.rules.specs.Layout.{EntryIn}
use Rattle.rules.specs.Single.{Plan, Box, ac_of, sizes, table_plan, Landing, landed, landing_of, plan_at, box_at}
use Rattle.rules.specs.Fractional.{FractionalPlan}
use Rattle.rules.specs.Verdict.{Verdict, goes_on}
use Rattle.rules.specs.Staged.{StagedPlan, stages_of, total_size, stage_at, stage_decides}
use Rattle.rules.specs.Sequential.{SequentialPlan, judge_sequence}
use Rattle.rules.specs.Variables.{VariablesPlan}
use Rattle.rules.specs.Entries.{Asked, staged_plan, sequential_plan}
use Rattle.rules.specs.Limits.{Spread, estimated, known, SidesPlan, side_of}
use Rattle.rules.specs.Entries.{looked_up, under_column, readings_plan, sides_plan, section_for, staged_section}
use Rattle.rules.specs.Entries.{sigma_section}
use Rattle.rules.specs.Entries.{reduced_section, sequential_section, variables_section, single_plan}
use Rattle.rules.specs.Entries.{reduced_plan, in_fractions, fractional_plan}
use Rattle.rules.specs.Judging.{size_of_first}
use Rattle.rules.specs.Planning.{Plannable, UnderKey, SinglePlanned, Supplies, SidesSupplied}
use Rattle.rules.specs.PlanRules.{Held}
use Rattle.rules.proofs.Answers.{then-given}
use Rattle.rules.proofs.Fractions.{InMode, whole, fraction, in-mode}
use Rattle.rules.proofs.Bounded.{by-le, all, all-at, all-at₃, both_left, both-right}
use Rattle.rules.proofs.Landing.{landing-letter, landing-box}
use Rattle.rules.proofs.Tables.{letter-within}
use Rattle.rules.proofs.Deciding.{never-runs-out, never-past, sequence-decided}
use Rattle.rules.proofs.Demands.Two.{staged-plan-given, sequential-plan-given, readings-plan-given}
use Rattle.rules.proofs.Demands.Limits.{sides-plan-given}
use Rattle.rules.proofs.Demands.Two.{single-plan-given}
use Rattle.rules.proofs.LookUp.{found-in, found-under, found-held, entry-in-found}
use Rattle.rules.proofs.HeldPlans.{SingleRight, cut-fits, reduced-held}
use Rattle.rules.proofs.HeldPlans.{SequentialRight, sequential-held, VariablesRight, variables-held}
use Rattle.rules.proofs.HeldStaged.{StagedRight, staged-held, staged-decides}

-- an entry of a sound book under the key of a lot that can be planned, and not above it, supplies the plan
supplies : {P : Type 0} (j : ℕ) (needed : List ℕ → ℕ) (plan_of : List ℕ → P) (q : Asked) (book : List ℕ)
    → j < length kinds → check_book book ≡ sound → Plannable q → (e : List ℕ) → EntryIn j (numbers_of book) e
    → key_of (kind_at j) e ≡ key_for (kind_at j) q.severity (letter_of q.size q.level) q.column
    → needed e ≤ q.size → Supplies j needed plan_of q book (plan_of e)
supplies j needed plan_of q book inside good lot e x u fits =
    record {
      book-sound = good;
      lot = lot;
      entry = e;
      under-key =
          entry-in-found book good j inside q.severity (letter_of q.size q.level) q.column e x u;
      within-lot = fits;
      is-plan = refl;
    }

-- A lot that can be planned, of severity, Table 1 letter and column, and an entry of a sound book.
module _ (q : Asked) (book : List ℕ) (good : check_book book ≡ sound) (lot : Plannable q) (e : List ℕ) where
  -- Under reduced inspection a single plan is given, cut to the lot: no entry is above it.
  pub reduced-supplies : q.severity ≡ reduced → EntryIn reduced_section (numbers_of book) e
      → take 2 e ≡ letter_of q.size q.level ∷ q.column ∷ [] → single_plan q book ≡ given (reduced_plan q e)
  reduced-supplies s x u =
      (single-plan-given q book (reduced_plan q e)).1
      (record {
        book-sound = good;
        lot = lot;
        from-book =
            λ r. (
              e,
              entry-in-found book good reduced_section (omega arith) q.severity (letter_of q.size q.level)
                  q.column e x u,
              refl,
            );
        from-tables = λ r. absurd (r s);
      })

  -- A staged or sequential plan, or one for readings, is given where it is not above the lot.
  pub staged-supplies : EntryIn staged_section (numbers_of book) e → UnderKey q e
      → total_size (stages_of (staged_of e)) ≤ q.size → staged_plan q book ≡ given (staged_of e)
  staged-supplies x u fits =
      (staged-plan-given q book (staged_of e)).1
      (supplies staged_section _ staged_of q book (omega arith) good lot e x u fits)

  pub sequential-supplies : EntryIn sequential_section (numbers_of book) e → UnderKey q e
      → (sequential_of e).nt ≤ q.size
      → sequential_plan q book ≡ given (sequential_of e)
  sequential-supplies x u fits =
      (sequential-plan-given q book (sequential_of e)).1
      (supplies sequential_section _ sequential_of q book (omega arith) good lot e x u fits)

  pub readings-supplies : (m : Spread) → EntryIn (section_for m) (numbers_of book) e → UnderKey q e
      → (variables_of e).n ≤ q.size → readings_plan (section_for m) q book ≡ given (variables_of e)
  readings-supplies estimated x u fits =
      (readings-plan-given q book variables_section (variables_of e)).1
      (supplies variables_section _ variables_of q book (omega arith) good lot e x u fits)
  readings-supplies (known sigma) x u fits =
      (readings-plan-given q book sigma_section (variables_of e)).1
      (supplies sigma_section _ variables_of q book (omega arith) good lot e x u fits)

-- the entry that supplies a plan could be held
supplied-held : {P : Type 0} (j : ℕ) (needed : List ℕ → ℕ) (plan_of : List ℕ → P) (q : Asked) (book : List ℕ) (p : P)
    → j < length kinds → (s : Supplies j needed plan_of q book p) → Held (kind_at j) s.entry
supplied-held j needed plan_of q book p inside s =
    found-held book s.book-sound j inside q.severity (letter_of q.size q.level) q.column s.entry
    s.under-key

module _ (q : Asked) (book : List ℕ) where
  pub staged-given : (p : StagedPlan) → staged_plan q book ≡ given p
      → StagedRight p
  staged-given p h =
      let s = (staged-plan-given q book p).0 h in
      let k : Held staged s.entry = supplied-held staged_section _ staged_of q book p (omega arith) s in
      rw (← s.is-plan) (staged-held s.entry k)

  -- the last stage decides, so that no sample on such a plan runs past its stages
  pub staged-in-time : (p : StagedPlan) → staged_plan q book ≡ given p → (xs : List ℕ)
      → ((i : ℕ) → i < p.stages → stage_decides (stage_at p i) (sum_of (take (size_of_first (suc i) p) xs)) ≡ goes_on)
      → ⊥
  staged-in-time p h =
      let r = staged-given p h in
      never-runs-out p (omega (arith, r.few.0)) (staged-decides p r)

  pub sequential-given : (p : SequentialPlan) → sequential_plan q book ≡ given p
      → SequentialRight p
  sequential-given p h =
      let s = (sequential-plan-given q book p).0 h in
      let k : Held sequential s.entry = supplied-held sequential_section _ sequential_of q book p (omega arith) s in
      rw (← s.is-plan) (sequential-held s.entry k)

  -- nt decides at the latest, so that no sample on such a plan uses more items
  pub sequential-in-time : (p : SequentialPlan) → sequential_plan q book ≡ given p → (sample : List ℕ) (v : Verdict)
      → judge_sequence p sample ≡ given v → v.used ≤ p.nt
  sequential-in-time p h sample v j =
      never-past p (sequential-given p h).nt.0 sample v ((sequence-decided p sample v).0 j)

  -- for readings, by either method
  entry-right : (m : Spread) (c : ℕ) (e : List ℕ) → check_book book ≡ sound
      → looked_up (section_for m) (under_column q c) book ≡ found e → VariablesRight (variables_of e)
  entry-right estimated c e good f =
      variables-held e
      (found-held book good variables_section (omega arith) q.severity (letter_of q.size q.level) c e f)
  entry-right (known sigma) c e good f =
      variables-held e
      (found-held book good sigma_section (omega arith) q.severity (letter_of q.size q.level) c e f)

  pub readings-given : (m : Spread) (p : VariablesPlan) → readings_plan (section_for m) q book ≡ given p
      → VariablesRight p
  readings-given m p h =
      let s = (readings-plan-given q book (section_for m) p).0 h in
      rw (← s.is-plan) (entry-right m q.column s.entry s.book-sound s.under-key)

  -- .. and for two limits, on each side
  pub sides-given : (m : Spread) (lower : ℕ) (p : SidesPlan) → sides_plan (section_for m) q lower book ≡ given p
      → (upper : Bool) → VariablesRight (side_of upper p)
  sides-given m lower p h upper =
      let s = (sides-plan-given (section_for m) q lower book p).0 h in
      rw (← s.is-plan)
      (on upper s
      (entry-right m q.column s.upper-entry s.book-sound s.upper-under-key)
      (entry-right m lower s.lower-entry s.book-sound s.lower-under-key))
    where
      on : (upper : Bool) (s : SidesSupplied (section_for m) q lower book p)
          → VariablesRight (variables_of s.upper-entry)
          → VariablesRight (variables_of s.lower-entry)
          → VariablesRight
          (side_of upper
          (record {
            n = (variables_of s.upper-entry).n;
            upper_k = (variables_of s.upper-entry).k;
            lower_k = (variables_of s.lower-entry).k;
          }))
      on true s u l = u
      on false s u l =
          record { two = u.two; fifty = u.fifty; some = l.some; high = l.high }

-- the plans of the tables: sizes 2 to 3,150, and Ac at most 44
in_table : ℕ → Bool
in_table letter = leb 1 (get_or sizes letter 0) && leb (get_or sizes letter 0) 3150

all-in-table : T (all 17 in_table)
unfolding in_table
all-in-table = tt

ac_below : ℕ → ℕ → ℕ → Bool
ac_below severity column letter = leb (ac_of (box_at severity column letter)) 65534

ac-all : T (all 2 (λ severity. all 26 (λ column. all 17 (ac_below severity column))))
unfolding ac_below box_at
ac-all = tt

-- a plan at a letter, cut to the lot
letter-right : (size letter ac : ℕ) → 2 ≤ size → letter < 17 → ac ≤ 65534
    → SingleRight (plan_at size (landed letter ac))
unfolding in_table
letter-right size letter ac z l low =
    let t = all-at 17 in_table all-in-table letter l in
    record {
      some = leb→le 1 (get_or sizes letter 0) (both_left (leb 1 (get_or sizes letter 0)) _ t);
      few = leb→le (get_or sizes letter 0) 3150 (both-right (leb 1 (get_or sizes letter 0)) _ t);
      ac = low;
      sizes = cut-fits size letter (get_or sizes letter 0) ac z;
    }

table-right : (q : Asked) → q.severity < 2 → 2 ≤ q.size → q.column < 26
    → SingleRight (table_plan q.severity q.size q.level q.column)
unfolding table_plan ac_below
table-right q s z c =
    let letter : ℕ = letter_of q.size q.level in
    let l : letter < 16 = letter-within q.size q.level in
    let at : Landing = landing_of q.severity q.column letter in
    let there : at.letter < 17 = omega (arith, landing-letter q.severity q.column letter s c l) in
    let low : ac_of (box_at q.severity q.column at.letter) ≤ 65534 =
    leb→le _ 65534 (all-at₃ 2 26 17 ac_below ac-all q.severity q.column at.letter s c there) in
    letter-right q.size at.letter at.ac z there
    (subst (λ (b : Box). ac_of b ≤ 65534) (landing-box q.severity q.column letter s c l) low)

-- a single plan, of a table or of the book
pub single-given : (q : Asked) (book : List ℕ) (p : Plan) → single_plan q book ≡ given p
    → SingleRight p
single-given q book p h = go (eqb q.severity reduced) refl
  where
    s : SinglePlanned q book p
    s = (single-plan-given q book p).0 h

    go : (t : Bool) → eqb q.severity reduced ≡ t → SingleRight p
    go true t =
        let b = s.from-book (eqb-true q.severity reduced t) in
        let k = found-held book s.book-sound reduced_section (omega arith) q.severity
        (letter_of q.size q.level) q.column b.0 b.1 in
        rw (← b.2) (reduced-held q s.lot.size b.0 k)
    go false t =
        let other : q.severity ≡ reduced → ⊥ = eqb-false q.severity reduced t in
        let low : q.severity < 2 =
        by-le 2 q.severity (λ l. absurd (other (omega (arith, s.lot.severity)))) (λ l. l) in
        rw (← s.from-tables other) (table-right q low s.lot.size s.lot.column)

-- .. and in the mode of fractions
pub fractional-given : (q : Asked) (book : List ℕ) (p : FractionalPlan) → fractional_plan q book ≡ given p
    → SingleRight p.plan
unfolding fractional_plan
fractional-given q book p h =
    let x = then-given (single_plan q book) (in_fractions q) p h in
    go (single-given q book x.0 x.1) ((single-plan-given q book x.0).0 x.1).lot.size
    (in-mode q x.0 p x.2)
  where
    go : {plan : Plan} → SingleRight plan → 2 ≤ q.size → InMode q plan p → SingleRight p.plan
    go r z (whole none e) = rw (← e) r
    go r z (fraction own few e) =
        rw (← e)
        (letter-right q.size (letter_of q.size q.level) 0 z
        (omega (arith, letter-within q.size q.level)) (omega arith))

-- A single plan's size, before it is cut, and its Ac are those of the letter where the arrows end, or under reduced
-- inspection of the entry under the key.
module _ (q : Asked) (book : List ℕ) (p : Plan) (h : single_plan q book ≡ given p) where
  planned : SinglePlanned q book p
  planned = (single-plan-given q book p).0 h

  pub table-figures : (q.severity ≡ reduced → ⊥)
      → let l = landing_of q.severity q.column (letter_of q.size q.level) in
      (p.letter ≡ l.letter) × (p.table_n ≡ get_or sizes l.letter 0) × (p.ac ≡ l.ac)
  unfolding table_plan
  table-figures other =
      let e = sym (planned.from-tables other) in (
        ap (λ (x : Plan). x.letter) e,
        ap (λ (x : Plan). x.table_n) e,
        ap (λ (x : Plan). x.ac) e,
      )

  pub reduced-figures : q.severity ≡ reduced
      → (e : List ℕ) × EntryIn reduced_section (numbers_of book) e
      × (take 2 e ≡ letter_of q.size q.level ∷ q.column ∷ [])
      × (p.letter ≡ letter_of q.size q.level) × (p.table_n ≡ get_or e 2 0) × (p.ac ≡ get_or e 3 0)
  reduced-figures s =
      let b = planned.from-book s in
      let good = planned.book-sound in (
        b.0,
        found-in book good reduced_section (omega arith) q.severity (letter_of q.size q.level) q.column
            b.0 b.1,
        found-under book good reduced_section (omega arith) q.severity (letter_of q.size q.level) q.column
            b.0 b.1,
        sym (ap (λ (x : Plan). x.letter) b.2),
        sym (ap (λ (x : Plan). x.table_n) b.2),
        sym (ap (λ (x : Plan). x.ac) b.2),
      )
