-- The C terminal's forms lose nothing: a record and its bytes, a refusal and its status, a staged plan and its row.
-- Assumes nothing.
use Prim.Native.Nat.{ℕ, zero, suc, ◌+◌, ◌-◌, ◌/◌, ◌%◌, ◌≤◌, ◌<◌, min}
use mathlib.Core.Path.{◌≡◌, refl, ap, sym, ◌∙◌}
use mathlib.Core.Logic.{◌↔◌}
use mathlib.Core.Bool.{Bool, true, false}
use mathlib.Core.List.{List, [], ◌∷◌, ◌++◌}
use native.Mathlib.Omega.{arith}
use borrow.Author.Tests.{leb-true, eqb-true, le-ltb, lt-ltb}
use lib.Dec.{leb, eqb}
use lib.ListN.{length, get_or, replicate, length-append, length-replicate}
use lib.Seq.{ext_get_or}
use Rattle.rules.specs.Refusals.{Answer, refused, given, buffer_short}
use Rattle.rules.specs.Severity.{figures_in_range}
use Rattle.rules.specs.Supply.{Supply, fresh_supply, supply_in_range}
use Rattle.rules.specs.History.{ours}
use Rattle.rules.specs.Book.{every, seven, staged_of}
use Rattle.rules.specs.Entries.{Asked, staged_plan}
use Rattle.rules.specs.Numbers.{numbers_of}
use Rattle.rules.specs.Staged.{StagedPlan}
use Rattle.rules.specs.Terminal.{status_of, largest_place, wide_status_of, flag, bytes_of, has_form, supply_in}
use Rattle.rules.specs.Terminal.{record_bytes, row_length, row_bytes, into_row}
use Rattle.rules.proofs.Numbers.{bytes-twice, numbers-back}
use Rattle.rules.proofs.Answers.{refused-given}
use Rattle.rules.proofs.Bools.{and-left, and-right}
use Rattle.rules.proofs.Bounded.{by-le}
use Rattle.rules.proofs.HeldStaged.{every-length, every-at}
use Rattle.rules.proofs.GivenPlans.{staged-given}
use Rattle.rules.proofs.Demands.Two.{staged-plan-given}

flag-low : (b : Bool) → leb (flag b) 1 ≡ true
flag-low true = refl
flag-low false = refl

flag-back : (b : Bool) → eqb (flag b) 1 ≡ b
flag-back true = refl
flag-back false = refl

-- A record's bytes have the form, and are read as that record ..
pub bytes-form : (s : Supply) → has_form (bytes_of s) ≡ true
unfolding has_form
bytes-form s = rw (flag-low s.switching.steady, flag-low s.switching.permission)

pub supply-back : (s : Supply) → supply_in (bytes_of s) ≡ s
unfolding supply_in
supply-back s = rw (bytes-form s, flag-back s.switching.steady, flag-back s.switching.permission)

flag-of : (x : ℕ) → leb x 1 ≡ true → flag (eqb x 1) ≡ x
flag-of zero h = refl
flag-of (suc zero) h = refl
flag-of (suc (suc x)) h = absurd (omega (arith, leb-true (suc (suc x)) 1 h))

all-ten : (bytes : List ℕ) → length bytes ≡ 10 → every 0 1 10 bytes ≡ bytes
all-ten bytes h =
    ext_get_or 0 (every 0 1 10 bytes) bytes (every-length 0 1 10 bytes ∙ sym h)
    (λ i l.
    every-at 0 1 10 bytes i (rw (every-length 0 1 10 bytes) at l) ∙ ap (λ (k : ℕ). get_or bytes k 0) (omega arith))

-- .. and bytes of the form are those of the record that they are read as ..
pub bytes-back : (bytes : List ℕ) → has_form bytes ≡ true → bytes_of (supply_in bytes) ≡ bytes
unfolding has_form supply_in every
bytes-back bytes h =
    let low = and-right (eqb (length bytes) 10) _ h in
    rw (
      h,
      flag-of (get_or bytes 5 0) (and-left (leb (get_or bytes 5 0) 1) _ low),
      flag-of (get_or bytes 6 0) (and-right (leb (get_or bytes 5 0) 1) _ low),
    )
    (all-ten bytes (eqb-true (length bytes) 10 (and-left (eqb (length bytes) 10) _ h)))

-- .. others are read as a record out of range.
pub form-missing : (bytes : List ℕ) → has_form bytes ≡ false → supply_in_range (supply_in bytes) ≡ false
unfolding supply_in figures_in_range
form-missing bytes h = rw h

-- A status is 0 exactly where something is given; document 01's numbers are 1 to 12.
pub status-given : {A : Type 0} (x : Answer A) → ((n p : ℕ) → x ≡ refused n p → 0 < n)
    → (status_of x ≡ 0) ↔ ((a : A) × (x ≡ given a))
status-given (refused n p) numbered = (
  λ e. absurd (omega (arith, numbered n p refl)),
  λ g. absurd (refused-given g.1),
)
status-given (given a) numbered = (λ e. (a, refl), λ g. refl)

-- Of a refusal both the number and the place can be told from it.
pub status-refused : {A : Type 0} (x : Answer A) (n p : ℕ) → n < 256 → x ≡ refused n p
    → (status_of x % 256 ≡ n) × (status_of x / 256 ≡ p)
status-refused x n p h e = rw e (omega arith, omega arith)

-- The same of the 64-bit status of a list; a place that 56 bits hold can be told from it.
pub wide-given : {A : Type 0} (x : Answer A) → ((n p : ℕ) → x ≡ refused n p → 0 < n)
    → (wide_status_of x ≡ 0) ↔ ((a : A) × (x ≡ given a))
wide-given (refused n p) numbered = (
  λ e. absurd (omega (arith, numbered n p refl)),
  λ g. absurd (refused-given g.1),
)
wide-given (given a) numbered = (λ e. (a, refl), λ g. refl)

pub wide-refused : {A : Type 0} (x : Answer A) (n p : ℕ) → n < 256 → x ≡ refused n p
    → (wide_status_of x % 256 ≡ n) × (wide_status_of x / 256 ≡ min p largest_place)
wide-refused x n p h e = rw e (omega arith, omega arith)

-- A staged plan's row has 42 bytes, and its numbers are read back from it.
pub row-length : (p : StagedPlan) → length p.sizes ≡ 7 → length p.acs ≡ 7 → length p.res ≡ 7
    → length (row_bytes p) ≡ row_length
row-length p a b c =
    omega (
      arith,
      bytes-twice (p.sizes ++ (p.acs ++ p.res)),
      length-append p.sizes (p.acs ++ p.res),
      length-append p.acs p.res,
    )

pub row-back : (p : StagedPlan) → numbers_of (row_bytes p) ≡ p.sizes ++ (p.acs ++ p.res)
row-back p = numbers-back (p.sizes ++ (p.acs ++ p.res))

-- A row is given exactly where the plan is and the row has room, and 11 comes after every refusal of the plan.
module _ {A : Type 0} (room : ℕ) where
  pub row-given : (a : Answer A) (x : A) → (into_row room a ≡ given x) ↔ ((a ≡ given x) × (row_length ≤ room))
  row-given (refused n p) x = (λ e. absurd (refused-given e), λ h. h.0)
  row-given (given y) x =
      by-le row_length room
      (λ h. rw (le-ltb room row_length h) (λ e. (e, h), λ g. g.0))
      (λ h. rw (lt-ltb room row_length h) (λ e. absurd (refused-given e), λ g. absurd (omega (arith, g.1))))

  pub row-short : (a : Answer A) (x : A) → a ≡ given x → room < row_length → into_row room a ≡ refused buffer_short 0
  row-short a x e h = rw (e, lt-ltb room row_length h)

  pub row-refused : (a : Answer A) (n p : ℕ) → a ≡ refused n p → into_row room a ≡ refused n p
  row-refused a n p e = rw e

-- Every plan that a book supplies has seven places of each, and so a row of 42 bytes.
pub given-row : (q : Asked) (book : List ℕ) (p : StagedPlan) → staged_plan q book ≡ given p
    → length (row_bytes p) ≡ row_length
given-row q book p h =
    let s = (staged-plan-given q book p).0 h in
    let few = (staged-given q book p h).few.1 in
    let m = get_or s.entry 3 0 in
    let at : staged_of s.entry ≡ p = s.is-plan in
    let k : m ≤ 7 = rw (← at) at few in
    rw (← at)
    (row-length (staged_of s.entry) (seven-long 4 1 m s.entry k) (seven-long (4 + m) 2 m s.entry k)
    (seven-long (5 + m) 2 m s.entry k))
  where
    seven-long : (from by m : ℕ) (e : List ℕ) → m ≤ 7 → length (seven (every from by m e)) ≡ 7
    seven-long from by m e k =
        omega (
          arith,
          length-append (every from by m e) (replicate (7 - length (every from by m e)) 0),
          length-replicate {A = ℕ} (7 - length (every from by m e)) 0,
          every-length from by m e,
        )

-- A record's bytes in their order: severity, score, run, count, window, steady, permission, clean run, letter, column.
pub bytes-in-order : bytes_of
    (record {
      switching =
          record { severity = 1; score = 2; run = 3; count = 4; window = 5; steady = true; permission = false };
      clean = record { run = 6; letter = 7; column = 8 };
    })
    ≡ 1 ∷ 2 ∷ 3 ∷ 4 ∷ 5 ∷ 1 ∷ 0 ∷ 6 ∷ 7 ∷ 8 ∷ []
bytes-in-order = refl

-- Ten zero bytes are the fresh record.
pub zero-bytes-fresh : supply_in (replicate record_bytes 0) ≡ fresh_supply ours.permission
unfolding supply_in has_form
zero-bytes-fresh = refl
