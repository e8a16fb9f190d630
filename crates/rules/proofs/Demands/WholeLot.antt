-- Document 02, T-05: every plan that is given tells the table's own size, and whether the size was cut to the lot;
-- everything that takes a plan passes both on; lotlog prints a W exactly on the lines of lots that are inspected whole.
-- Assumes nothing.
use Prim.Native.Nat.{ℕ, zero, suc, ◌+◌}
use mathlib.Core.Path.{◌≡◌, refl, sym, ap, subst, ◌∙◌}
use mathlib.Core.Logic.{◌↔◌}
use mathlib.Core.Bool.{Bool, true, false, cond, false≢true}
use mathlib.Core.List.{List, [], ◌∷◌, ◌++◌, append-nil, append_assoc}
use native.Mathlib.Omega.{arith}
use borrow.Author.Tests.{eqb-true, eqb-false, eq-eqb, ne_eqb}
use lib.Dec.{eqb}
use lib.ListN.{get_or}
use Rattle.rules.specs.Ascii.{ascii}
use Rattle.rules.specs.Refusals.{Answer, refused, given, unknown_form}
use Rattle.rules.specs.Codes.{reduced, letter_of, letter_names}
use Rattle.rules.specs.Numbers.{numbers_of, half_left}
use Rattle.rules.specs.Verdict.{Verdict, Judged}
use Rattle.rules.specs.Single.{Plan, sizes, table_plan, judge_items}
use Rattle.rules.specs.Curtailed.{judge_until_lost, curtailed_from}
use Rattle.rules.specs.Fractional.{FractionalPlan}
use Rattle.rules.specs.Severity.{Record}
use Rattle.rules.specs.Supply.{Supply}
use Rattle.rules.specs.History.{Work}
use Rattle.rules.specs.Entries.{Asked, Offered, Closed, asked_on, looked_up, reduced_section, next, single_event}
use Rattle.rules.specs.Entries.{single_plan, plain_plan, curtailed_plan, in_fractions, fractional_plan}
use Rattle.rules.specs.Entries.{single_sample, curtailed_sample, judge_single, judge_curtailed, judge_fractional}
use Rattle.rules.specs.Entries.{judge_total, close_single, close_curtailed, close_fractional, close_total}
use Rattle.rules.specs.Log.{Line, lot_line, order_line, unknown_line, split_at, space, newline, line_of, decimal}
use Rattle.rules.specs.Log.{letter_name, severity_name, verdict_name, cut_mark, size_text, printed, refused_line}
use Rattle.rules.specs.Log.{lot_text, order_text, logged_lot, logged_order, logged_as, logged_line}
use Rattle.rules.specs.Planning.{SinglePlanned, own_share}
use Rattle.rules.specs.WholeLot.{table_size, entry_size, single_size, size_in_mode, SizeTold, has_byte, letter_w}
use Rattle.rules.specs.WholeLot.{CutLine}
use Rattle.rules.proofs.Answers.{then-given}
use Rattle.rules.proofs.Fractions.{InMode, whole, fraction, in-mode}
use Rattle.rules.proofs.HeldPlans.{size-told}
use Rattle.rules.proofs.TextBytes.{past, split-past, no-digit, name-without}
use Rattle.rules.proofs.Demands.Two as two
use Rattle.rules.proofs.Demands.Curtailed as curtailed
use Rattle.rules.proofs.Demands.Fractional as fractions

-- 1. Every plan that is given: of the tables, of the book, and in the mode of fractions.
module _ (q : Asked) where
  tables-told : SizeTold q.size (table_size q) (table_plan q.severity q.size q.level q.column)
  unfolding table_plan
  tables-told = size-told q.size _ (table_size q) _

  pub plain-size : (p : Plan) → plain_plan q ≡ given p → SizeTold q.size (table_size q) p
  plain-size p h = subst (SizeTold q.size (table_size q)) ((two.plain-plan-given q p).0 h).is-plan tables-told

  module _ (book : List ℕ) where
    pub curtailed-size : (p : Plan) → curtailed_plan q book ≡ given p → SizeTold q.size (table_size q) p
    curtailed-size p h =
        subst (SizeTold q.size (table_size q)) ((curtailed.curtailed-plan-given q book p).0 h).planned.is-plan
        tables-told

    pub single-size : (p : Plan) → single_plan q book ≡ given p → SizeTold q.size (single_size q book) p
    single-size p h = on (eqb q.severity reduced) refl
      where
        planned : SinglePlanned q book p
        planned = (two.single-plan-given q book p).0 h

        on : (t : Bool) → eqb q.severity reduced ≡ t
            → SizeTold q.size (cond t (entry_size (looked_up reduced_section q book)) (table_size q)) p
        on true t =
            let b = planned.from-book (eqb-true q.severity reduced t) in
            rw b.1 (subst (SizeTold q.size (get_or b.0 2 0)) b.2 (size-told q.size _ (get_or b.0 2 0) _))
        on false t =
            subst (SizeTold q.size (table_size q)) (planned.from-tables (eqb-false q.severity reduced t))
            tables-told

    pub fractional-size : (p : FractionalPlan) → fractional_plan q book ≡ given p
        → SizeTold q.size (size_in_mode q book) p.plan
    unfolding fractional_plan
    fractional-size p h =
        let x = then-given (single_plan q book) (in_fractions q) p h in
        on x.0 (single-size x.0 x.1) (in-mode q x.0 p x.2)
      where
        on : (plan : Plan) → SizeTold q.size (single_size q book) plan → InMode q plan p
            → SizeTold q.size (size_in_mode q book) p.plan
        on plan t (whole none e) =
            rw (eq-eqb (own_share q) 0 none)
            (subst (λ (f : FractionalPlan). SizeTold q.size (single_size q book) f.plan) e t)
        on plan t (fraction own few e) =
            let size = get_or sizes (letter_of q.size q.level) 0 in
            rw (ne_eqb (own_share q) 0 own)
            (subst (λ (f : FractionalPlan). SizeTold q.size size f.plan) e (size-told q.size _ size _))

-- 2. "Everything that takes a plan passes both on": so tells the plan of a lot that is judged ..
module _ (q : Asked) (book sample : List ℕ) (j : Judged Plan Verdict) where
  pub judge-single-size : judge_single q book sample ≡ given j → SizeTold q.size (single_size q book) j.plan
  judge-single-size h = single-size q book j.plan ((two.judge-single-given q book sample j).0 h).0

  pub judge-curtailed-size : judge_curtailed q book sample ≡ given j → SizeTold q.size (table_size q) j.plan
  judge-curtailed-size h =
      curtailed-size q book j.plan ((curtailed.judge-curtailed-given q book sample j).0 h).0

pub judge-total-size : (q : Asked) (total : ℕ) (j : Judged Plan Verdict) → judge_total q total ≡ given j
    → SizeTold q.size (table_size q) j.plan
judge-total-size q total j h =
    plain-size q j.plan ((two.plain-plan-given q j.plan).1 ((two.judge-total-given q total j).0 h).planned)

module _ (s : Supply) (o : Offered) where
  abbrev asked : Asked
  asked = asked_on s.switching o

  module _ (book sample : List ℕ) where
    pub judge-fractional-size : (j : Judged FractionalPlan Verdict) → judge_fractional s o book sample ≡ given j
        → SizeTold o.size (size_in_mode asked book) j.plan.plan
    judge-fractional-size j h =
        fractional-size asked book j.plan ((fractions.judge-fractional-given s o book sample j).0 h).1

    -- .. and of one that is closed.
    pub close-single-size : (c : Closed Plan) → close_single s o book sample ≡ given c
        → SizeTold o.size (single_size asked book) c.judged.plan
    close-single-size c h =
        judge-single-size asked book sample c.judged ((two.close-single-given s o book sample c).0 h).as-judged

    pub close-curtailed-size : (c : Closed Plan) → close_curtailed s o book sample ≡ given c
        → SizeTold o.size (table_size asked) c.judged.plan
    close-curtailed-size c h =
        judge-curtailed-size asked book sample c.judged
        ((curtailed.close-curtailed-given s o book sample c).0 h).as-judged

    pub close-fractional-size : (c : Closed FractionalPlan) → close_fractional s o book sample ≡ given c
        → SizeTold o.size (size_in_mode asked book) c.judged.plan.plan
    close-fractional-size c h =
        judge-fractional-size c.judged ((fractions.close-fractional-given s o book sample c).0 h).as-judged

  pub close-total-size : (total : ℕ) (c : Closed Plan) → close_total s o total ≡ given c
      → SizeTold o.size (table_size asked) c.judged.plan
  close-total-size total c h =
      judge-total-size asked total c.judged ((two.close-total-given s o total c).0 h).as-judged

-- 3. A sample on a plan that is handed over is judged by n and Ac alone, whatever else the plan says: the caller has
-- the plan, and so both figures.
module _ (column : ℕ) (p q : Plan) (same-n : p.n ≡ q.n) (same-ac : p.ac ≡ q.ac) (sample : List ℕ) where
  pub single-n-alone : single_sample column p sample ≡ single_sample column q sample
  unfolding single_sample judge_items
  single-n-alone = rw (same-n, same-ac)

  walk-alike : (half : Bool) (left used total : ℕ) (items : List ℕ)
      → curtailed_from column p half left used total items ≡ curtailed_from column q half left used total items
  unfolding curtailed_from
  walk-alike half zero used total items = rw same-ac
  walk-alike half (suc left) used total [] = refl
  walk-alike half (suc left) used total (x ∷ items) =
      rw (walk-alike half left (suc used) (total + x) items, same-ac)

  pub curtailed-n-alone : curtailed_sample column p sample ≡ curtailed_sample column q sample
  unfolding curtailed_sample judge_until_lost
  curtailed-n-alone = rw (walk-alike (half_left sample) p.n 0 0 (numbers_of sample), same-n)

-- The event that it stands for, and so its points, are by letter and Ac alone.
pub event-alone : (r : Record) (o : Offered) (p q : Plan) (v : Verdict) → p.letter ≡ q.letter → p.ac ≡ q.ac
    → single_event r o (record { plan = p; verdict = v }) ≡ single_event r o (record { plan = q; verdict = v })
event-alone r o p q v same-letter same-ac = rw (same-letter, same-ac)

-- 4. lotlog: "prints a W straight after n on a cut line". Of the texts that lines are made of, no other has a W.
w-digits : (n : ℕ) → has_byte letter_w (decimal n) ≡ false
w-digits = no-digit letter_w (λ d l. ne_eqb (48 + d) letter_w (λ e. omega arith))

space-digits : (n : ℕ) → has_byte space (decimal n) ≡ false
space-digits = no-digit space (λ d l. ne_eqb (48 + d) space (λ e. omega arith))

w-refused : (line number : ℕ) → has_byte letter_w (refused_line line number) ≡ false
unfolding printed has_byte
w-refused line number =
    past letter_w (decimal line) _ (w-digits line) ∙ past letter_w (decimal number) _ (w-digits number)

w-severity : (severity : ℕ) → has_byte letter_w (severity_name severity) ≡ false
unfolding has_byte
w-severity = name-without letter_w refl (ascii "NTRX") refl

w-after : (severity score : ℕ) → has_byte letter_w (printed (severity_name severity) (decimal score ∷ [])) ≡ false
unfolding printed has_byte
w-after severity score =
    past letter_w (severity_name severity) (space ∷ (decimal score ++ (newline ∷ []))) (w-severity severity)
    ∙ past letter_w (decimal score) (newline ∷ []) (w-digits score)

w-order : (line : ℕ) (s : Supply) → has_byte letter_w (order_text line s) ≡ false
unfolding printed has_byte
w-order line s =
    past letter_w (decimal line) _ (w-digits line) ∙ w-after s.switching.severity s.switching.score

-- A lot's line by its fields. Before the size: line, severity used, letter. After it: Ac, verdict, severity and score.
module _ (line : ℕ) (s : Supply) (c : Closed Plan) where
  abbrev plan : Plan
  plan = c.judged.plan

  abbrev after_size : List ℕ
  after_size =
      printed (decimal plan.ac)
      (verdict_name c.judged.verdict.accepted
      ∷ severity_name c.supply_after.switching.severity
      ∷ decimal c.supply_after.switching.score
      ∷ [])

  -- a line that is not cut is the line of before: n's digits alone
  pub line-as-before : plan.cut ≡ false
      → lot_text line s c
      ≡ printed (decimal line)
      (severity_name s.switching.severity
      ∷ letter_name plan.letter
      ∷ decimal plan.n
      ∷ decimal plan.ac
      ∷ verdict_name c.judged.verdict.accepted
      ∷ severity_name c.supply_after.switching.severity
      ∷ decimal c.supply_after.switching.score
      ∷ [])
  line-as-before e = rw (e, append-nil (decimal plan.n))

  w-after-size : has_byte letter_w after_size ≡ false
  unfolding printed has_byte
  w-after-size =
      past letter_w (decimal plan.ac) _ (w-digits plan.ac) ∙ said c.judged.verdict.accepted
    where
      said : (t : Bool)
          → has_byte letter_w
          (verdict_name t
          ++ (space
          ∷ printed (severity_name c.supply_after.switching.severity)
          (decimal c.supply_after.switching.score ∷ [])))
          ≡ false
      said true = w-after c.supply_after.switching.severity c.supply_after.switching.score
      said false = w-after c.supply_after.switching.severity c.supply_after.switching.score

  lot-w : has_byte letter_w (lot_text line s c) ≡ plan.cut
  unfolding printed has_byte
  lot-w =
      past letter_w (decimal line) _ (w-digits line)
      ∙ past letter_w (severity_name s.switching.severity) (space ∷ from_letter) (w-severity s.switching.severity)
      ∙ past letter_w (letter_name plan.letter) (space ∷ from_size)
      (name-without letter_w refl letter_names refl plan.letter)
      ∙ sized plan.cut
    where
      from_size : List ℕ
      from_size = size_text plan ++ (space ∷ after_size)

      from_letter : List ℕ
      from_letter = letter_name plan.letter ++ (space ∷ from_size)

      sized : (t : Bool)
          → has_byte letter_w ((decimal plan.n ++ cond t cut_mark []) ++ (space ∷ after_size)) ≡ t
      sized true =
          ap (has_byte letter_w) (append_assoc (decimal plan.n) cut_mark (space ∷ after_size))
          ∙ past letter_w (decimal plan.n) _ (w-digits plan.n)
      sized false =
          past letter_w (decimal plan.n ++ []) _ (past letter_w (decimal plan.n) [] (w-digits plan.n))
          ∙ w-after-size

  -- "straight after n": the field of the size is n's digits, and the W where the plan is cut
  pub size-field : get_or (split_at space (lot_text line s c)) 3 [] ≡ decimal plan.n ++ cond plan.cut cut_mark []
  unfolding printed has_byte
  size-field =
      ap (λ (fields : List (List ℕ)). get_or fields 3 [])
      (split-past space (decimal line) _ (space-digits line)
      ∙ ap (λ (fields : List (List ℕ)). decimal line ∷ fields)
      (split-past space used _ (name-without space refl (ascii "NTRX") refl s.switching.severity)
      ∙ ap (λ (fields : List (List ℕ)). used ∷ fields)
      (split-past space letter _ (name-without space refl letter_names refl plan.letter)
      ∙ ap (λ (fields : List (List ℕ)). letter ∷ fields) (split-past space (size_text plan) _ (sized plan.cut)))))
    where
      used : List ℕ
      used = severity_name s.switching.severity

      letter : List ℕ
      letter = letter_name plan.letter

      sized : (t : Bool) → has_byte space (decimal plan.n ++ cond t cut_mark []) ≡ false
      sized true = past space (decimal plan.n) cut_mark (space-digits plan.n)
      sized false = past space (decimal plan.n) [] (space-digits plan.n)

-- Any line, on any record: a W stands in its answer exactly where it is a cut line.
module _ (w : Work) (line : ℕ) (s : Supply) (bytes : List ℕ) where
  has-w : (l : Line) → line_of w (split_at space bytes) ≡ l → has_byte letter_w (logged_as w line s l).text ≡ true
      → CutLine w s bytes
  unfolding logged_as
  has-w (lot_line o total) e h = on (close_total s o total) refl h
    where
      on : (a : Answer (Closed Plan)) → close_total s o total ≡ a → has_byte letter_w (logged_lot line s a).text ≡ true
          → CutLine w s bytes
      on (refused n p) f h = absurd (false≢true (sym (w-refused line n) ∙ h))
      on (given c) f h =
          record {
            lot = o;
            total = total;
            is-lot = e;
            closed = c;
            is-closed = f;
            at_most = (close-total-size s o total c f).cut-exactly.0 (sym (lot-w line s c) ∙ h);
          }
  has-w (order_line byte) e h = on (next w s byte) h
    where
      on : (a : Answer Supply) → has_byte letter_w (logged_order line s a).text ≡ true → CutLine w s bytes
      on (refused n p) h = absurd (false≢true (sym (w-refused line n) ∙ h))
      on (given t) h = absurd (false≢true (sym (w-order line t) ∙ h))
  has-w unknown_line e h = absurd (false≢true (sym (w-refused line unknown_form) ∙ h))

  pub w-exactly : (has_byte letter_w (logged_line w line s bytes).text ≡ true) ↔ CutLine w s bytes
  unfolding logged_as
  w-exactly = (
    has-w (line_of w (split_at space bytes)) refl,
    λ k.
        rw (k.is-lot, k.is-closed)
        (lot-w line s k.closed
        ∙ (close-total-size s k.lot k.total k.closed k.is-closed).cut-exactly.1 k.at_most),
  )
