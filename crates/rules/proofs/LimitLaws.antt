-- Readings judged for one limit or two, by either method: what is refused, what is given, and when a side accepts.
-- Assumes nothing.
use Prim.Native.Nat.{ℕ, ◌*◌, ◌<◌}
use mathlib.Core.Path.{◌≡◌, refl, sym, ap, ◌∙◌}
use mathlib.Core.Logic.{◌↔◌, ◌⊎◌, inl, inr}
use mathlib.Core.Bool.{Bool, true, false, ◌&&◌, ◌||◌, not, false≢true, true≢false, and-false, and-eq-true_iff}
use mathlib.Core.List.{List, [], ◌∷◌}
use native.Mathlib.Nat.{le_refl}
use native.Mathlib.Omega.{arith}
use borrow.Author.Tests.{ltb-false, le-ltb, leb-true, leb-false, le-leb, lt-leb, eqb-true, eqb-false, eq-eqb, ne_eqb}
use borrow.Author.Tests.{not-true, not-false}
use lib.Dec.{leb, eqb}
use lib.IntN.{ℤ, pos, negsuc}
use lib.Signed.{le_z, lt_z}
use lib.ListN.{length}
use Rattle.rules.specs.Refusals.{given, first_of, ◌gives◌, wrong_length, out_of_range}
use Rattle.rules.specs.Verdict.{Verdict}
use Rattle.rules.specs.Variables.{VariablesPlan, in_gauge, all_in_gauge, readings_of, margin, accepts_readings}
use Rattle.rules.specs.Limits.{Spread, estimated, known, Limits, one, both, SidesPlan, sides_of, side_of}
use Rattle.rules.specs.Limits.{within_sigma}
use Rattle.rules.specs.Limits.{side_accepts, accepts_limits, spread_in, limits_in, readings_verdict, judge_readings}
use Rattle.rules.specs.Reporting.{Reports}
use Rattle.rules.specs.Judging.{LimitsOut, SigmaOut, OutOfGauge, reading, the-limits, the-sigma}
use Rattle.rules.specs.Judging.{ReadingRows, SideAccepts, LimitsAccept, ReadingsJudged}
use Rattle.rules.proofs.Bools.{and-left, and-right, true-unless, same-truth}
use Rattle.rules.proofs.Refusals.{check, nothing-wrong}
use Rattle.rules.proofs.EntryLaws.{two-given}
use Rattle.rules.proofs.SMethod.{out-means, out-when, all-in}

-- a limit that is not below another
not-below : (a b : ℤ) → lt_z a b ≡ false → le_z b a ≡ true
not-below (pos a) (pos b) e = le-leb b a (ltb-false a b e)
not-below (pos a) (negsuc b) e = refl
not-below (negsuc a) (pos b) e = absurd (true≢false e)
not-below (negsuc a) (negsuc b) e = le-leb a b (ltb-false b a e)

pub at-or-over : (a b : ℤ) → le_z b a ≡ true → lt_z a b ≡ false
at-or-over (pos a) (pos b) e = le-ltb a b (leb-true b a e)
at-or-over (pos a) (negsuc b) e = refl
at-or-over (negsuc a) (pos b) e = absurd (false≢true e)
at-or-over (negsuc a) (negsuc b) e = le-ltb b a (leb-true a b e)

-- "9 when sigma is out of range": exactly then the test of sigma fails
sigma-out : (m : Spread) → spread_in m ≡ false → SigmaOut m
unfolding spread_in
sigma-out estimated e = true≢false e
sigma-out (known sigma) e = on (leb 1 sigma) refl e
  where
    on : (t : Bool) → leb 1 sigma ≡ t → (t && leb sigma 1000) ≡ false → (sigma < 1) ⊎ (1000 < sigma)
    on true q f = inr (leb-false sigma 1000 f)
    on false q f = inl (leb-false 1 sigma q)

sigma-when : (m : Spread) → SigmaOut m → spread_in m ≡ false
unfolding spread_in
sigma-when estimated o = absurd o
sigma-when (known sigma) (inl l) = rw (lt-leb 1 sigma l)
sigma-when (known sigma) (inr l) = rw (le-leb 1 sigma (omega arith)) (lt-leb sigma 1000 l)

-- "or the lower limit is not below the upper", or a limit is out of range
limits-out : (limits : Limits) → limits_in limits ≡ false → LimitsOut limits
unfolding limits_in
limits-out (one upper limit) e = e
limits-out (both upper lower) e = on (in_gauge upper) (in_gauge lower) refl refl e
  where
    on : (a b : Bool) → in_gauge upper ≡ a → in_gauge lower ≡ b → (a && (b && lt_z lower upper)) ≡ false
        → (in_gauge upper ≡ false) ⊎ ((in_gauge lower ≡ false) ⊎ (le_z upper lower ≡ true))
    on true true p q f = inr (inr (not-below lower upper f))
    on true false p q f = inr (inl q)
    on false b p q f = inl p

limits-when : (limits : Limits) → LimitsOut limits → limits_in limits ≡ false
unfolding limits_in
limits-when (one upper limit) o = o
limits-when (both upper lower) (inl e) = rw e
limits-when (both upper lower) (inr (inl e)) = rw e (and-false (in_gauge upper))
limits-when (both upper lower) (inr (inr e)) =
    rw (at-or-over lower upper e, and-false (in_gauge lower)) (and-false (in_gauge upper))

-- When a side accepts, and when both do.
side-exactly : (m : Spread) (upper : Bool) (n k : ℕ) (limit : ℤ) (xs : List ℤ)
    → (side_accepts m upper (record { n = n; k = k }) limit xs ≡ true) ↔ SideAccepts m upper n k limit xs
unfolding side_accepts within_sigma margin
side-exactly estimated upper n k limit xs = (λ e. e, λ e. e)
side-exactly (known sigma) true n k limit xs = (λ e. e, λ e. e)
side-exactly (known sigma) false n k limit xs = (λ e. e, λ e. e)

pub accepts-exactly : (m : Spread) (limits : Limits) (p : SidesPlan) (xs : List ℤ)
    → (accepts_limits m limits p xs ≡ true) ↔ LimitsAccept m limits p xs
unfolding accepts_limits
accepts-exactly m (one true limit) p xs = side-exactly m true p.n p.upper_k limit xs
accepts-exactly m (one false limit) p xs = side-exactly m false p.n p.lower_k limit xs
accepts-exactly m (both upper lower) p xs =
    let u = side-exactly m true p.n p.upper_k upper xs in
    let l = side-exactly m false p.n p.lower_k lower xs in
    let a = side_accepts m true (side_of true p) upper xs in (
      λ e. (u.0 (and-left a _ e), l.0 (and-right a _ e)),
      λ h. (and-eq-true_iff _ _).1 (u.1 h.0, l.1 h.1),
    )

-- 7 where there are not exactly the plan's n, then 9.
module _ (m : Spread) (limits : Limits) (bytes : List ℕ) (plan : SidesPlan) where
  abbrev out_of : Bool → Bool → Bool → Bool
  out_of readings sigma lim = not readings || not (sigma && lim)

  out-so : (a b c : Bool) → all_in_gauge (readings_of bytes) ≡ a → spread_in m ≡ b → limits_in limits ≡ c
      → out_of a b c ≡ true → OutOfGauge m limits bytes
  out-so false b c e f g t = reading (out-means (readings_of bytes) e)
  out-so true false c e f g t = the-sigma (sigma-out m f)
  out-so true true false e f g t = the-limits (limits-out limits g)
  out-so true true true e f g t = absurd (false≢true t)

  in-all : (a b c : Bool) → out_of a b c ≡ false → (a ≡ true) × (b ≡ true) × (c ≡ true)
  in-all true true true e = (refl, refl, refl)
  in-all true true false e = absurd (true≢false e)
  in-all true false c e = absurd (true≢false e)
  in-all false b c e = absurd (true≢false e)

  abbrev is_out : Bool
  is_out = out_of (all_in_gauge (readings_of bytes)) (spread_in m) (limits_in limits)

  out-then : OutOfGauge m limits bytes → is_out ≡ true
  out-then o =
      true-unless is_out
      (λ e.
      let i = in-all (all_in_gauge (readings_of bytes)) (spread_in m) (limits_in limits) e in
      never i o)
    where
      never : (all_in_gauge (readings_of bytes) ≡ true) × (spread_in m ≡ true) × (limits_in limits ≡ true)
          → OutOfGauge m limits bytes → ⊥
      never i (reading o) = false≢true (sym (out-when (readings_of bytes) o) ∙ i.0)
      never i (the-sigma o) = false≢true (sym (sigma-when m o) ∙ i.1)
      never i (the-limits o) = false≢true (sym (limits-when limits o) ∙ i.2)

  pub limits-refused : Reports 7 (ReadingRows m limits bytes plan) (judge_readings m limits plan bytes)
  unfolding judge_readings
  limits-refused =
      check 7 (not (eqb (length bytes) (2 * plan.n)))
      (λ t. eqb-false (length bytes) (2 * plan.n) (not-true (eqb (length bytes) (2 * plan.n)) t))
      (λ w. ap not (ne_eqb (length bytes) (2 * plan.n) w)) (omega arith)
      (check 9 is_out
      (out-so (all_in_gauge (readings_of bytes)) (spread_in m) (limits_in limits) refl refl refl) out-then (le_refl 9)
      nothing-wrong)

  pub limits-given : (v : Verdict)
      → (judge_readings m limits plan bytes ≡ given v) ↔ ReadingsJudged m limits bytes plan v
  unfolding judge_readings
  limits-given v = (so, back)
    where
      accepted : Bool
      accepted = accepts_limits m limits plan (readings_of bytes)

      two : (judge_readings m limits plan bytes ≡ given v)
          ↔ ((not (eqb (length bytes) (2 * plan.n)) ≡ false) × (is_out ≡ false)
          × (readings_verdict plan.n (accepts_limits m limits plan (readings_of bytes)) ≡ v))
      two = two-given _ _ 7 9 _ v

      so : judge_readings m limits plan bytes ≡ given v → ReadingsJudged m limits bytes plan v
      so g =
          let h = two.0 g in
          let i = in-all (all_in_gauge (readings_of bytes)) (spread_in m) (limits_in limits) h.1 in
          let a : accepts_limits m limits plan (readings_of bytes) ≡ v.accepted =
          ap (λ (w : Verdict). w.accepted) h.2 in
          let iff = accepts-exactly m limits plan (readings_of bytes) in
          record {
            whole = eqb-true (length bytes) (2 * plan.n) (not-false (eqb (length bytes) (2 * plan.n)) h.0);
            readings-in = (all-in (readings_of bytes)).0 i.0;
            limits-in = λ o. false≢true (sym (limits-when limits o) ∙ i.2);
            sigma-in = λ o. false≢true (sym (sigma-when m o) ∙ i.1);
            accepted-exactly = (λ t. iff.0 (a ∙ t), λ t. sym a ∙ iff.1 t);
            verdict = ap (readings_verdict plan.n) (sym a) ∙ h.2;
          }

      back : ReadingsJudged m limits bytes plan v → judge_readings m limits plan bytes ≡ given v
      back j =
          let iff = accepts-exactly m limits plan (readings_of bytes) in
          let a : accepts_limits m limits plan (readings_of bytes) ≡ v.accepted =
          same-truth _ _ (λ t. j.accepted-exactly.1 (iff.0 t)) (λ t. iff.1 (j.accepted-exactly.0 t)) in
          let c : spread_in m ≡ true = true-unless _ (λ f. j.sigma-in (sigma-out m f)) in
          let d : limits_in limits ≡ true = true-unless _ (λ f. j.limits-in (limits-out limits f)) in
          two.1 (
            ap not (eq-eqb (length bytes) (2 * plan.n) j.whole),
            rw ((all-in (readings_of bytes)).1 j.readings-in, c, d),
            ap (readings_verdict plan.n) a ∙ j.verdict,
          )

-- The s method for one limit is as document 01 has it: 7, then 9 for a reading or the limit out of range, else accepted
-- by its own test.
pub one-limit-as-before : (upper : Bool) (p : VariablesPlan) (limit : ℤ) (bytes : List ℕ)
    → judge_readings estimated (one upper limit) (sides_of p) bytes
    ≡ first_of
    ((not (eqb (length bytes) (2 * p.n)) gives wrong_length)
    ∷ (not (all_in_gauge (readings_of bytes)) || not (in_gauge limit) gives out_of_range)
    ∷ [])
    (given (readings_verdict p.n (accepts_readings upper p limit (readings_of bytes))))
unfolding judge_readings accepts_limits side_accepts spread_in limits_in
one-limit-as-before true p limit bytes = refl
one-limit-as-before false p limit bytes = refl
