-- Each promise of a result admits one: the documents' answer tells the code's, where the paper of the value tells the
-- value.
-- Assumes nothing.
use Rattle.std.proofs.Common.{ℕ, ◌≡◌, ◌-◌, List, [], ◌∷◌, get_or, refl, ap, Result, Ok, Err}
use Rattle.rules.specs.Refusals.{Answer, refused, given}
use Rattle.rules.proofs.Answers.{read-back}
use Rattle.refusals.specs.declared.Reason.{Reason}
use Rattle.refusals.specs.declared.Reason.TheVariants as reasons
use Rattle.refusals.specs.declared.Refusal.{Refusal}
use Rattle.refusals.specs.Paper.{number_of, answer_by, reason_by}

-- the reasons by number, from 1 on
abbrev pub all_reasons : List Reason
all_reasons =
    reasons.UnknownForm
    ∷ reasons.LotTooSmall
    ∷ reasons.NoSuchLevel
    ∷ reasons.NoSuchColumn
    ∷ reasons.WhileStopped
    ∷ reasons.NoPlan
    ∷ reasons.WrongLength
    ∷ reasons.IllegalItem
    ∷ reasons.OutOfRange
    ∷ reasons.NotStopped
    ∷ reasons.BufferShort
    ∷ reasons.BrokenBook
    ∷ []

-- the reason with a number
abbrev pub reason_back : ℕ → Reason
reason_back n = get_or all_reasons (n - 1) reasons.BrokenBook

pub reason-back : (r : Reason) → reason_back (number_of r) ≡ r
reason-back reasons.UnknownForm = refl
reason-back reasons.LotTooSmall = refl
reason-back reasons.NoSuchLevel = refl
reason-back reasons.NoSuchColumn = refl
reason-back reasons.WhileStopped = refl
reason-back reasons.NoPlan = refl
reason-back reasons.WrongLength = refl
reason-back reasons.IllegalItem = refl
reason-back reasons.OutOfRange = refl
reason-back reasons.NotStopped = refl
reason-back reasons.BufferShort = refl
reason-back reasons.BrokenBook = refl

-- of number
pub number-one : (a b : Reason) → number_of a ≡ number_of b → a ≡ b
number-one = read-back number_of reason_back reason-back

module _ {T A : Type 0} (paper : T → A) (back : A → T) (same : (x : T) → back (paper x) ≡ x) where
  -- a result from its answer ..
  result_back : Answer A → Result T Refusal
  result_back (refused n p) = Err (record { reason = reason_back n; place = p })
  result_back (given a) = Ok (back a)

  -- .. and from that of a reason alone
  reason_result_back : Answer A → Result T Reason
  reason_result_back (refused n p) = Err (reason_back n)
  reason_result_back (given a) = Ok (back a)

  -- of every function that answers a value or a refusal with its place
  pub answer-one : (a b : Result T Refusal) → answer_by paper a ≡ answer_by paper b → a ≡ b
  unfolding result_back
  answer-one = read-back (answer_by paper) result_back round
    where
      round : (a : Result T Refusal) → result_back (answer_by paper a) ≡ a
      round (Ok x) = ap (λ (y : T). Ok y) (same x)
      round (Err r) = ap (λ (n : Reason). Err (record { reason = n; place = r.place })) (reason-back r.reason)

  -- of every function that answers a value or a reason
  pub reason-one : (a b : Result T Reason) → reason_by paper a ≡ reason_by paper b → a ≡ b
  unfolding reason_result_back
  reason-one = read-back (reason_by paper) reason_result_back round
    where
      round : (a : Result T Reason) → reason_result_back (reason_by paper a) ≡ a
      round (Ok x) = ap (λ (y : T). Ok y) (same x)
      round (Err r) = ap (λ (n : Reason). Err n) (reason-back r)
