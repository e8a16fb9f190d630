-- A result whose error was mapped tells what it was mapped from.
-- Assumes nothing.
use Rattle.std.proofs.Common.{◌≡◌, Result, Ok, Err, refl}
use Rattle.std.specs.Result.{MatchResult, IsErrAnd}

module _ {T E D : Type 0} (Q : E → D → Type 0) (r : Result T E) (mapped : Result T D)
    (cases : MatchResult r (λ x. mapped ≡ Ok x) (λ e. IsErrAnd mapped (Q e))) where
  pub ok-mapped : {x : T} → mapped ≡ Ok x → r ≡ Ok x
  ok-mapped {x} is = go r cases
    where
      go : (r : Result T E) → MatchResult r (λ x. mapped ≡ Ok x) (λ e. IsErrAnd mapped (Q e)) → r ≡ Ok x
      go (Ok y) h = cc
      go (Err e) h = absurd (rw is at h)

  pub err-mapped : (f : E → D) → ((e : E) (d : D) → Q e d → d ≡ f e) → {d : D} → mapped ≡ Err d
      → (e : E) × (r ≡ Err e) × (d ≡ f e)
  err-mapped f each {d} is = go r cases
    where
      go : (r : Result T E) → MatchResult r (λ x. mapped ≡ Ok x) (λ e. IsErrAnd mapped (Q e))
          → (e : E) × (r ≡ Err e) × (d ≡ f e)
      go (Ok y) h = cc
      go (Err e) h = let q : Q e d = rw is at h in (e, refl, each e d q)
