-- A history of bytes, byte by byte: what the record is after the first i bytes, from any record, and what the lent
-- buffer holds.
-- Assumes nothing.
use Prim.Native.Nat.{ℕ, zero, suc, ◌+◌, ◌≤◌, ◌<◌}
use mathlib.Core.Path.{◌≡◌, refl, sym, ap, ◌∙◌}
use mathlib.Core.List.{List}
use mathlib.Core.Logic.{◌⊎◌, inl, inr}
use native.Mathlib.Decide.{le_ind}
use native.Mathlib.Nat.{eq-or-lt_of_le}
use native.Mathlib.Numerals.{add-one}
use native.Mathlib.Omega.{arith}
use lib.ListN.{length, get_or, set, length-set}
use lib.Seq.{get_or-set_same, get_or-set_other}
use Rattle.rules.specs.Refusals.{Answer, refused, given, and_then}
use Rattle.rules.specs.Severity.{Record, step}
use Rattle.rules.specs.History.{Work, event_in, placed, after_from, past, filled}

pub length-past : (w : Work) (h : List ℕ) (i : ℕ) → length (past w h i) ≡ i
unfolding past
length-past w h zero = refl
length-past w h (suc i) = ap suc (length-past w h i)

module _ (w : Work) (h : List ℕ) where
  module _ (start : Record) where
    -- the record after the first i bytes, from a record
    abbrev pub From : ℕ → Answer Record
    From i = after_from start (past w h i)

    pub from-suc : (i : ℕ) → From (suc i) ≡ and_then (From i) (λ t. placed i (step t (event_in w (get_or h i 0))))
    unfolding after_from past
    from-suc i =
        ap (λ (k : ℕ). and_then (From i) (λ t. placed k (step t (event_in w (get_or h i 0))))) (length-past w h i)

    pub from-first : (r : Record) → r ≡ start → From 0 ≡ given r
    unfolding after_from past
    from-first r e = ap given (sym e)

    -- the byte at i is taken, or refused there
    pub from-given : (i : ℕ) (r t : Record) → From i ≡ given r → given t ≡ step r (event_in w (get_or h i 0))
        → From (i + 1) ≡ given t
    from-given i r t q n = rw add-one (from-suc i ∙ rw (q, ← n))

    -- "a history reports its first bad byte": a refusal stays
    refusal-stays : (n k i : ℕ) → From i ≡ refused n k → (m : ℕ) → i ≤ m → From m ≡ refused n k
    refusal-stays n k i q m l = le_ind (λ (x : ℕ). From x ≡ refused n k) q (λ x y z. from-suc x ∙ rw z) m l

    pub from-refused : (i : ℕ) (r : Record) (n k : ℕ) → i < length h → From i ≡ given r
        → refused n k ≡ step r (event_in w (get_or h i 0)) → From (length h) ≡ refused n i
    from-refused i r n k l q m = refusal-stays n i (suc i) (from-suc i ∙ rw (q, ← m)) (length h) l

-- a buffer that is filled, place by place
module _ (f : ℕ → ℕ) (out : List ℕ) where
  pub filled-length : (i : ℕ) → length (filled f out i) ≡ length out
  unfolding filled
  filled-length zero = refl
  filled-length (suc i) = length-set (filled f out i) i (f i) ∙ filled-length i

  -- "the severity after each byte is written"
  pub filled-at : (i k : ℕ) → i ≤ length out → k < i → get_or (filled f out i) k 0 ≡ f k
  unfolding filled
  filled-at zero k l m = absurd (omega arith)
  filled-at (suc i) k l m = go (eq-or-lt_of_le {n = k} {m = i} (omega arith)) (λ q. filled-at i k (omega arith) q)
    where
      go : (k ≡ i) ⊎ (k < i) → (k < i → get_or (filled f out i) k 0 ≡ f k)
          → get_or (set (filled f out i) i (f i)) k 0 ≡ f k
      go (inl e) ih = rw e (get_or-set_same (filled f out i) i (f i) 0 (omega (arith, filled-length i)))
      go (inr q) ih = get_or-set_other (filled f out i) i k (f i) 0 (omega arith) ∙ ih q

  -- "the rest of which stays"
  pub filled-past : (i k : ℕ) → i ≤ k → get_or (filled f out i) k 0 ≡ get_or out k 0
  unfolding filled
  filled-past zero k m = refl
  filled-past (suc i) k m = get_or-set_other (filled f out i) i k (f i) 0 (omega arith) ∙ filled-past i k (omega arith)
