-- Document 01, 'Staged and sequential samples', the sequential ones. Definitions only.
use Rattle.std.specs.Prelude.{ℕ, suc, ◌+◌, ◌*◌, Bool, cond, List, [], ◌∷◌, leb, ltb}
use Rattle.rules.specs.Refusals.{Answer, refused, wrong_length, illegal_item}
use Rattle.rules.specs.Numbers.{numbers_of, half_left}
use Rattle.rules.specs.Verdict.{Verdict, Decision, accepts, rejects, goes_on, ended, decided}

-- "hA and hR in thousandths, g in hundred-thousandths", nt the last item, At its acceptance number
pub record SequentialPlan : Type 0 where
  pub h_a : ℕ
  pub h_r : ℕ
  pub g : ℕ
  pub nt : ℕ
  pub at_nt : ℕ

-- "accept when D ≤ gn − hA, reject when D ≥ gn + hR, compared exactly": both sides in hundred-thousandths
abbrev pub on_accept_line : SequentialPlan → ℕ → ℕ → Bool
on_accept_line p n d = leb (100000 * d + 100 * p.h_a) (p.g * n)

abbrev pub on_reject_line : SequentialPlan → ℕ → ℕ → Bool
on_reject_line p n d = leb (p.g * n + 100 * p.h_r) (100000 * d)

-- "At the last item nt: accept when D ≤ At, else reject."
unfoldable pub item_decides : SequentialPlan → ℕ → ℕ → Decision
item_decides p n d =
    cond (ltb n p.nt) (cond (on_accept_line p n d) accepts (cond (on_reject_line p n d) rejects goes_on))
    (cond (leb d p.at_nt) accepts rejects)

abbrev pub sequential_verdict : ℕ → ℕ → Bool → Verdict
sequential_verdict n d accepted = record { accepted = accepted; used = n; total = d; stage = 1; stages = 1 }

-- "Each item is 0 or 1": the walk over the items left, after n items with total d
unfoldable pub sequential_from : SequentialPlan → Bool → ℕ → ℕ → List ℕ → Answer Verdict
sequential_from p half n d [] = refused wrong_length 0
sequential_from p half n d (x ∷ items) =
    cond (ltb 1 x) (refused illegal_item 0)
    (decided (item_decides p (suc n) (d + x))
    (λ accepted. ended half items (sequential_verdict (suc n) (d + x) accepted))
    (sequential_from p half (suc n) (d + x) items))

unfoldable pub judge_sequence : SequentialPlan → List ℕ → Answer Verdict
judge_sequence p bytes = sequential_from p (half_left bytes) 0 0 (numbers_of bytes)
