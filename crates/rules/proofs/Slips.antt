-- Document 01, 'Slips that look harmless', of the severity record, and other edges of its switches: histories at
-- which a slip would end elsewhere; what is left without resubmitted lots; and which refusal a history reports, at
-- which place.
-- Assumes nothing.
use Prim.Native.Nat.{ℕ}
use mathlib.Core.Path.{refl}
use mathlib.Core.Bool.{Bool, true, false, not}
use mathlib.Core.List.{List, [], ◌∷◌, ◌++◌}
use lib.ListN.{length, replicate}
use Rattle.rules.specs.Refusals.{Answer, refused, given}
use Rattle.rules.specs.Codes.{normal, tightened, reduced, stopped}
use Rattle.rules.specs.Severity.{on_lot, on_resubmitted, on_order, on_corrective, step}
use Rattle.rules.specs.Reading.{stay_after, steady_in, permission_in, not_accepted_in, run_of}
use Rattle.rules.specs.Reading.{points_of, read_lot, read_order, read_event, is_resubmitted, severities_at}
use Rattle.rules.specs.History.{ours, past, event_in, event_of, after_from, listed, without_fours}
use Rattle.rules.specs.Entries.{Offered}
use Rattle.rules.specs.Runs.{Call, single, staged, total, byte, without_resubmissions}
use Rattle.rules.proofs.Cases.{Case, ◌is◌, AllAsSaid}
use Rattle.rules.proofs.Worked.{ends}

-- a refusal with its place; how many severities are listed
answered : Answer ℕ → List ℕ
answered (refused n place) = n ∷ place ∷ []
answered (given m) = m ∷ []

-- from normal to tightened, with four not accepted there
near_stopped : List ℕ
near_stopped = replicate 6 3

offered : Bool → Offered
offered again = record { again = again; size = 10; level = 5; column = 5 }

-- four calls with a resubmitted lot, one with an original lot, an order
calls : List Call
calls =
    single (offered true) [] []
    ∷ staged (offered true) [] []
    ∷ total (offered true) 0
    ∷ byte 4
    ∷ total (offered false) 0
    ∷ byte 5
    ∷ []

pub slip_cases : List (Case (List ℕ))
slip_cases =
    -- "Testing the score alone for reduced."
    (ends (replicate 10 0) is (normal ∷ []))
    ∷ (ends (5 ∷ replicate 10 0) is (normal ∷ []))
    ∷ (ends (7 ∷ replicate 10 0) is (normal ∷ []))
    ∷ (ends (replicate 10 0 ++ (5 ∷ 7 ∷ [])) is (reduced ∷ []))
    -- "Letting a window or the tightened count run across a change of severity."
    ∷ (ends ((5 ∷ 7 ∷ replicate 10 0) ++ (3 ∷ 3 ∷ [])) is (normal ∷ []))
    ∷ (ends ((5 ∷ 7 ∷ replicate 10 0) ++ (3 ∷ 3 ∷ 3 ∷ [])) is (tightened ∷ []))
    ∷ (ends near_stopped is (tightened ∷ []))
    ∷ (ends (near_stopped ++ (3 ∷ [])) is (stopped ∷ []))
    ∷ (ends (near_stopped ++ (replicate 5 0 ++ (3 ∷ 3 ∷ 3 ∷ []))) is (tightened ∷ []))
    -- "five accepted in a row gives normal"
    ∷ (ends (3 ∷ 3 ∷ replicate 4 0) is (tightened ∷ []))
    ∷ (ends (3 ∷ 3 ∷ replicate 5 0) is (normal ∷ []))
    -- "add 2", "score 0"
    ∷ (ends (5 ∷ 7 ∷ replicate 14 1) is (normal ∷ []))
    ∷ (ends (5 ∷ 7 ∷ replicate 15 1) is (reduced ∷ []))
    ∷ (ends ((5 ∷ 7 ∷ replicate 9 0) ++ (1 ∷ [])) is (normal ∷ []))
    ∷ (ends ((5 ∷ 7 ∷ replicate 9 0) ++ (2 ∷ 0 ∷ [])) is (normal ∷ []))
    -- "steady withdrawn or permission withdrawn gives normal", and each as last ordered
    ∷ (ends ((5 ∷ 7 ∷ replicate 10 0) ++ (6 ∷ [])) is (normal ∷ []))
    ∷ (ends ((5 ∷ 7 ∷ replicate 10 0) ++ (8 ∷ [])) is (normal ∷ []))
    ∷ (ends (5 ∷ 7 ∷ 6 ∷ 5 ∷ replicate 10 0) is (reduced ∷ []))
    ∷ (ends (5 ∷ 7 ∷ 8 ∷ 7 ∷ replicate 10 0) is (reduced ∷ []))
    -- "a corrective action order gives tightened"
    ∷ (ends (near_stopped ++ (3 ∷ 9 ∷ [])) is (tightened ∷ []))
    -- what is left without resubmitted lots: bytes, severities, calls
    ∷ (without_fours (0 ∷ 4 ∷ 3 ∷ 4 ∷ 5 ∷ []) is (0 ∷ 3 ∷ 5 ∷ []))
    ∷ (severities_at (λ e. not (is_resubmitted e)) false (past ours (3 ∷ 4 ∷ 3 ∷ 4 ∷ []) 4) is (1 ∷ 0 ∷ []))
    ∷ ((length (without_resubmissions ours calls) ∷ []) is (2 ∷ []))
    -- "a history reports its first bad byte (1, 5 or 10, with its place counted from 0) before 11"
    ∷ (answered (listed ours (0 ∷ 12 ∷ []) 0) is (1 ∷ 1 ∷ []))
    ∷ (answered (listed ours (near_stopped ++ (3 ∷ 0 ∷ [])) 0) is (5 ∷ 7 ∷ []))
    ∷ (answered (listed ours (9 ∷ []) 0) is (10 ∷ 0 ∷ []))
    ∷ (answered (listed ours (0 ∷ []) 0) is (11 ∷ 0 ∷ []))
    ∷ (answered (listed ours (0 ∷ []) 1) is (1 ∷ []))
    ∷ []

pub slips : AllAsSaid slip_cases
unfolding slip_cases ends answered near_stopped offered calls without_fours severities_at without_resubmissions listed
    after_from stay_after steady_in permission_in not_accepted_in run_of
    points_of read_lot read_order read_event past event_in event_of step on_lot on_resubmitted on_order on_corrective
    lib.Count.ones
slips = refl
