-- What must be believed: the functions' promises are written in these, each held to document 01, or to the request of
-- document 02 that it names, sentence by sentence.
pub mod Refusals
pub mod Numbers
pub mod Codes
pub mod Verdict
pub mod Single
pub mod Staged
pub mod Sequential
pub mod Variables
pub mod Limits
pub mod Screen
pub mod Severity
pub mod Curtailed
pub mod Fractional
pub mod Supply
pub mod History
pub mod Book
pub mod Entries
pub mod Writing
pub mod Ascii
pub mod Log
pub mod Terminal
-- Second readings: the same said another way and proved to agree, so that a slip would have to be made in both alike.
-- Reading says without a record what Severity says step by step (`agree`), CleanReading what Supply says of the clean
-- run (`ran-clean`). Faults, by the places of Layout, says without a walk what Book finds (`lowest`, `sound-has-none`).
-- Feeding says piece by piece what Log says of a whole input (`any-pieces`). Printed has the rows of Table 1 by their
-- first and last sizes (`row-by-size`), and the master tables letter by letter (`boxes-as-printed`). Straight names the
-- letter where Single's arrows end (`lands-straight`). Some promises are written in them too: the severities listed are
-- those of Reading, lotlog's pieces are fed as in Feeding, the plan of an entry is that of Layout's entry, and the
-- entries that are counted and shown stand where Layout has them.
pub mod Reading
pub mod CleanReading
pub mod Layout
pub mod Faults
pub mod Printed
pub mod Straight
pub mod Feeding
-- Words of theorems: what the plans of a sound book keep; what demand 2 says of refusals, samples, plans, points and
-- entries that are written; what demand 3 says of a run of calls, of points in it, of stays, of changes of severity and
-- of lotlog; what a plan tells of its size. No promise is written in these; they are read to know what the theorems
-- claim.
pub mod PlanRules
pub mod Reporting
pub mod Judging
pub mod Planning
pub mod Scoring
pub mod Writable
pub mod Runs
pub mod Switching
pub mod LogRuns
pub mod WholeLot
