-- `gauge::ratio` meets its contract.
-- Assumes nothing.
use native.Mathlib.Omega.{arith}
use Rattle.gauge.proofs.Exact.{sub-float, float-nat}
use Rattle.gauge.proofs.ratio.Goals as goal

pub int_to_float-result : goal.int_to_float-result
int_to_float-result c = sub-float c.args.a c.args.b c.requires.0 c.requires.1

pub int_to_float-result-2 : goal.int_to_float-result-2
int_to_float-result-2 c = float-nat c.args.d (omega arith)
