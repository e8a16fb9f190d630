-- `lotstream::open_log` meets its contract.
use native.Mathlib.Omega.{arith}
use mathlib.Core.Path.{◌∙◌}
use Rattle.rules.specs.History.{ours}
use Rattle.lotstream.proofs.Putting.{put-line}
use Rattle.lotstream.proofs.Onwards.{all-same}
use Rattle.lotstream.proofs.open_log.Goals as goal

pub returns : goal.returns
returns c =
    let put = put-line (omega (arith, c.as_slice.ensures.fits, c.requires)) c.put.ensures in
    record {
      whole =
          rw c.fresh.ensures.taken
          (all-same ours _ _ c.fresh.ensures.state (put.0 ∙ (c.as_slice.ensures.value ∙ c.header.ensures)));
      long = c.fresh.ensures.long;
      taken = c.fresh.ensures.taken;
      fits = omega (arith, put.1, c.put.auto.output);
      over = c.fresh.ensures.over;
      failed = c.fresh.ensures.failed;
    }
