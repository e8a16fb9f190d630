-- `terminal::planning::put_row` meets its contract.
-- Assumes nothing.
use native.Mathlib.Omega.{arith}
use lib.ListN.{length-map}
use borrow.Author.Rules.{rules}
use Rattle.entry.specs.declared.Stage.{Stage}
use Rattle.terminal.proofs.Rows.{map-of, row-stored}
use Rattle.terminal.proofs.planning.put_row.Goals as goal

pub returns : goal.returns
returns c =
    let stages = c.args.plan.stages in
    let sizes =
    map-of (λ (s : Stage). s.size) stages c.map.result (omega (arith, c.map.ensures.items.long))
    (λ i d h. let q = c.map.ensures.items.at i d 0 (omega arith) in search rules) in
    let acs =
    map-of (λ (s : Stage). s.ac) stages c.map-2.result (omega (arith, c.map-2.ensures.items.long))
    (λ i d h. let q = c.map-2.ensures.items.at i d 0 (omega arith) in search rules) in
    let res =
    map-of (λ (s : Stage). s.re) stages c.map-3.result (omega (arith, c.map-3.ensures.items.long))
    (λ i d h. let q = c.map-3.ensures.items.at i d 0 (omega arith) in search rules) in
    rw (
      c.put_numbers.ensures.stored,
      sizes,
      c.put_numbers-2.ensures.stored,
      acs,
      c.put_numbers-3.ensures.stored,
      res,
    )
    (row-stored _ _ _ _ _ _ _ _ c.split_at_mut-sizes.ensures.value c.split_at_mut-acs.ensures.value
    c.split_at_mut-sizes.ensures.front_len c.split_at_mut-acs.ensures.front_len c.requires
    (omega (arith, length-map stages (λ (s : Stage). s.size))) (omega (arith, length-map stages (λ (s : Stage). s.ac)))
    (omega (arith, length-map stages (λ (s : Stage). s.re))))
