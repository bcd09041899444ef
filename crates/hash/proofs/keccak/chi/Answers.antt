use Rattle.std.proofs.Common.{rules}
use Rattle.hash.specs.Lanes.{χ_row}
use Rattle.hash.proofs.Planes.{bare, row_by_row}
use Rattle.hash.proofs.keccak.chi.Goals as goal

pub returns : goal.returns
returns c =
    let made = c.map.ensures.items in
    row_by_row (λ y. χ_row) c.args.s.rows c.map.result (search rules) made.long (λ k l. (made.at k bare bare l).2.met)
