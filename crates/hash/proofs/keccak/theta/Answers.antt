use Rattle.std.proofs.Common.{bit_xor, slice_index, rules}
use Rattle.hash.specs.Keccak.{effect, five}
use Rattle.hash.specs.Lanes.{lanes_of}
use Rattle.hash.proofs.Planes.{bare, row_by_row}
use Rattle.hash.proofs.keccak.theta.Goals as goal

pub returns : goal.returns
returns c =
    let made = c.map.ensures.items in
    let A = lanes_of c.args.s in
    row_by_row (λ y row. five (λ x. bit_xor (slice_index row x) (effect A x))) c.args.s.rows c.map.result (search rules) made.long (λ k l. let met = (made.at k bare bare l).2 in search rules)
