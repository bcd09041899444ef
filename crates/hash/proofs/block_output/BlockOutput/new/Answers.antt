use Rattle.std.proofs.Common.{replicate, refl}
use Rattle.hash.proofs.Reading.{unread_none}
use Rattle.hash.proofs.block_output.BlockOutput.new.Goals as goal

pub returns : goal.returns
returns g c = unread_none (replicate g.row.SIZE 0) g.row.SIZE g.row.SIZE (g.S.Squeeze.row c.args.below) refl
