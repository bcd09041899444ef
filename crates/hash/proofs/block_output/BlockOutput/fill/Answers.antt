use Rattle.std.proofs.Common.{length, rules}
use Rattle.hash.specs.Layers.{output_row}
use Rattle.hash.proofs.Reading.{gives_more, unread_none}
use Rattle.hash.proofs.block_output.BlockOutput.fill.Goals as goal

pub returns : goal.returns
returns g c =
    let row = g.S.Squeeze.row in
    let used = c.give-2.new.self in
    let none = unread_none used.buffer used.place g.row.SIZE (row used.below) (search rules) in
    gives_more (length c.in-Some.first.now) (length c.in-Some.rest.now) (length c.args.out.now) (output_row row c.args.self.now) (row used.below) (output_row row c.give_blocks.new.self) c.give-2.new.out c.give_blocks.new.out (search rules) (rw none at c.give-2.ensures.given) c.give_blocks.ensures
