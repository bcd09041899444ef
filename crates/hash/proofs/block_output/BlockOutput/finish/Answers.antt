use Rattle.std.proofs.Common.{rules}
use Rattle.std.proofs.lemmas.List.{take_all}
use Rattle.hash.specs.Layers.{output_row}
use Rattle.hash.proofs.Reading.{gives_none, unread_none, unread_fresh}
use Rattle.hash.proofs.block_output.BlockOutput.finish.Goals as goal

pub returns-then-is_empty : goal.returns-then-is_empty
returns-then-is_empty g c =
    let self = c.args.self.now in
    let row = g.S.Squeeze.row in
    gives_none (row self.below) (output_row row self) c.args.out.now (search rules) (unread_none self.buffer self.place g.row.SIZE (row self.below) c.requires.used)

pub returns : goal.returns
returns g c =
    let row = g.S.Squeeze.row in
    let n = g.row.SIZE in
    let block = c.squeeze-self.result in
    let fresh = unread_fresh block n (row c.args.self.now.below) (row c.squeeze-self.new.self) (rw (take_all n block (search rules)) c.squeeze-self.ensures) in
    rw (← fresh) c.give.ensures.given
