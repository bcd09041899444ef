use Rattle.std.proofs.Common.{length, ◌∙◌, rules}
use Rattle.hash.proofs.Reading.{unread_gives}
use Rattle.hash.proofs.block_output.BlockOutput.give.Goals as goal

pub returns-clause-given : goal.returns-clause-given
returns-clause-given g c =
    let self = c.args.self.now in
    let next = unread_gives self.buffer self.place (length c.args.out.now) g.row.SIZE (g.S.Squeeze.row self.below) c.requires (search rules) in
    record { filled = c.copy_from_slice.ensures.after ∙ next.filled; rest = next.rest }
