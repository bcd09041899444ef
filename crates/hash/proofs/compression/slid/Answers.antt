use Rattle.std.proofs.Common.{rules}
use Rattle.hash.proofs.WindowLaws.{pushed}
use Rattle.hash.proofs.compression.slid.Goals as goal

pub returns : goal.returns
returns c =
    let w = c.args.w in
    rw (← c.next_four.ensures) (pushed w.first w.second w.third w.fourth c.next_four.result (search rules))
