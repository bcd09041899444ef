use Rattle.std.proofs.Common.{rules}
use Rattle.hash.proofs.WindowLaws.{following_is}
use Rattle.hash.proofs.compression.next_four.Goals as goal

pub returns : goal.returns
returns c =
    let w = c.args.w in
    rw (c.small_sigma-3.ensures, c.small_sigma-2.ensures, c.small_sigma.ensures)
    (following_is w.first w.second w.third w.fourth (search rules) (search rules) (search rules) (search rules))
