use Rattle.std.proofs.Common.{rules, ◌≡◌, suc, ◌+◌, ◌-◌, arith}
use Rattle.hash_c.proofs.hash_permute.Goals as goal

pub loop-preserved : goal.loop-preserved
loop-preserved c =
    let one_more : c.args.times - c.loop.counter ≡ suc (c.args.times - (c.loop.counter + 1)) = omega arith in
    search (rules, one_more)
