use Rattle.std.proofs.Common.{◌≡◌, ◌-◌, ◌%◌, length, arith}
use Rattle.hash.specs.Layers.{held_bytes}
use Rattle.hash.proofs.Sponges.{padded_is}
use Rattle.hash.proofs.shake128.padded.Goals as goal

pub returns : goal.returns
returns c =
    let held = held_bytes c.args.held.now in
    let room = c.marked-block.ensures.room in
    let n : 167 - length held ≡ 167 - length held % 168 = omega arith in
    rw (c.marked-block.ensures.block, padded_is held (167 - length held) (omega arith), n)
