use Rattle.std.proofs.Common.{◌≡◌, length, take, arith, rules}
use Rattle.hash.specs.Keccak.{permuted}
use Rattle.hash.specs.Lanes.{lanes_of}
use Rattle.hash.specs.Shake128.{permuted_times, squeezed, state_bytes}
use Rattle.hash.proofs.Reading.{blocks_give}
use Rattle.hash.proofs.shake128.StateSqueezeRATE.squeeze.Goals as goal

pub returns : goal.returns
unfolding squeezed
returns c =
    let A = permuted (lanes_of c.args.self.now) in
    let block = c.front_block.result in
    let filled : block ≡ take 168 (state_bytes A) = cc in
    let size : length block ≡ 168 = search rules in
    rw c.permute.ensures (blocks_give 168 (λ n. state_bytes (permuted_times n A)) block (omega arith) size filled)
