use Rattle.std.proofs.Common.{◌≡◌, ◌-◌}
use Rattle.hash.specs.Keccak.{blank}
use Rattle.hash.specs.Lanes.{lanes_of}
use Rattle.hash.specs.Shake128.{permuted_times}
use Rattle.hash_c.proofs.hash_permute.Given as goal

abbrev pub invariant-loop : goal.invariant-loop
invariant-loop l = permuted_times (l.times - l.counter) (lanes_of l.state) ≡ permuted_times l.times blank
