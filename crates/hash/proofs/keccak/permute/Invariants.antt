use Rattle.std.proofs.Common.{◌≡◌, drop}
use Rattle.hash.specs.Keccak.{constants, permuted, rounds}
use Rattle.hash.specs.Lanes.{lanes_of}
use Rattle.hash.proofs.keccak.permute.Given as goal

abbrev pub invariant-loop-constant : goal.invariant-loop-constant
invariant-loop-constant l = rounds (drop l.constant-index constants) (lanes_of l.a) ≡ permuted (lanes_of l.initial.a)
