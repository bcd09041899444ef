use Rattle.std.proofs.Common.{refl}
use Rattle.hash.specs.Keccak.{constants, round_constant}
use Rattle.hash.proofs.keccak.round_constants.Goals as goal

-- the table is what the rule gives, by computation
pub returns : goal.returns
unfolding constants round_constant
returns c = refl
