use Rattle.std.proofs.Common.{refl}
use Rattle.hash.specs.Keccak.{distance}
use Rattle.hash.proofs.keccak.rotations.Goals as goal

-- the table is what the rule gives, by computation
pub returns : goal.returns
unfolding distance
returns c = refl
