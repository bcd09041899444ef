use Rattle.std.proofs.Common.{refl}
use Rattle.hash.specs.Sha256.{constants}
use Rattle.hash.proofs.compression.round_constants.Goals as goal

-- the table is what the rule gives, by computation
pub returns : goal.returns
unfolding constants
returns c = refl
