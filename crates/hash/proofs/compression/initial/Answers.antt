use Rattle.std.proofs.Common.{refl}
use Rattle.hash.specs.Sha256.{initial}
use Rattle.hash.proofs.compression.initial.Goals as goal

-- the table is what the rule gives, by computation
pub returns : goal.returns
unfolding initial
returns c = refl
