use Rattle.std.proofs.Common.{rules}
use Rattle.hash.specs.Mgf1.{mgf1}
use Rattle.hash.proofs.mgf1.Mgf1Sha256Hash.start.Goals as goal

pub returns : goal.returns
unfolding mgf1
returns c = search rules
