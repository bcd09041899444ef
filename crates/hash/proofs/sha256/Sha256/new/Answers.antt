use Rattle.hash.specs.Digest.{pending}
use Rattle.hash.specs.Sha256.{sha256}
use Rattle.hash.proofs.sha256.Sha256.new.Goals as goal

pub returns : goal.returns
unfolding pending sha256
returns c = cc
