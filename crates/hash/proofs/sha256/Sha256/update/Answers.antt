use Rattle.hash.specs.Digest.{pending}
use Rattle.hash.proofs.sha256.Sha256.update.Goals as goal

pub returns : goal.returns
unfolding pending
returns c = c.put.ensures
