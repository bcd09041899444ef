use Rattle.hash.specs.Keccak.{round}
use Rattle.hash.proofs.keccak.round.Goals as goal

pub returns : goal.returns
unfolding round
returns c = cc
