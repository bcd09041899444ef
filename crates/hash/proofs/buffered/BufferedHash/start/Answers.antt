use Rattle.hash.proofs.buffered.BufferedHash.start.Goals as goal

pub returns : goal.returns
returns g c = cc
