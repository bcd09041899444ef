use Rattle.hash.specs.Sha256.{started}
use Rattle.hash.proofs.RoundLaws.{four_sums}
use Rattle.hash.proofs.compression.four_rounds.Goals as goal

pub returns : goal.returns
returns c =
    rw (c.round-4.ensures, c.round-3.ensures, c.round-2.ensures, c.round.ensures)
    (four_sums c.args.k c.args.w (started c.args.v) c.fits-k.0 c.fits-w.0)
