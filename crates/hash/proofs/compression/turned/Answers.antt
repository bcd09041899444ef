use Rattle.std.proofs.lemmas.Simd.{pick_l_whole}
use Rattle.hash.proofs.compression.turned.Goals as goal

pub returns : goal.returns
returns g c = rw (← pick_l_whole 0 c.args.x 4 c.fits-x.0)
