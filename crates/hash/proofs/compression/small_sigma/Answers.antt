use Rattle.std.proofs.lemmas.Simd.{pick_l_whole}
use Rattle.hash.proofs.compression.small_sigma.Goals as goal

pub returns : goal.returns
returns g c = rw (c.turned.ensures, c.turned-2.ensures, ← pick_l_whole 0 c.args.x 4 c.fits-x.0)
