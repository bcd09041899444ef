use Rattle.std.proofs.Common.{sym, ap, rules}
use mathlib.Core.Path.{fun_ext}
use Rattle.hash.specs.Lanes.{lanes_of}
use Rattle.hash.specs.Shake128.{squeezed}
use Rattle.hash.proofs.Sponges.{sponge_block}
use Rattle.hash.proofs.shake128.SpongeAbsorbRATE.absorb.Goals as goal

pub returns : goal.returns
returns c =
    fun_ext (λ m. rw (c.permute.ensures, c.mix.ensures) (ap squeezed (sym (sponge_block (lanes_of c.args.self.now.0) c.args.block.now m (search rules)))))
