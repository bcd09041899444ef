use Rattle.std.proofs.Common.{◌+◌, ◌*◌, ◌%◌, ◌^◌, arith, rules}
use mathlib.Core.Path.{fun_ext}
use Rattle.hash.proofs.ShaLaws.{digest_block, digest-mod}
use Rattle.hash.proofs.sha256.ShaBlocksAbsorbBLOCK.absorb.Goals as goal

pub returns : goal.returns
returns c =
    let self = c.args.self.now in
    let next = (64 * self.count + 64) % 2 ^ 61 in
    let last = 64 * ((self.count + 1) % 2 ^ 64) in
    fun_ext (λ m.
    rw (c.compress-self.ensures, digest_block self.chain.words c.args.block.now m (64 * self.count) (search rules)) (digest-mod _ last next m (omega arith)))
