use Rattle.hash.specs.Layers.{held_bytes}
use Rattle.hash.proofs.ShaLaws.{digest_long, digest_short}
use Rattle.hash.proofs.compression.finish.Goals as goal

pub returns-then-bytes-lt56 : goal.returns-then-bytes-lt56
returns-then-bytes-lt56 c n whole count =
    rw (c.chain_bytes.ensures, c.compress.ensures, c.counted.ensures, c.marked-block.ensures.block) (digest_short c.args.chain.words (held_bytes c.args.held.now) n c.args.total whole count c.marked-block.ensures.room (rw c.bytes.ensures.held at c.if-bytes-lt56.true))

pub returns : goal.returns
returns c n whole count =
    rw (c.chain_bytes-2.ensures, c.compress-2.ensures, c.compress-next.ensures, c.counted-2.ensures, c.marked-block.ensures.block) (digest_long c.args.chain.words (held_bytes c.args.held.now) n c.args.total whole count c.marked-block.ensures.room (rw c.bytes.ensures.held at c.if-bytes-lt56.false))
