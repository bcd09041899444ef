use Rattle.std.proofs.Common.{length, ap, arith}
use Rattle.std.proofs.lemmas.List.{append-nil}
use Rattle.hash.specs.Digest.{pending}
use Rattle.hash.proofs.sha256.Sha256.finish.Goals as goal

pub returns : goal.returns
unfolding pending
returns c =
    let count = ap length c.bytes.ensures.held in
    rw append-nil (c.finish.ensures _ (omega arith) (omega (arith, count)))
