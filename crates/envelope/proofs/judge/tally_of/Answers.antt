use Rattle.envelope.proofs.Readings.{one_more}
use Rattle.envelope.proofs.judge.tally_of.Goals as goal

pub loop-record-preserved : goal.loop-record-preserved
loop-record-preserved c =
    let told = c.in_ok-record.ensures in
    let old = c.loop-record.invariant in
    (_, one_more old.1 _ _ _ _ c.in-Some.is told.answers told.place told.rest, c.add.ensures old.0 old.2)
