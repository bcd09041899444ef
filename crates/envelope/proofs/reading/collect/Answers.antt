use Rattle.std.proofs.lemmas.List.{map_push}
use Rattle.envelope.specs.Entries.{entry}
use Rattle.envelope.proofs.Readings.{ended, stopped, one_more}
use Rattle.envelope.proofs.reading.collect.Goals.{in-Ok-None, in-Err}
use Rattle.envelope.proofs.reading.collect.Goals as goal

pub loop-record-preserved : goal.loop-record-preserved
loop-record-preserved c =
    let told = c.in-Ok-Some.ensures in
    rw (c.in_ok-push-in-Ok-Some.ensures.items, map_push entry) (one_more c.loop-record.invariant _ _ _ _ c.in-Ok-Some.field-0-is told.answers told.place told.rest)

pub returns : goal.returns
returns c =
    elim c.match-next.branch [
      | in-Ok-None w ↦ rw w.fault-is (ended c.loop-record.invariant (rw w.in-Ok-None.field-0-is at w.in-Ok-None.ensures.answers))
      | in-Err w ↦ rw w.fault-is (stopped c.loop-record.invariant _ w.in-Err.ensures.answers)
    ]
