use Rattle.std.proofs.Common.{map, length, vec_items}
use Rattle.envelope.proofs.Readings.{Sofar}
use Rattle.envelope.specs.Entries.{entry}
use Rattle.envelope.specs.Readers.{remaining}
use Rattle.envelope.proofs.reading.collect.Given as goal

abbrev pub invariant-loop-record : goal.invariant-loop-record
invariant-loop-record l =
    Sofar (remaining l.initial.reader) (map entry (vec_items l.records)) l.reader.place l.reader.rest.now

abbrev pub decreases-loop-record : goal.decreases-loop-record
decreases-loop-record l = length l.reader.rest.now
