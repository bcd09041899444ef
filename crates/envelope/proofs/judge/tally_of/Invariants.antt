use Rattle.std.proofs.Common.{List, length}
use Rattle.envelope.proofs.Readings.{Sofar}
use Rattle.envelope.specs.Entries.{Entry}
use Rattle.envelope.specs.Readers.{remaining}
use Rattle.envelope.specs.Tallies.{Tallies}
use Rattle.envelope.proofs.judge.tally_of.Given as goal

-- the tally is that of the records before the reader
abbrev pub invariant-loop-record : goal.invariant-loop-record
invariant-loop-record l = (es : List Entry) × Sofar (remaining l.initial.reader) es l.reader.place l.reader.rest.now × Tallies l.tally es

abbrev pub decreases-loop-record : goal.decreases-loop-record
decreases-loop-record l = length l.reader.rest.now
