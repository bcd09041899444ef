-- What a reader has still to give. Assumes nothing.
use Rattle.envelope.specs.declared.reader.Reader.{Reader}
use Rattle.envelope.specs.Reading.{Outcome, reading_from}

abbrev pub remaining : Reader → Outcome
remaining r = reading_from r.place r.rest.now
