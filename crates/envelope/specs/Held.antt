-- What the library's own reading holds. Assumes nothing.
use Rattle.std.specs.Prelude.{map, vec_items}
use Rattle.std.specs.Option.{option_map}
use Rattle.fault.specs.Numbers.{told}
use Rattle.envelope.specs.declared.reading.Reading.{Reading}
use Rattle.envelope.specs.Entries.{entry}
use Rattle.envelope.specs.Reading.{Outcome}

abbrev pub held : Reading → Outcome
held r = record { entries = map entry (vec_items r.records); fault = option_map told r.fault }
