use Rattle.std.proofs.Common.{◌≡◌, ◌++◌, map, take, string_bytes}
use Rattle.std.specs.List.{flat_map}
use Rattle.envelope.specs.Entries.{entry}
use Rattle.listing.specs.Listing.{head_line, record_line}
use Rattle.listing.proofs.list.Given as goal

-- the lines of the records so far
abbrev pub invariant-loop-record : goal.invariant-loop-record
invariant-loop-record l = string_bytes l.text ≡ head_line ++ flat_map record_line (map entry (take l.record-index l.record-items))
