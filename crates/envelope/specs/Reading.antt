-- What the bytes of an envelope are read as. Assumes nothing.
use Rattle.std.specs.Prelude.{ℕ, zero, suc, ◌+◌, cond, List, [], ◌∷◌, length, take, drop, Some, None, Ok, Err, Option, Result, nat_lt}
use Rattle.fault.specs.declared.Fault.{Fault}
use Rattle.fault.specs.declared.Origin.TheVariants.{Envelope}
use Rattle.fault.specs.declared.Refusal.{Refusal}
use Rattle.fault.specs.declared.Refusal.TheVariants.{UnknownKind, BodyCutShort}
use Rattle.fault.specs.Numbers.{number, letter, Told, told}
use Rattle.envelope.specs.declared.kind.Kind.{Kind}
use Rattle.envelope.specs.declared.record.Record.{Record}
use Rattle.envelope.specs.Entries.{Entry, entry, written}
use Rattle.envelope.specs.Kinds.{kind_of, body_length}

-- a fault of the envelope itself
abbrev pub fault_at : Refusal → ℕ → Told
fault_at refusal place = record { number = number refusal; letter = letter Envelope; place = place }

-- what stands at a place: the end, a record, or a fault
abbrev pub Next : Type 0
Next = Result (Option Entry) Told

-- a record of a kind, whose body is the front of the bytes
abbrev pub next_body : ℕ → Kind → List ℕ → Next
next_body place k bytes =
    cond (nat_lt (length bytes) (body_length k))
    (Err (fault_at BodyCutShort place))
    (Ok (Some (record { place = place; kind = k; body = take (body_length k) bytes })))

abbrev pub next_kind : ℕ → Option Kind → List ℕ → Next
next_kind place None bytes = Err (fault_at UnknownKind place)
next_kind place (Some k) bytes = next_body place k bytes

-- of the bytes from a place on
abbrev pub next_at : ℕ → List ℕ → Next
next_at place [] = Ok None
next_at place (b ∷ bytes) = next_kind place (kind_of b) bytes

-- how many bytes that takes: those of the record, if there is one
abbrev pub taken : Next → ℕ
taken (Ok (Some e)) = length (written e)
taken (Ok None) = 0
taken (Err f) = 0

-- what the reader answers, by what its records hold
abbrev pub answered : Result (Option Record) Fault → Next
answered (Ok (Some r)) = Ok (Some (entry r))
answered (Ok None) = Ok None
answered (Err f) = Err (told f)

-- the records of an envelope in their order, and the fault that ended the reading, if one did
pub record Outcome : Type 0 where
  pub entries : List Entry
  pub fault : Option Told

-- a record before what is read after it; the end or a fault is the last
abbrev pub continued : Next → Outcome → Outcome
continued (Ok (Some e)) more = record { entries = e ∷ more.entries; fault = more.fault }
continued (Ok None) more = record { entries = []; fault = None }
continued (Err f) more = record { entries = []; fault = Some f }

-- one record after the other from a place on, at most n of them
abbrev pub reading_within : ℕ → ℕ → List ℕ → Outcome
reading_within zero place bytes = record { entries = []; fault = None }
reading_within (suc n) place bytes =
    let next = next_at place bytes in
    continued next (reading_within n (place + taken next) (drop (taken next) bytes))

-- n bytes hold at most n records
abbrev pub reading_from : ℕ → List ℕ → Outcome
reading_from place bytes = reading_within (length bytes) place bytes

abbrev pub reading : List ℕ → Outcome
reading bytes = reading_from 0 bytes
