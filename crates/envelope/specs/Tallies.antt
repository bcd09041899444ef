-- What a tally of records stands for. Assumes nothing.
use Rattle.std.specs.Prelude.{◌≡◌, List, [], ◌∷◌, Some, None, Ok, Err, Option, Result}
use Rattle.fault.specs.declared.Fault.{Fault}
use Rattle.fault.specs.Numbers.{told}
use Rattle.envelope.specs.declared.kind.Kind.TheVariants.{Day}
use Rattle.envelope.specs.declared.kind.Set.{Set}
use Rattle.envelope.specs.declared.record.Part.{Part}
use Rattle.envelope.specs.declared.tally.Several.{Several}
use Rattle.envelope.specs.declared.tally.Tally.{Tally}
use Rattle.envelope.specs.Entries.{Entry}
use Rattle.envelope.specs.Judging.{Item, keys, signatures, days}
use Rattle.envelope.specs.Reading.{Outcome}

-- the only one so far, if there is one, or that there are several
abbrev pub Only : Type 0 → Type 0
Only X = Result (Option X) Several

-- of a list
abbrev pub only_of : {X : Type 0} → List X → Only X
only_of [] = Ok None
only_of (x ∷ []) = Ok (Some x)
only_of (x ∷ y ∷ zs) = Err (record {})

-- with one more
abbrev pub more : {X : Type 0} → Only X → X → Only X
more (Ok None) x = Ok (Some x)
more (Ok (Some y)) x = Err (record {})
more (Err e) x = Err e

abbrev pub each_only : {X Y : Type 0} → (X → Y) → Only X → Only Y
each_only f (Ok None) = Ok None
each_only f (Ok (Some x)) = Ok (Some (f x))
each_only f (Err e) = Err e

abbrev pub part_item : Set × Part → Item
part_item p = record { set = p.0; place = p.1.place; bytes = p.1.bytes.now }

abbrev pub part_day : Part → Entry
part_day p = record { place = p.place; kind = Day; body = p.bytes.now }

-- the tally is that of these records
pub record Tallies (t : Tally) (es : List Entry) : Type 0 where
  pub of_keys : each_only part_item t.keys ≡ only_of (keys es)
  pub of_signatures : each_only part_item t.signatures ≡ only_of (signatures es)
  pub of_days : each_only part_day t.days ≡ only_of (days es)

-- where a reading ended without a fault, the tally is that of its records; else the fault is the reading's
abbrev pub Tallied : Result Tally Fault → Outcome → Type 0
Tallied (Ok t) o = (o.fault ≡ None) × Tallies t o.entries
Tallied (Err f) o = o.fault ≡ Some (told f)
