-- The law of reading: what is read is what stands in the envelope. Assumes nothing.
use Rattle.std.specs.Prelude.{◌≡◌, ℕ, ◌+◌, ◌<◌, ◌⊎◌, List, [], ◌∷◌, length, take, drop, Some, None, ◌≢◌}
use Rattle.std.specs.List.{flat_map}
use Rattle.fault.specs.declared.Origin.TheVariants.{Envelope}
use Rattle.fault.specs.declared.Refusal.TheVariants.{UnknownKind, BodyCutShort}
use Rattle.fault.specs.Numbers.{number, letter, Told}
use Rattle.envelope.specs.declared.kind.Kind.{Kind}
use Rattle.envelope.specs.Entries.{Entry, written}
use Rattle.envelope.specs.Kinds.{kind_byte, body_length}
use Rattle.envelope.specs.Reading.{Outcome}

-- each record has a body of its kind's length, and they stand one after the other from a place on
abbrev pub Placed : ℕ → List Entry → Type 0
Placed place [] = Unit {0}
Placed place (e ∷ es) = (e.place ≡ place) × (length e.body ≡ body_length e.kind) × Placed (place + length (written e)) es

-- no kind begins with this byte
abbrev pub Unknown : ℕ → Type 0
Unknown b = (k : Kind) → kind_byte k ≢ b

-- a kind begins with this byte, and its body is longer than what is left
abbrev pub Short : ℕ → List ℕ → Type 0
Short b left = (k : Kind) × (kind_byte k ≡ b) × (length left < body_length k)

-- what stands where a reading is refused: with the one number an unknown kind, with the other a body cut short
abbrev pub Stands : ℕ → List ℕ → Type 0
Stands n [] = ⊥
Stands n (b ∷ left) = ((n ≡ number UnknownKind) × Unknown b) ⊎ ((n ≡ number BodyCutShort) × Short b left)

-- a reading that stopped at a fault
pub record Stopped (bytes : List ℕ) (es : List Entry) (f : Told) : Type 0 where
  pub origin : f.letter ≡ letter Envelope
  pub before : flat_map written es ≡ take f.place bytes
  pub stands : Stands f.number (drop f.place bytes)

pub record Faithful (bytes : List ℕ) (o : Outcome) : Type 0 where
  pub placed : Placed 0 o.entries
  -- where there is no fault, the records written out one after the other are the envelope
  pub whole : o.fault ≡ None → flat_map written o.entries ≡ bytes
  -- where there is one, the bytes before its place are the records, and what stands there cannot be read
  pub stopped : (f : Told) → o.fault ≡ Some f → Stopped bytes o.entries f
  -- an envelope that can be written out of records is read as these, and in no other way
  pub only : (es : List Entry) → Placed 0 es → flat_map written es ≡ bytes → (o.entries ≡ es) × (o.fault ≡ None)
