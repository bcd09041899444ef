-- A fault by its number, the letter of its origin, and its place. Assumes nothing.
use Rattle.std.specs.Prelude.{ℕ, List, codes}
use Rattle.fault.specs.declared.Fault.{Fault}
use Rattle.fault.specs.declared.Origin.{Origin}
use Rattle.fault.specs.declared.Origin.TheVariants.{Envelope, Scheme}
use Rattle.fault.specs.declared.Refusal.{Refusal}
use Rattle.fault.specs.declared.Refusal.TheVariants.{SecretLength, PublicKeyLength, RandomnessLength, SignatureLength, WorkTooShort, MessageTooLong, WrongSecret, RegisterFull, SaltListed, FirstChallenge, SecondChallenge, UnknownKind, BodyCutShort, NotOneCouple}

abbrev pub number : Refusal → ℕ
number SecretLength = 1
number PublicKeyLength = 2
number RandomnessLength = 3
number SignatureLength = 4
number WorkTooShort = 5
number MessageTooLong = 6
number WrongSecret = 7
number RegisterFull = 8
number SaltListed = 9
number FirstChallenge = 10
number SecondChallenge = 11
number UnknownKind = 12
number BodyCutShort = 13
number NotOneCouple = 14

-- what an origin is written as
abbrev pub letter : Origin → List ℕ
letter Envelope = codes "E"
letter Scheme = codes "S"

pub record Told : Type 0 where
  pub number : ℕ
  pub letter : List ℕ
  pub place : ℕ

abbrev pub told : Fault → Told
told f = record { number = number f.refusal; letter = letter f.origin; place = f.place }
