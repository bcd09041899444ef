-- Which envelopes hold what a signature check needs. Assumes nothing.
use Rattle.std.specs.Prelude.{◌≡◌, ℕ, ◌≤◌, Bool, true, false, cond, ◌&&◌, List, [], ◌∷◌, length, Some, None, Ok, Err, Option, Result, nat_le}
use Rattle.std.specs.List.{flat_map}
use Rattle.std.specs.Option.{ok_or}
use Rattle.fault.specs.declared.Fault.{Fault}
use Rattle.fault.specs.declared.Refusal.TheVariants.{NotOneCouple}
use Rattle.fault.specs.Numbers.{Told, told}
use Rattle.envelope.specs.declared.couple.Couple.{Couple}
use Rattle.envelope.specs.declared.kind.Kind.{Kind}
use Rattle.envelope.specs.declared.kind.Kind.TheVariants.{Key, Signature, Day}
use Rattle.envelope.specs.declared.kind.Set.{Set}
use Rattle.envelope.specs.declared.kind.Set.TheVariants.{S16, Rehearsal}
use Rattle.envelope.specs.Entries.{Entry, written}
use Rattle.envelope.specs.Law.{Placed}
use Rattle.envelope.specs.Reading.{fault_at, reading}

-- a key or a signature of a set
pub record Item : Type 0 where
  pub set : Set
  pub place : ℕ
  pub bytes : List ℕ

abbrev pub item : Set → Entry → Item
item s e = record { set = s; place = e.place; bytes = e.body }

-- the record as a key, as a signature, as a day, if it is one
abbrev pub as_key : Kind → Entry → List Item
as_key (Key s) e = item s e ∷ []
as_key (Signature s) e = []
as_key Day e = []

abbrev pub as_signature : Kind → Entry → List Item
as_signature (Key s) e = []
as_signature (Signature s) e = item s e ∷ []
as_signature Day e = []

abbrev pub as_day : Kind → Entry → List Entry
as_day (Key s) e = []
as_day (Signature s) e = []
as_day Day e = e ∷ []

-- those among some records
abbrev pub keys : List Entry → List Item
keys es = flat_map (λ e. as_key e.kind e) es

abbrev pub signatures : List Entry → List Item
signatures es = flat_map (λ e. as_signature e.kind e) es

abbrev pub days : List Entry → List Entry
days es = flat_map (λ e. as_day e.kind e) es

-- one key, one signature, both of one set, and at most one day, in any order
pub record Couples (es : List Entry) (key signature : Item) : Type 0 where
  pub one_key : keys es ≡ key ∷ []
  pub one_signature : signatures es ≡ signature ∷ []
  pub one_set : key.set ≡ signature.set
  pub few_days : length (days es) ≤ 1

-- an envelope that is written out of such records
pub record Checkable (bytes : List ℕ) (key signature : Item) : Type 0 where
  pub entries : List Entry
  pub placed : Placed 0 entries
  pub whole : flat_map written entries ≡ bytes
  pub couples : Couples entries key signature

-- the key and the signature of an answer
abbrev pub key_item : Couple → Item
key_item c = record { set = c.set; place = c.key.place; bytes = c.key.bytes.now }

abbrev pub signature_item : Couple → Item
signature_item c = record { set = c.set; place = c.signature.place; bytes = c.signature.bytes.now }

-- what the judge answers: a key and a signature, or a fault
abbrev pub Verdict : Type 0
Verdict = Result (Item × Item) Told

abbrev pub couple_items : Couple → Item × Item
couple_items c = (key_item c, signature_item c)

abbrev pub verdict : Result Couple Fault → Verdict
verdict (Ok c) = Ok (couple_items c)
verdict (Err f) = Err (told f)

abbrev pub same_set : Set → Set → Bool
same_set S16 S16 = true
same_set S16 Rehearsal = false
same_set Rehearsal S16 = false
same_set Rehearsal Rehearsal = true

-- the only one of a list
abbrev pub only : {X : Type 0} → List X → Option X
only [] = None
only (x ∷ []) = Some x
only (x ∷ y ∷ zs) = None

abbrev pub coupled : Option Item → Option Item → Bool → Option (Item × Item)
coupled None s few = None
coupled (Some k) None few = None
coupled (Some k) (Some s) few = cond (same_set k.set s.set && few) (Some (k, s)) None

-- the key and the signature among some records, where they make a couple
abbrev pub couple_of : List Entry → Option (Item × Item)
couple_of es = coupled (only (keys es)) (only (signatures es)) (nat_le (length (days es)) 1)

-- a fault of the reading comes first, and then 14 at the envelope's length
abbrev pub judged : Option Told → List Entry → ℕ → Verdict
judged (Some f) es n = Err f
judged None es n = ok_or (couple_of es) (fault_at NotOneCouple n)

abbrev pub judgement : List ℕ → Verdict
judgement bytes = judged (reading bytes).fault (reading bytes).entries (length bytes)

-- the judge accepts exactly the envelopes that can be checked, with their key and signature
abbrev pub Exact : List ℕ → Verdict → Type 0
Exact bytes (Ok c) = Checkable bytes c.0 c.1
Exact bytes (Err f) = (k s : Item) → Checkable bytes k s → ⊥
