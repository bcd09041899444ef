-- The kinds of records: the byte that each begins with, and the length of its body. Assumes nothing.
use Rattle.std.specs.Prelude.{ℕ, cond, List, [], ◌∷◌, Some, None, Option, ◌==◌}
use Rattle.envelope.specs.declared.kind.Kind.{Kind}
use Rattle.envelope.specs.declared.kind.Kind.TheVariants.{Key, Signature, Day}
use Rattle.envelope.specs.declared.kind.Set.{Set}
use Rattle.envelope.specs.declared.kind.Set.TheVariants.{S16, Rehearsal}

abbrev pub key_length : Set → ℕ
key_length S16 = 32
key_length Rehearsal = 17

abbrev pub signature_length : Set → ℕ
signature_length S16 = 5904
signature_length Rehearsal = 648

abbrev pub kind_byte : Kind → ℕ
kind_byte (Key S16) = 1
kind_byte (Signature S16) = 2
kind_byte (Key Rehearsal) = 3
kind_byte (Signature Rehearsal) = 4
kind_byte Day = 5

abbrev pub body_length : Kind → ℕ
body_length (Key s) = key_length s
body_length (Signature s) = signature_length s
body_length Day = 4

abbrev pub kinds : List Kind
kinds = Key S16 ∷ Signature S16 ∷ Key Rehearsal ∷ Signature Rehearsal ∷ Day ∷ []

-- the first of some kinds that begins with the byte b
abbrev pub kind_among : List Kind → ℕ → Option Kind
kind_among [] b = None
kind_among (k ∷ ks) b = cond (kind_byte k == b) (Some k) (kind_among ks b)

-- the kind that begins with the byte b, if there is one
abbrev pub kind_of : ℕ → Option Kind
kind_of b = kind_among kinds b
