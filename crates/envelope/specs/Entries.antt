-- What a record of an envelope is, apart from where its bytes are held. Assumes nothing.
use Rattle.std.specs.Prelude.{ℕ, List, ◌∷◌}
use Rattle.envelope.specs.declared.kind.Kind.{Kind}
use Rattle.envelope.specs.declared.kind.Kind.TheVariants as kinds
use Rattle.envelope.specs.declared.record.Record.{Record}
use Rattle.envelope.specs.declared.record.Record.TheVariants.{Key, Signature, Day}
use Rattle.envelope.specs.Kinds.{kind_byte}

-- the place of the kind byte, the kind, and the body
pub record Entry : Type 0 where
  pub place : ℕ
  pub kind : Kind
  pub body : List ℕ

-- what a record holds
abbrev pub entry : Record → Entry
entry (Key s p) = record { place = p.place; kind = kinds.Key s; body = p.bytes.now }
entry (Signature s p) = record { place = p.place; kind = kinds.Signature s; body = p.bytes.now }
entry (Day p) = record { place = p.place; kind = kinds.Day; body = p.bytes.now }

-- a record as it is written: its kind byte, then its body
abbrev pub written : Entry → List ℕ
written e = kind_byte e.kind ∷ e.body
