-- One step of a reading. Assumes nothing.
use Rattle.std.proofs.Common.{◌≡◌, ℕ, ◌≤◌, List, length, get_or, take, drop, Some, Ok, Option, Result, arith}
use Rattle.std.specs.Option.{ok_or}
use Rattle.std.specs.Result.{MatchResult}
use Rattle.std.proofs.lemmas.Bool.Decides.{nat_tests}
use Rattle.fault.specs.declared.Fault.{Fault}
use Rattle.fault.specs.declared.Refusal.{Refusal}
use Rattle.fault.specs.declared.Refusal.TheVariants.{UnknownKind}
use Rattle.envelope.specs.declared.kind.Kind.{Kind}
use Rattle.envelope.specs.Kinds.{kind_of, body_length}
use Rattle.envelope.specs.Reading.{next_at, Next}

-- the kind of a byte, as `?` lets it through
pub known_from : (o : Option Kind) (k : Kind) {r : Result Kind Refusal} → r ≡ ok_or o UnknownKind → MatchResult r (λ x. ◌≡◌ {A = Result Kind Fault} (Ok k) (Ok x)) (λ e. ⊥) → o ≡ Some k
known_from o k is through = grind arith

-- where a byte of kind k stands before enough bytes, the next record is these
pub found : (place : ℕ) (all : List ℕ) (k : Kind) → kind_of (get_or all 0 0) ≡ Some k → body_length k ≤ length (drop 1 all)
    → ◌≡◌ {A = Next} (Ok (Some (record { place = place; kind = k; body = take (body_length k) (drop 1 all) }))) (next_at place all)
found place all k known long = grind (arith, nat_tests)
