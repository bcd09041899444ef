-- The law of reading. Assumes nothing.
use Rattle.std.proofs.Common.{◌≡◌, ℕ, zero, suc, ◌+◌, ◌≤◌, List, [], ◌∷◌, ◌++◌, length, take, drop, Some, None, Ok, Option, refl, ◌∙◌, subst, inl, inr, ⊎_elim, append_assoc, arith, length-append, length-drop, take-append-drop}
use Rattle.std.proofs.lemmas.List.{length-take-le, take_at, drop_at}
use Rattle.std.proofs.lemmas.Bool.{cases_lt, lt-ltb, le-ltb}
use Rattle.std.proofs.lemmas.Bool.Decides.{nat_tests}
use Rattle.std.proofs.lemmas.Grind.{common_steps}
use Rattle.std.specs.List.{flat_map}
use Rattle.fault.specs.declared.Origin.TheVariants.{Envelope}
use Rattle.fault.specs.declared.Refusal.TheVariants.{UnknownKind, BodyCutShort}
use Rattle.fault.specs.declared.Refusal.{Refusal}
use Rattle.fault.specs.Numbers.{letter, number, Told}
use Rattle.envelope.specs.declared.kind.Kind.{Kind}
use Rattle.envelope.specs.Entries.{Entry, written}
use Rattle.envelope.specs.Kinds.{kind_byte, body_length, kind_of}
use Rattle.envelope.specs.Law.{Placed, Stands, Faithful}
use Rattle.envelope.specs.Reading.{Outcome, next_at, next_kind, continued, fault_at, reading_from, reading}
use Rattle.envelope.proofs.Steps.{found}
use Rattle.envelope.proofs.Readings.{onward, step}

pub kind_of-kind_byte : (k : Kind) → kind_of (kind_byte k) ≡ Some k
kind_of-kind_byte k = grind (arith, nat_tests)

-- where a reading ends, with the bytes left: at the last byte, or at a fault that stands there
abbrev Ends : ℕ → List ℕ → Option Told → Type 0
Ends place left None = left ≡ []
Ends place left (Some f) = (f.letter ≡ letter Envelope) × (f.place ≡ place) × Stands f.number left

-- the law for the bytes from a place on
record From (place : ℕ) (bytes : List ℕ) (o : Outcome) : Type 0 where
  placed : Placed place o.entries
  left : List ℕ
  all : flat_map written o.entries ++ left ≡ bytes
  ends : Ends (place + length (flat_map written o.entries)) left o.fault

-- nothing is read where a fault stands
refused : (place b : ℕ) (bytes : List ℕ) (r : Refusal) → Stands (number r) (b ∷ bytes) → From place (b ∷ bytes) (record { entries = []; fault = Some (fault_at r place) })
refused place b bytes r stands = record { placed = tt; left = b ∷ bytes; all = refl; ends = (refl, omega arith, stands) }

-- a record, and what is read after it
whole : (place : ℕ) (bytes : List ℕ) (e : Entry) (left : List ℕ) (o : Outcome) → written e ++ left ≡ bytes → e.place ≡ place → length e.body ≡ body_length e.kind
    → From (place + length (written e)) left o → From place bytes (continued (Ok (Some e)) o)
whole place bytes e left o is at size next =
    let more : List ℕ = flat_map written o.entries in
    record {
      placed = (at, size, next.placed);
      left = next.left;
      all = rw (append_assoc e.body more next.left, next.all) is;
      ends = subst (λ p. Ends p next.left o.fault) (omega (arith, length-append e.body more)) next.ends;
    }

-- whatever stands first, if the law holds of what is left
first : (place b : ℕ) (bytes : List ℕ) → ((p : ℕ) (left : List ℕ) → length left ≤ length bytes → From p left (reading_from p left))
    → From place (b ∷ bytes) (onward reading_from (next_at place (b ∷ bytes)) place (b ∷ bytes))
first place b bytes rest = go (kind_of b) refl
  where
    go : (o : Option Kind) → kind_of b ≡ o → From place (b ∷ bytes) (onward reading_from (next_kind place o bytes) place (b ∷ bytes))
    go None e = refused place b bytes UnknownKind (inl (refl, λ k is. grind (arith, kind_of-kind_byte)))
    go (Some k) e =
        let body : List ℕ = take (body_length k) bytes in
        let is : kind_byte k ≡ b = grind (arith, nat_tests) in
        ⊎_elim
        (λ less. rw (lt-ltb (length bytes) (body_length k) less) (refused place b bytes BodyCutShort (inr (refl, (k, is, less)))))
        (λ long.
        let size : length body ≡ body_length k = length-take-le (body_length k) bytes long in
        rw (le-ltb (length bytes) (body_length k) long)
        (whole place (b ∷ bytes) (record { place = place; kind = k; body = body }) (drop (length body) bytes) _ (rw (is, size, take-append-drop (body_length k) bytes) refl) refl size (rest _ _ (omega (arith, length-drop (length body) bytes)))))
        (cases_lt (length bytes) (body_length k))

from : (n place : ℕ) (bytes : List ℕ) → length bytes ≤ n → From place bytes (reading_from place bytes)
from n place [] h = record { placed = tt; left = []; all = refl; ends = refl }
from zero place (b ∷ bytes) h = absurd (omega arith)
from (suc n) place (b ∷ bytes) h = rw (step place (b ∷ bytes)) (first place b bytes (λ p left less. from n p left (omega arith)))

-- records that are written out are read again
again : (place : ℕ) (es : List Entry) → Placed place es → reading_from place (flat_map written es) ≡ record { entries = es; fault = None }
again place [] p = refl
again place (e ∷ es) p =
    let more : List ℕ = flat_map written es in
    let here = found place (flat_map written (e ∷ es)) e.kind (kind_of-kind_byte e.kind) (omega (arith, p.1, length-append e.body more)) in
    let known : next_at place (flat_map written (e ∷ es)) ≡ Ok (Some e) = rw (← here, take_at e.body more (body_length e.kind) p.1, ← p.0) refl in
    step place (flat_map written (e ∷ es)) ∙ rw (known, drop_at e.body more (length e.body) refl, again (place + length (written e)) es p.2) refl

pub law : (bytes : List ℕ) → Faithful bytes (reading bytes)
law bytes =
    let all = from (length bytes) 0 bytes (omega arith) in
    record {
      placed = all.placed;
      whole = λ e. let none : all.left ≡ [] = rw e at all.ends in grind (arith, common_steps, all.all);
      stopped = λ f e.
          let s = rw e at all.ends in
          let here : all.left ≡ drop f.place bytes = grind (arith, common_steps, all.all, s.1) in
          record { origin = s.0; before = grind (arith, common_steps, all.all, s.1); stands = rw (← here) s.2 };
      only = λ es p e. rw (← e, again 0 es p) (refl, refl);
    }
