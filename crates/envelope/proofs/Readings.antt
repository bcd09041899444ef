-- Readings step by step, as a loop over `next` takes them. Assumes nothing.
use Rattle.std.proofs.Common.{◌≡◌, ℕ, zero, suc, ◌+◌, ◌≤◌, List, [], ◌∷◌, ◌++◌, length, drop, Some, None, Ok, Err, Option, refl, ap, arith, length-drop}
use Rattle.std.proofs.lemmas.Grind.{common_steps}
use Rattle.fault.specs.Numbers.{Told}
use Rattle.envelope.specs.declared.record.Record.{Record}
use Rattle.envelope.specs.Entries.{Entry, entry}
use Rattle.envelope.specs.Reading.{Next, Outcome, next_at, taken, continued, reading_within, reading_from, answered}

-- an answer, and what is read after it
abbrev pub onward : (ℕ → List ℕ → Outcome) → Next → ℕ → List ℕ → Outcome
onward read x place bytes = continued x (read (place + taken x) (drop (taken x) bytes))

-- after a step fewer bytes are left, so two ways to read on are one if they agree there
after_step : (x : Next) (place b : ℕ) (bytes : List ℕ) (F G : ℕ → List ℕ → Outcome) → ((p : ℕ) (left : List ℕ) → length left ≤ length bytes → F p left ≡ G p left)
    → onward F x place (b ∷ bytes) ≡ onward G x place (b ∷ bytes)
after_step (Ok (Some e)) place b bytes F G same =
    ap (continued (Ok (Some e))) (same _ _ (omega (arith, length-drop (length e.body) bytes)))
after_step x place b bytes F G same = refl

-- the same is read in any number of turns that is enough
enough : (m n place : ℕ) (bytes : List ℕ) → length bytes ≤ m → length bytes ≤ n → reading_within m place bytes ≡ reading_within n place bytes
enough zero zero place bytes lm ln = refl
enough (suc m) (suc n) place (b ∷ bytes) lm ln =
    after_step (next_at place (b ∷ bytes)) place b bytes (reading_within m) (reading_within n) (λ p left h. enough m n p left (omega arith) (omega arith))
enough (suc m) zero place [] lm ln = refl
enough m n place (b ∷ bytes) lm ln = absurd (omega arith)
enough m n place [] lm ln = refl

-- a reading is its first step and the reading of what is left
pub step : (place : ℕ) (bytes : List ℕ) → reading_from place bytes ≡ onward reading_from (next_at place bytes) place bytes
step place [] = refl
step place (b ∷ bytes) =
    after_step (next_at place (b ∷ bytes)) place b bytes (reading_within (length bytes)) reading_from (λ p left h. enough (length bytes) (length left) p left h (omega arith))

-- the reading all is the records es, and what is read from a place on, where left are the bytes
pub record Sofar (all : Outcome) (es : List Entry) (place : ℕ) (left : List ℕ) : Type 0 where
  pub entries : all.entries ≡ es ++ (reading_from place left).entries
  pub fault : all.fault ≡ (reading_from place left).fault

module _ {all : Outcome} {es : List Entry} {place : ℕ} {left : List ℕ} (before : Sofar all es place left) where
  -- the next step of the reading
  on : (x : Next) → x ≡ next_at place left → (all.entries ≡ es ++ (onward reading_from x place left).entries) × (all.fault ≡ (onward reading_from x place left).fault)
  on x is = rw is (rw (← step place left) (before.entries, before.fault))

  pub ended : Ok None ≡ next_at place left → record { entries = es; fault = None } ≡ all
  ended is = let last = on (Ok None) is in grind (arith, common_steps)

  pub stopped : (f : Told) → Err f ≡ next_at place left → record { entries = es; fault = Some f } ≡ all
  stopped f is = let last = on (Err f) is in grind (arith, common_steps)

  -- a record more, as `next` gives it
  pub one_more : (o : Option Record) (r : Record) (next : ℕ) (rest : List ℕ) → o ≡ Some r → answered (Ok o) ≡ next_at place left → next ≡ place + taken (answered (Ok o)) → rest ≡ drop (taken (answered (Ok o))) left
      → Sofar all (es ++ entry r ∷ []) next rest
  one_more o r next rest some is at after =
      let more = on (Ok (Some (entry r))) (rw some at is) in
      rw (rw some at at, rw some at after) (record { entries = grind (arith, common_steps); fault = more.1 })
