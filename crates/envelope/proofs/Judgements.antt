-- Why the answer of the judge is exact. Assumes nothing.
use Rattle.std.proofs.Common.{◌≡◌, ℕ, List, length, Some, None, Option, refl, arith}
use Rattle.std.proofs.lemmas.Bool.Decides.{nat_tests}
use Rattle.fault.specs.Numbers.{Told}
use Rattle.envelope.specs.Judging.{Item, couple_of, judged, judgement, Exact}
use Rattle.envelope.specs.Law.{Faithful}
use Rattle.envelope.specs.Reading.{Outcome}
use Rattle.envelope.proofs.Faithfulness.{law}

-- where a reading is faithful, what is judged of it is exact
judged_exact : (bytes : List ℕ) (o : Outcome) → Faithful bytes o → Exact bytes (judged o.fault o.entries (length bytes))
judged_exact bytes o faithful = go o.fault refl (couple_of o.entries) refl
  where
    go : (f : Option Told) → o.fault ≡ f → (c : Option (Item × Item)) → couple_of o.entries ≡ c → Exact bytes (judged f o.entries (length bytes))
    go (Some f) is c are = λ k s c. let only = faithful.only c.entries c.placed c.whole in grind arith
    go None none (Some c) are = rw are (record { entries = o.entries; placed = faithful.placed; whole = faithful.whole none; couples = grind (arith, nat_tests) })
    go None none None are = rw are (λ k s c. let only = faithful.only c.entries c.placed c.whole in let couples = c.couples in grind (arith, nat_tests))

-- the law of the judgement
pub exact : (bytes : List ℕ) → Exact bytes (judgement bytes)
exact bytes = judged_exact bytes _ (law bytes)
