-- What the layers between pieces and blocks mean. Assumes nothing.
use Rattle.std.specs.Prelude.{ℕ, List, take}
use Rattle.hash.specs.declared.block_input.BlockInput.{BlockInput}
use Rattle.hash.specs.declared.block_input.Held.{Held}
use Rattle.hash.specs.declared.block_output.BlockOutput.{BlockOutput}
use Rattle.hash.specs.Rows.{Row, holding, unread}

-- the bytes that are held
abbrev pub held_bytes : {n : ℕ} → Held n → List ℕ
held_bytes held = take held.count held.buffer

-- what comes out of a block input, for every list of bytes that may still be fed, by what comes out below it
abbrev pub input_answer : {A X : Type 0} {n : ℕ} → (A → List ℕ → X) → BlockInput A (Held n) → List ℕ → X
input_answer answer input = holding input.held.buffer input.held.count (answer input.below)

-- what is still to be read from a block output, by what is still to come below it
abbrev pub output_row : {S : Type 0} {n : ℕ} → (S → Row) → BlockOutput S n → Row
output_row {n} row output = unread output.buffer output.place n (row output.below)
