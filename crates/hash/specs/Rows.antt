-- Endless rows of bytes, and the rules that say which row an input gives. Assumes nothing.
use Rattle.std.specs.Prelude.{◌≡◌, ℕ, zero, suc, ◌+◌, ◌-◌, List, [], ◌∷◌, ◌++◌, take, drop}

-- an endless row of bytes, by its places
abbrev pub Row : Type 0
Row = ℕ → ℕ

-- the row without its first n bytes
abbrev pub past : ℕ → Row → Row
past n row k = row (n + k)

-- the first n bytes of the row
unfoldable pub front : ℕ → Row → List ℕ
front zero row = []
front (suc n) row = row 0 ∷ front n (past 1 row)

-- some bytes, and then a row
unfoldable pub ahead : List ℕ → Row → Row
ahead [] row k = row k
ahead (b ∷ bytes) row zero = b
ahead (b ∷ bytes) row (suc k) = ahead bytes row k

-- for every list of bytes that may still be fed, what comes out then
abbrev pub Rule : Type 0
Rule = List ℕ → Row

-- what is left of a rule once some bytes have been fed
abbrev pub after : {X : Type 0} → List ℕ → (List ℕ → X) → List ℕ → X
after bytes rule more = rule (bytes ++ more)

-- a rule behind a buffer: what is held goes first
abbrev pub holding : {X : Type 0} → List ℕ → ℕ → (List ℕ → X) → List ℕ → X
holding buffer count rule = after (take count buffer) rule

-- a row behind a buffer of which the bytes from one place to another are still to be read
abbrev pub unread : List ℕ → ℕ → ℕ → Row → Row
unread buffer from to = ahead (take (to - from) (drop from buffer))

-- some bytes are the next n of a row, and leave another row
pub record Gives (n : ℕ) (row : Row) (bytes : List ℕ) (left : Row) : Type 0 where
  pub filled : bytes ≡ front n row
  pub rest : left ≡ past n row
