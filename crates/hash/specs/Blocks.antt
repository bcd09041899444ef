-- Input taken, and output given, block by block. Assumes nothing.
use Rattle.std.specs.Prelude.{ℕ, zero, suc, ◌/◌, ◌%◌, List, take, drop, slice_index}
use Rattle.hash.specs.Rows.{Row}

-- n blocks of the given size, from the front of the bytes, taken one after the other
abbrev pub absorbed : {S : Type 0} → (S → List ℕ → S) → ℕ → ℕ → S → List ℕ → S
absorbed f size zero s bytes = s
absorbed f size (suc n) s bytes = absorbed f size n (f s (take size bytes)) (drop size bytes)

-- the row of which the given blocks, each cut to the given size, are the parts
abbrev pub in_blocks : ℕ → (ℕ → List ℕ) → Row
in_blocks size blocks k = slice_index (blocks (k / size)) (k % size)
