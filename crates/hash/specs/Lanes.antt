-- What the state in the code stands for, and a row after χ. Assumes nothing.
use Rattle.std.specs.Prelude.{ℕ, ◌+◌, ◌%◌, List, map, bit_and, slice_index, slice_index_or}
use Rattle.hash.specs.declared.keccak.State.{State}
use Rattle.hash.specs.Words.{complement, ◌⊕◌}
use Rattle.hash.specs.Keccak.{Lanes, five}

abbrev pub lanes_of : State → Lanes
lanes_of s = map (λ row. row.lanes) s.rows

-- a row after χ
abbrev pub χ_row : List ℕ → List ℕ
χ_row row = five (λ x. slice_index_or row x 0 ⊕ bit_and (complement 64 (slice_index row ((x + 1) % 5))) (slice_index row ((x + 2) % 5)))
