-- SHAKE128 of FIPS 202: padding, absorbing blocks of 168 bytes, squeezing. Assumes nothing.
use Rattle.std.specs.Prelude.{ℕ, zero, suc, ◌+◌, ◌-◌, ◌*◌, ◌/◌, ◌%◌, List, [], ◌∷◌, ◌++◌, length, take, drop, replicate}
use Rattle.std.specs.List.{flat_map}
use Rattle.std.specs.Simd.Lanes.{number_l, digits_l}
use Rattle.hash.specs.Blocks.{absorbed, in_blocks}
use Rattle.hash.specs.Keccak.{Lanes, blank, lane, permuted, state}
use Rattle.hash.specs.Rows.{Row, Rule}
use Rattle.hash.specs.Words.{◌⊕◌}

-- word i of a list of bytes, the low byte first; 0 past the end
abbrev pub word : List ℕ → ℕ → ℕ
word bytes i = number_l 256 (take 8 (drop (8 * i) bytes))

-- a block added to the state: word 5y + x to the lane at x, y
abbrev pub mixed : Lanes → List ℕ → Lanes
mixed A block = state (λ x y. lane A x y ⊕ word block (5 * y + x))

-- the domain bits 1111 and the padding 10*1, in n + 1 bytes
abbrev pub pad : ℕ → List ℕ
pad zero = 0x9F ∷ []
pad (suc n) = 0x1F ∷ (replicate n 0 ++ 0x80 ∷ [])

-- what follows n bytes of input
abbrev pub padding : ℕ → List ℕ
padding n = pad (167 - n % 168)

-- one step of absorbing
abbrev pub absorb : Lanes → List ℕ → Lanes
absorb A block = permuted (mixed A block)

-- the state once all of a message and its padding is absorbed
unfoldable pub sponge : Lanes → List ℕ → Lanes
sponge A m = absorbed absorb 168 (length m / 168 + 1) A (m ++ padding (length m))

-- the bytes of lanes, the low byte of each first
abbrev pub lane_bytes : List ℕ → List ℕ
lane_bytes lanes = flat_map (digits_l 256 8) lanes

abbrev pub state_bytes : Lanes → List ℕ
state_bytes rows = flat_map lane_bytes rows

abbrev pub permuted_times : ℕ → Lanes → Lanes
permuted_times zero A = A
permuted_times (suc n) A = permuted_times n (permuted A)

-- the first 168 bytes of the state, of the permuted state, and so on
unfoldable pub squeezed : Lanes → Row
squeezed A = in_blocks 168 (λ n. state_bytes (permuted_times n A))

unfoldable pub shake128 : Rule
shake128 m = squeezed (sponge blank m)
