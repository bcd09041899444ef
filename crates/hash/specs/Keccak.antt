-- The permutation Keccak-f[1600] of FIPS 202, on lanes of 64 bits. Assumes nothing.
use Rattle.std.specs.Prelude.{ℕ, zero, suc, ◌+◌, ◌-◌, ◌*◌, ◌/◌, ◌%◌, ◌^◌, cond, ◌&&◌, List, [], ◌∷◌, map, ◌==◌, bit_and, bit_or, nat_le, slice_index, slice_index_or, slice_set}
use Rattle.std.specs.List.{range_with_len}
use Rattle.hash.specs.Words.{complement, ◌⊕◌}

-- a state: five rows of five lanes, of which each has one y
abbrev pub Lanes : Type 0
Lanes = List (List ℕ)

abbrev pub lane : Lanes → ℕ → ℕ → ℕ
lane A x y = slice_index (slice_index_or A y []) x

-- what stands at each of five places
abbrev pub five : {X : Type 0} → (ℕ → X) → List X
five f = f 0 ∷ f 1 ∷ f 2 ∷ f 3 ∷ f 4 ∷ []

-- the state with a given lane at each x and y
abbrev pub state : (ℕ → ℕ → ℕ) → Lanes
state f = five (λ y. five (λ x. f x y))

abbrev pub blank : Lanes
blank = state (λ x y. 0)

-- a lane turned left by n bits
abbrev pub rotated : ℕ → ℕ → ℕ
rotated w n = bit_or ((w * 2 ^ (n % 64)) % 2 ^ 64) (w / 2 ^ ((64 - n % 64) % 64))

-- the sum of a column
abbrev pub parity : Lanes → ℕ → ℕ
parity A x = lane A x 0 ⊕ lane A x 1 ⊕ lane A x 2 ⊕ lane A x 3 ⊕ lane A x 4

-- what θ adds to each lane of a column
abbrev pub effect : Lanes → ℕ → ℕ
effect A x = parity A ((x + 4) % 5) ⊕ rotated (parity A ((x + 1) % 5)) 1

abbrev pub θ : Lanes → Lanes
θ A = state (λ x y. lane A x y ⊕ effect A x)

-- The distances of ρ. A walk starts at lane (1, 0) and steps from (x, y) to (y, 2x + 3y); its lane at step t is turned
-- by (t + 1)(t + 2) / 2 bits. The walk meets every lane but (0, 0), which stays.
abbrev pub distance_from : ℕ → ℕ → ℕ → ℕ → ℕ → ℕ → ℕ
distance_from zero t a b x y = 0
distance_from (suc steps) t a b x y = cond (a == x && b == y) ((t + 1) * (t + 2) / 2 % 64) (distance_from steps (t + 1) b ((2 * a + 3 * b) % 5) x y)

unfoldable pub distance : ℕ → ℕ → ℕ
distance = distance_from 24 0 1 0

abbrev pub ρ : Lanes → Lanes
ρ A = state (λ x y. rotated (lane A x y) (distance x y))

abbrev pub π : Lanes → Lanes
π A = state (λ x y. lane A ((x + 3 * y) % 5) x)

abbrev pub χ : Lanes → Lanes
χ A = state (λ x y. lane A x y ⊕ bit_and (complement 64 (lane A ((x + 1) % 5) y)) (lane A ((x + 2) % 5) y))

-- The round constants. A register of eight bits, of which bit 0 comes out, is doubled at each step modulo
-- X^8 + X^6 + X^5 + X^4 + 1.
abbrev pub register : ℕ → ℕ
register zero = 1
register (suc t) = cond (nat_le 128 (register t)) (2 * register t ⊕ 0b101110001) (2 * register t)

-- bit 2^j - 1 of the constant of round i is the register's output at step j + 7i, for j from 0 to 6
unfoldable pub round_constant : ℕ → ℕ
round_constant i = bit 0 + bit 1 + bit 2 + bit 3 + bit 4 + bit 5 + bit 6
  where
    bit : ℕ → ℕ
    bit j = register (j + 7 * i) % 2 * 2 ^ (2 ^ j - 1)

abbrev pub ι : ℕ → Lanes → Lanes
ι constant A = slice_set A 0 (slice_set (slice_index_or A 0 []) 0 (lane A 0 0 ⊕ constant))

unfoldable pub round : ℕ → Lanes → Lanes
round constant A = ι constant (χ (π (ρ (θ A))))

unfoldable pub rounds : List ℕ → Lanes → Lanes
rounds [] A = A
rounds (constant ∷ more) A = rounds more (round constant A)

unfoldable pub constants : List ℕ
constants = map round_constant (range_with_len 0 24)

unfoldable pub permuted : Lanes → Lanes
permuted = rounds constants
