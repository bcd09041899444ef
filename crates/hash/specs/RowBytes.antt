-- Every byte of a row is below 256. An implementation of a hash cites these proofs, so they stand beside the definitions.
use Rattle.std.specs.Prelude.{ℕ, zero, suc, ◌/◌, ◌%◌, ◌<◌, List, [], ◌∷◌, ◌++◌, slice_index}
use Rattle.std.specs.List.{flat_map}
use Rattle.std.specs.Simd.Lanes.{digits_l}
use Rattle.std.proofs.Common.{arith, rules}
use Rattle.std.proofs.lemmas.List.{places}
use Rattle.std.proofs.lemmas.Nat.{mod_below}
use Rattle.hash.specs.Keccak.{Lanes}
use Rattle.hash.specs.Sha256.{big_endian, chain_bytes, digest_from}
use Rattle.hash.specs.Shake128.{lane_bytes, permuted_times, shake128, sponge, squeezed, state_bytes}

below-append : (xs ys : List ℕ) → ((k : ℕ) → slice_index xs k < 256) → ((k : ℕ) → slice_index ys k < 256) → (k : ℕ) → slice_index (xs ++ ys) k < 256
below-append xs ys p q k = grind (arith, places, p, q)

below-flat_map : {X : Type 0} (f : X → List ℕ) (xs : List X) → ((x : X) (k : ℕ) → slice_index (f x) k < 256) → (k : ℕ) → slice_index (flat_map f xs) k < 256
below-flat_map f [] p k = omega arith
below-flat_map f (x ∷ xs) p k = below-append (f x) (flat_map f xs) (p x) (below-flat_map f xs p) k

digits_below : (n w k : ℕ) → slice_index (digits_l 256 n w) k < 256
digits_below zero w k = omega arith
digits_below (suc n) w k = grind (arith, places, mod_below w 256, digits_below n (w / 256))

lanes_below : (lanes : List ℕ) (k : ℕ) → slice_index (lane_bytes lanes) k < 256
lanes_below lanes = below-flat_map (digits_l 256 8) lanes (digits_below 8)

state_below : (A : Lanes) (k : ℕ) → slice_index (state_bytes A) k < 256
state_below A = below-flat_map lane_bytes A lanes_below

pub shake128_below : (m : List ℕ) (k : ℕ) → shake128 m k < 256
unfolding shake128 squeezed
shake128_below m k = state_below (permuted_times (k / 168) (sponge _ m)) (k % 168)

word_below : (w k : ℕ) → slice_index (big_endian 4 w) k < 256
unfolding big_endian
word_below w k = search (rules, mod_below)

bytes_below : (x : List ℕ) (k : ℕ) → slice_index (chain_bytes x) k < 256
bytes_below x = below-flat_map (big_endian 4) x word_below

pub digest_below : (x : List ℕ) (n : ℕ) (m : List ℕ) (k : ℕ) → slice_index (digest_from x n m) k < 256
unfolding digest_from
digest_below x n m k = bytes_below _ k
