-- Laws of the sponge: one block more, the last block, and the bytes that come out.
use Rattle.std.specs.Prelude.{◌≡◌, ℕ, zero, suc, ◌+◌, ◌-◌, ◌/◌, ◌%◌, ◌<◌, ◌≤◌, List, [], ◌∷◌, ◌++◌, length, replicate, bit_xor, slice_index, slice_set, refl}
use Rattle.std.proofs.Common.{add-one, arith}
use Rattle.std.proofs.lemmas.List.{append_assoc, get_or_at, length-append, length-replicate, replicate_more, set_at, take_all}
use Rattle.hash.proofs.Feeding.{absorbed_block}
use Rattle.hash.specs.Keccak.{Lanes, permuted}
use Rattle.hash.specs.Shake128.{absorb, pad, mixed, padding, sponge}

length-pad : (n : ℕ) → length (pad n) ≡ suc n
length-pad zero = refl
length-pad (suc n) = simp (length-append, length-replicate, add-one)

-- a message that begins with a whole block
pub sponge_block : (A : Lanes) (b m : List ℕ) → length b ≡ 168 → sponge A (b ++ m) ≡ sponge (absorb A b) m
unfolding sponge
sponge_block A b m h =
    let count : length (b ++ m) / 168 + 1 ≡ suc (length m / 168 + 1) = omega (arith, length-append b m) in
    let rest : length (b ++ m) % 168 ≡ length m % 168 = omega (arith, length-append b m) in
    rw (count, rest, append_assoc) (absorbed_block absorb 168 (length m / 168 + 1) A b (m ++ padding (length m)) h)

-- a message of less than a block
pub sponge_last : (A : Lanes) (m : List ℕ) → length m < 168 → sponge A m ≡ permuted (mixed A (m ++ padding (length m)))
unfolding sponge
sponge_last A m h =
    let one : length m / 168 + 1 ≡ 1 = omega arith in
    let same : length m % 168 ≡ length m = omega arith in
    let long : length (m ++ pad (167 - length m)) ≤ 168 = simp (length-append, length-pad) (omega arith) in
    rw (one, same, take_all 168 (m ++ pad (167 - length m)) long)

-- what the code leaves in the last block
pub padded_is : (m : List ℕ) (n : ℕ) → length m + n ≡ 167 → (let block = m ++ 0x1F ∷ replicate n 0 in slice_set block 167 (bit_xor (slice_index block 167) 0x80) ≡ m ++ pad n)
padded_is m zero h =
    let e : length m ≡ 167 = omega arith in rw (get_or_at m 0x1F [] 0 167 e, set_at m 0x1F [] 0x9F 167 e)
padded_is m (suc n) h =
    let front = m ++ 0x1F ∷ replicate n 0 in
    let e : length front ≡ 167 = simp (length-append, length-replicate) (omega arith) in
    let block : m ++ 0x1F ∷ replicate (suc n) 0 ≡ front ++ 0 ∷ [] = simp (append_assoc, replicate_more, add-one) in
    rw (block, get_or_at front 0 [] 0 167 e, set_at front 0 [] 0x80 167 e, append_assoc)
