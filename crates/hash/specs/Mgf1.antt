-- MGF1 of RFC 8017 over SHA-256, without an end. Assumes nothing.
use Rattle.std.specs.Prelude.{ℕ, ◌+◌, ◌%◌, ◌^◌, List, ◌++◌}
use Rattle.hash.specs.Blocks.{in_blocks}
use Rattle.hash.specs.Rows.{Row, Rule}
use Rattle.hash.specs.Sha256.{big_endian, sha256}

-- MGF1 over a hash with digests of 32 bytes: block n is the digest of the seed m and then n, in four bytes, high byte
-- first; blocks are counted modulo 2 ^ 32
abbrev pub mgf1_over : (List ℕ → List ℕ) → Rule
mgf1_over digest m = in_blocks 32 (λ n. digest (m ++ big_endian 4 (n % 2 ^ 32)))

unfoldable pub mgf1 : Rule
mgf1 = mgf1_over sha256

-- the blocks from number c on, of a hash that has taken the seed
abbrev pub mask_from : ℕ → (List ℕ → List ℕ) → Row
mask_from c digest = in_blocks 32 (λ n. digest (big_endian 4 ((c + n) % 2 ^ 32)))
