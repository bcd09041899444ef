-- Laws of SHA-256: padding, one block more, and the form of a digest.
use Rattle.std.specs.Prelude.{◌≡◌, ℕ, zero, suc, ◌+◌, ◌-◌, ◌*◌, ◌/◌, ◌%◌, ◌^◌, ◌<◌, ◌≤◌, List, [], ◌∷◌, ◌++◌, length, take, drop, replicate}
use Rattle.std.proofs.Common.{sym, refl, ◌∙◌, div-one, arith}
use Rattle.std.proofs.Math.Path.{ap}
use borrow.Rule.Slice.PartMut.{put_mid}
use Rattle.std.proofs.lemmas.List.{append_assoc, append-nil, drop_all, drop-drop, length-append, length-take-le, replicate-append-replicate, places, take_all, take-replicate}
use Rattle.std.proofs.Math.Seq.{take-append-add}
use Rattle.hash.proofs.Feeding.{absorbed_block}
use Rattle.hash.specs.Blocks.{absorbed}
use Rattle.hash.specs.Sha256.{big_endian, chain_bytes, compressed, digest_from, hashed, initial, padding, sha256}

-- a digest depends on the count of the bytes before only modulo 2 ^ 61
pub digest-mod : (x : List ℕ) (n k : ℕ) (m : List ℕ) → n % 2 ^ 61 ≡ k % 2 ^ 61 → digest_from x n m ≡ digest_from x k m
unfolding digest_from
digest-mod x n k m h =
    let same : padding (n + length m) ≡ padding (k + length m) = grind arith in rw same

hashed_block : (x b p : List ℕ) → length b ≡ 64 → hashed x (b ++ p) ≡ hashed (compressed x b) p
hashed_block x b p h =
    let n : length (b ++ p) / 64 ≡ suc (length p / 64) = omega (arith, length-append b p) in
    rw n (absorbed_block compressed 64 (length p / 64) x b p h)

hashed_one : (x b : List ℕ) → length b ≡ 64 → hashed x b ≡ compressed x b
hashed_one x b h = let n : length b / 64 ≡ 1 = omega arith in rw (n, take_all 64 b (omega arith))

-- one block more before the message goes on
pub digest_block : (x b m : List ℕ) (n : ℕ) → length b ≡ 64
    → digest_from x n (b ++ m) ≡ digest_from (compressed x b) ((n + 64) % 2 ^ 61) m
unfolding digest_from
digest_block x b m n h =
    let e : padding (n + length (b ++ m)) ≡ padding ((n + 64) % 2 ^ 61 + length m) = grind (arith, length-append b m) in
    rw (e, append_assoc) (ap chain_bytes (hashed_block x b (m ++ padding ((n + 64) % 2 ^ 61 + length m)) h))

pub length-big_endian : (n x : ℕ) → length (big_endian n x) ≡ n
unfolding big_endian
length-big_endian zero x = refl
length-big_endian (suc n) x = ap suc (length-big_endian n x)

-- the block with the bytes h, a one bit and zeros
abbrev marked : List ℕ → List ℕ
marked h = h ++ 0x80 ∷ replicate (63 - length h) 0

-- the bytes h and their padding, with q for the length: in one block, or in two
module _ (h q : List ℕ) where
  in_one : length h < 56 → h ++ (0x80 ∷ replicate ((119 - length h) % 64) 0 ++ q) ≡ take 56 (marked h) ++ q
  in_one l =
      let z : (119 - length h) % 64 ≡ 55 - length h = omega arith in
      let y : 56 ≡ length h + suc (55 - length h) = omega arith in
      let r = take-replicate {X = ℕ} (55 - length h) (63 - length h) 0 (omega arith) in
      rw (z, y, take-append-add h (0x80 ∷ replicate (63 - length h) 0), r, append_assoc h (0x80 ∷ replicate (55 - length h) 0) q)

  in_two : 56 ≤ length h → length h < 64 → h ++ (0x80 ∷ replicate ((119 - length h) % 64) 0 ++ q) ≡ marked h ++ (replicate 56 0 ++ q)
  in_two g l =
      let z : (119 - length h) % 64 ≡ 63 - length h + 56 = omega arith in
      rw (z, ← replicate-append-replicate {A = ℕ} (63 - length h) 56 0) (simp append_assoc)

-- the last blocks of a message that ends with h
module _ (x h : List ℕ) (n t : ℕ) (whole : n % 64 ≡ 0) (count : (n + length h) % 2 ^ 61 ≡ t % 2 ^ 61) (l : length h < 64) where
  padding_is : padding (n + length h) ≡ 0x80 ∷ replicate ((119 - length h) % 64) 0 ++ big_endian 8 (8 * (t % 2 ^ 61))
  padding_is = let z : (n + length h) % 64 ≡ length h = omega arith in rw (z, count)

  long : length (marked h) ≡ 64
  long = grind (arith, places)

  pub digest_short : length h < 56 → chain_bytes (compressed x (take 56 (marked h) ++ big_endian 8 (8 * (t % 2 ^ 61)))) ≡ digest_from x n h
  unfolding digest_from big_endian
  digest_short s =
      let q = big_endian 8 (8 * (t % 2 ^ 61)) in
      let k : length (take 56 (marked h) ++ q) ≡ 64 = omega (arith, long, length-append (take 56 (marked h)) q, length-take-le 56 (marked h) (omega (arith, long))) in
      sym (ap chain_bytes (ap (hashed x) (ap (λ p. h ++ p) padding_is ∙ in_one h q s) ∙ hashed_one x (take 56 (marked h) ++ q) k))

  pub digest_long : 56 ≤ length h → chain_bytes (compressed (compressed x (marked h)) (replicate 56 0 ++ big_endian 8 (8 * (t % 2 ^ 61)))) ≡ digest_from x n h
  unfolding digest_from big_endian
  digest_long g =
      let q = big_endian 8 (8 * (t % 2 ^ 61)) in
      sym (ap chain_bytes (ap (hashed x) (ap (λ p. h ++ p) padding_is ∙ in_two h q g l) ∙ hashed_block x (marked h) (replicate 56 0 ++ q) long ∙ hashed_one (compressed x (marked h)) (replicate 56 0 ++ q) refl))

-- what the code leaves in a block
pub counted_is : (b z : List ℕ) (t : ℕ) → length b ≡ 64 → z ≡ big_endian 8 (8 * (t % 2 ^ 61))
    → put_mid 56 8 b z ≡ take 56 b ++ big_endian 8 (8 * (t % 2 ^ 61))
counted_is b z t h e = rw (e, drop-drop, drop_all 64 b (omega arith), append-nil)

-- bytes as the code splits a number
pub word_bytes : (w : ℕ) → (w / 16777216 % 256) ∷ (w / 65536 % 256) ∷ (w / 256 % 256) ∷ (w % 256) ∷ [] ≡ big_endian 4 w
unfolding big_endian
word_bytes w = grind arith

pub count_bytes : (t x : ℕ) → x ≡ (t * 8) % 2 ^ 64
    → (x / 72057594037927936 % 256) ∷ (x / 281474976710656 % 256) ∷ (x / 1099511627776 % 256) ∷ (x / 4294967296 % 256) ∷ (x / 16777216 % 256) ∷ (x / 65536 % 256) ∷ (x / 256 % 256) ∷ (x % 256) ∷ []
    ≡ big_endian 8 (8 * (t % 2 ^ 61))
unfolding big_endian
count_bytes t x e = let f : 8 * (t % 2 ^ 61) ≡ x = omega arith in rw (f, div-one x)

length-absorbed : (k : ℕ) (x p : List ℕ) → length x ≡ 8 → length (absorbed compressed 64 k x p) ≡ 8
unfolding compressed
length-absorbed zero x p h = h
length-absorbed (suc k) x p h = length-absorbed k (compressed x (take 64 p)) (drop 64 p) refl

length-chain_bytes : (x : List ℕ) → length (chain_bytes x) ≡ 4 * length x
unfolding big_endian
length-chain_bytes [] = refl
length-chain_bytes (w ∷ ws) = omega (arith, length-chain_bytes ws)

-- a digest has 32 bytes, for every list that is hashed
pub length-digest : (x : List ℕ) (n : ℕ) (m : List ℕ) → length x ≡ 8 → length (digest_from x n m) ≡ 32
unfolding digest_from
length-digest x n m h =
    let p = m ++ padding (n + length m) in
    omega (arith, length-chain_bytes (hashed x p), length-absorbed (length p / 64) x p h)

pub length-initial : length initial ≡ 8
unfolding initial
length-initial = refl

pub length-sha256 : (m : List ℕ) → length (sha256 m) ≡ 32
unfolding sha256
length-sha256 m = length-digest initial 0 m length-initial
