-- Laws of lists.
use Rattle.std.specs.Simd.{first_chunks}
use Rattle.std.proofs.Common.{◌≡◌, ℕ, zero, suc, ◌+◌, ◌*◌, ◌<◌, List, map, length, get_or, take, drop, sym, ◌∙◌, arith}
use Rattle.std.proofs.lemmas.List.{drop-drop, ext_get_or, get_or-map, length-map}

-- a list cut into parts of one length
pub chunk_at : {X : Type 0} (n k i : ℕ) (xs d : List X) → i < k → get_or (first_chunks n k xs) i d ≡ take n (drop (i * n) xs)
chunk_at n zero i xs d h = absurd (omega arith)
chunk_at n (suc k) zero xs d h = grind arith
chunk_at n (suc k) (suc i) xs d h =
    let next : suc i * n ≡ n + i * n = omega arith in rw (next, ← drop-drop) (chunk_at n k i (drop n xs) d (omega arith))

-- a list of what a function gives of each element of another
pub mapped : {X Y : Type 0} (f : X → Y) (n : ℕ) (xs : List X) (ys : List Y) (d : X) (e : Y) → length xs ≡ n → length ys ≡ n → ((k : ℕ) → k < n → get_or ys k e ≡ f (get_or xs k d)) → ys ≡ map f xs
mapped f n xs ys d e h l at =
    ext_get_or e ys (map f xs) (l ∙ sym h ∙ sym (length-map xs f)) (λ k b. at k (omega arith) ∙ sym (get_or-map f xs k d e (omega arith)))
